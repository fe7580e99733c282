-- `merge_text::put_merged` meets its contract: the header, then the rows. Assumes nothing.
use native.Mathlib.Omega.{arith}
use Rattle.rules.specs.Merge.{text_of}
use Rattle.merge_text.specs.Merges.{merged_in, rows_text}
use Rattle.text_write.proofs.Writing.{written_then}
use Rattle.merge_text.proofs.put_merged.Goals as goal

pub returns : goal.returns
unfolding text_of
returns c =
    let a = c.args in
    written_then {v = rows_text (merged_in a.direction a.n a.legs.now a.configurations.now a.first.now a.second.now)}
    c.put_header-after.ensures c.put_rows.ensures (omega arith)
