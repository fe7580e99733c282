-- `merge_text::put_rows` meets its contract: after each turn the rows so far are written. Assumes nothing.
use Rattle.text_write.proofs.Growing.{Growing}
use Rattle.merge_text.proofs.Merging.{merged_text}
use Rattle.merge_text.proofs.put_rows.Given as goal

abbrev pub invariant-loop-i : goal.invariant-loop-i
invariant-loop-i l =
    Growing (merged_text l.direction l.legs l.configurations l.first l.second) l.n l.initial.text l.at l.text l.place l.i
