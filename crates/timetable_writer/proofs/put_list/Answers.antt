-- `timetable_writer::put_list` meets its contract: after each turn the list so far is written. Assumes nothing.
use native.Mathlib.Omega.{arith}
use mathlib.Core.Path.{refl}
use borrow.Author.Rules.{rules}
use Rattle.text_write.proofs.Growing.{growing_none, growing_more, growing_all}
use Rattle.timetable_writer.proofs.RowTexts.{list-more}
use Rattle.timetable_writer.proofs.put_list.Goals as goal

pub loop-j-init : goal.loop-j-init
loop-j-init c = growing_none refl (search rules)

pub loop-j-preserved : goal.loop-j-preserved
loop-j-preserved c =
    let at = c.loop-j in
    let a = c.args in
    growing_more at.invariant c.loop-j-test.true (list-more a.configurations.now a.first at.j c.configuration_at-c.ensures) c.put_entry-place.ensures (omega arith)

pub returns : goal.returns
returns c = growing_all c.loop-j.invariant c.loop-j-test.false refl
