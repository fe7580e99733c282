-- `merge_text::put_rows` meets its contract: after each turn the rows so far are written. Assumes nothing.
use native.Mathlib.Omega.{arith}
use mathlib.Core.Path.{refl}
use borrow.Author.Rules.{rules}
use Rattle.text_write.proofs.Growing.{growing_none, growing_more, growing_all}
use Rattle.merge_text.proofs.Merging.{merged_all, merged-more}
use Rattle.merge_text.proofs.put_rows.Goals as goal

pub loop-i-init : goal.loop-i-init
loop-i-init c = growing_none refl (search rules)

pub loop-i-preserved : goal.loop-i-preserved
loop-i-preserved c =
    let at = c.loop-i in
    let a = c.args in
    growing_more at.invariant c.loop-i-test.true
    (merged-more a.direction a.legs.now a.configurations.now a.first.now a.second.now at.i c.leg_at-leg.ensures c.configuration_at-a.ensures
    c.configuration_at-b.ensures c.choose-chosen.ensures)
    c.put_row-place.ensures (omega arith)

pub returns : goal.returns
returns c =
    let a = c.args in
    growing_all c.loop-i.invariant c.loop-i-test.false (merged_all a.direction a.legs.now a.configurations.now a.first.now a.second.now a.n)
