-- `energy_curves::sums::drawn_quarters` meets its contract. The loop's invariant: the sums are those of the subnets passed. Assumes nothing.
use native.Mathlib.Omega.{arith}
use borrow.Author.Rules.{rules}
use Rattle.energy_curves.proofs.CurveSums.{no_quarters, row_room, row_added}
use Rattle.energy_curves.proofs.sums.drawn_quarters.Goals as goal

pub loop-s-init : goal.loop-s-init
loop-s-init c = (omega arith, no_quarters _ _ _ c.requires)

pub add_run-more-requires : goal.add_run-more-requires
add_run-more-requires c = search (row_room, rules)

pub loop-s-preserved : goal.loop-s-preserved
loop-s-preserved c =
    let l = c.loop-s in
    (omega arith, row_added _ _ _ c.requires l.s c.loop-s-test.true l.sums l.invariant.1 _ c.add_run-more.ensures)
