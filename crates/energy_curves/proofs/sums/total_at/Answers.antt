-- `energy_curves::sums::total_at` meets its contract. The loop's invariant: the sum is that of the subnets passed. Assumes nothing.
use native.Mathlib.Omega.{arith}
use borrow.Author.Rules.{rules}
use Rattle.energy_curves.proofs.Totals.{total_adds, total_added}
use Rattle.energy_curves.proofs.sums.total_at.Goals as goal

pub overflow_add-sum-in-loop-s : goal.overflow_add-sum-in-loop-s
overflow_add-sum-in-loop-s c = search (total_adds, rules)

pub loop-s-preserved : goal.loop-s-preserved
loop-s-preserved c = (omega arith, search (total_added, rules))
