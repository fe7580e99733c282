-- `energy_curves::sums::total_at` meets its contract. The loop's invariant: the sum is that of the subnets passed. Assumes nothing.
use Prim.Native.Nat.{◌≤◌}
use mathlib.Core.Path.{◌≡◌}
use Rattle.energy_curves.specs.Curves.{total_in}
use Rattle.energy_curves.proofs.sums.total_at.Given as goal

abbrev pub invariant-loop-s : goal.invariant-loop-s
invariant-loop-s l = (l.s ≤ l.n) × (l.sum ≡ total_in l.h l.curves l.s l.t)
