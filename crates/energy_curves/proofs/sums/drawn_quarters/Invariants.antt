-- `energy_curves::sums::drawn_quarters` meets its contract. The loop's invariant: the sums are those of the subnets passed. Assumes nothing.
use Prim.Native.Nat.{◌≤◌}
use mathlib.Core.Path.{◌≡◌}
use Rattle.energy_curves.specs.Curves.{quarters_in}
use Rattle.energy_curves.proofs.sums.drawn_quarters.Given as goal

abbrev pub invariant-loop-s : goal.invariant-loop-s
invariant-loop-s l = (l.s ≤ l.n) × (l.sums ≡ quarters_in l.h l.curves l.s)
