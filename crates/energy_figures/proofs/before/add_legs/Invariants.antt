-- `energy_figures::before::add_legs` meets its contract. The loop's invariant: the sums are those of the legs passed. Assumes nothing.
use Prim.Native.Nat.{◌≤◌}
use mathlib.Core.Path.{◌≡◌}
use Rattle.energy_figures.specs.Given.{runs}
use Rattle.energy_figures.specs.Before.{before_sums}
use Rattle.energy_figures.proofs.before.add_legs.Given as goal

abbrev pub invariant-loop-i : goal.invariant-loop-i
invariant-loop-i l = (l.i ≤ l.counts.legs) × (l.sum ≡ before_sums l.h (runs l.counts l.choices l.profiles l.samples) l.i)
