-- `energy_parts::quarters::greatest_of` meets its contract. The loop's invariant: the peak of the sums passed. Assumes nothing.
use Prim.Native.Nat.{◌≤◌}
use mathlib.Core.Path.{◌≡◌}
use Rattle.rules.specs.Limits.{most_quarters}
use Rattle.energy_parts.proofs.QuarterSums.{greatest_to}
use Rattle.energy_parts.proofs.quarters.greatest_of.Given as goal

abbrev pub invariant-loop-k : goal.invariant-loop-k
invariant-loop-k l = (l.k ≤ most_quarters) × (l.best ≡ greatest_to l.fn.sums l.k)
