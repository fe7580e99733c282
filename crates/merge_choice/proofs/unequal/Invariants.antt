-- `merge_choice::unequal` meets its contract: what is left from the loop's row on has the same first unequal row. Assumes nothing.
use mathlib.Core.Path.{◌≡◌}
use Rattle.merge_choice.proofs.EqualTravel.{unequal_after}
use Rattle.merge_choice.proofs.unequal.Given as goal

abbrev pub invariant-loop-i : goal.invariant-loop-i
invariant-loop-i l = unequal_after l.n l.first l.second l.i ≡ unequal_after l.n l.first l.second 0
