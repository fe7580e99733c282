-- `earliest_search::leaving::restore` meets its contract. Assumes nothing.
use Rattle.earliest_search.proofs.Back.{Restoring}
use Rattle.earliest_search.proofs.leaving.restore.Given as goal

abbrev pub invariant-loop-i : goal.invariant-loop-i
invariant-loop-i l = Restoring l.n l.initial.legs l.i l.legs
