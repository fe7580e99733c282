-- `earliest_search::starts::first_choices` meets its contract. Assumes nothing.
use Rattle.earliest_search.proofs.Beginning.{Beginning}
use Rattle.earliest_search.proofs.starts.first_choices.Given as goal

abbrev pub invariant-loop-i : goal.invariant-loop-i
invariant-loop-i l = Beginning l.n l.initial.legs l.configurations l.i l.legs
