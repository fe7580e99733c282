-- `earliest_search::leaving::unpack_choices` meets its contract. Assumes nothing.
use Rattle.earliest_search.proofs.Back.{Unpacking}
use Rattle.earliest_search.proofs.leaving.unpack_choices.Given as goal

abbrev pub invariant-loop-i : goal.invariant-loop-i
invariant-loop-i l = Unpacking l.n l.legs l.configurations l.initial.choices l.i l.choices
