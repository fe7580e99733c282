-- `earliest_search::rounds::raise_all` meets its contract. The measure: the offers that leave after the choices. Assumes nothing.
use Rattle.earliest_search.specs.Searching.{ahead_in}
use Rattle.earliest_search.proofs.Passes.{Raising}
use Rattle.earliest_search.proofs.rounds.raise_all.Given as goal

abbrev pub invariant-rounds : goal.invariant-rounds
invariant-rounds l = Raising l.n l.m l.initial.legs l.configurations l.constraints l.legs

abbrev pub decreases-rounds : goal.decreases-rounds
decreases-rounds l = ahead_in l.n l.legs l.configurations
