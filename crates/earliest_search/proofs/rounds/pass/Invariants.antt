-- `earliest_search::rounds::pass` meets its contract. The invariant: no leg is too late, and while nothing was moved every record looked at is kept. Assumes nothing.
use Rattle.earliest_search.proofs.Passes.{Passing}
use Rattle.earliest_search.proofs.rounds.pass.Given as goal

abbrev pub invariant-loop-i : goal.invariant-loop-i
invariant-loop-i l = Passing l.n l.m l.initial.legs l.configurations l.constraints l.quiet l.i l.legs
