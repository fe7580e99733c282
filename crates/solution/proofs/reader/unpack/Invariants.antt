-- Each turn puts one choice where its id and itself stood. Assumes nothing.
use Rattle.solution.proofs.Unpacking.{Unpacks}
use Rattle.solution.proofs.reader.unpack.Given as goal

abbrev pub invariant-loop-i : goal.invariant-loop-i
invariant-loop-i l = Unpacks l.n l.initial.choices l.i l.choices
