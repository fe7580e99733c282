-- `say_words::names::line` meets its contract, by the laws of `Lines`: the lines that are left from a line's start on. Assumes nothing.
use Rattle.say_words.proofs.Lines.{Left}
use Rattle.rules.specs.Bytes.{line_feed}
use Rattle.say_words.proofs.names.line.Given as goal

abbrev pub invariant-loop-i : goal.invariant-loop-i
invariant-loop-i l = Left line_feed l.s l.k l.start l.i
