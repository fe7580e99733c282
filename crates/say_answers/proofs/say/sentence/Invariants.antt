-- What is left of the sentence starts within it.
use Rattle.std.proofs.Common.{length, ◌≤◌}
use Rattle.say_answers.proofs.say.sentence.Given as goal

abbrev pub invariant-loop-number : goal.invariant-loop-number
invariant-loop-number g l = l.start ≤ length l.s
