-- A digit more leads on. Assumes nothing.
use borrow.Author.Rules.{rules}
use Rattle.profiles_sample.proofs.Looks.{running_next}
use Rattle.profiles_sample.proofs.digit_run.Goals as goal

pub loop-i-preserved : goal.loop-i-preserved
loop-i-preserved c = search (running_next, rules)
