-- A digit more past the point leads on. Assumes nothing.
use borrow.Author.Rules.{rules}
use Rattle.profiles_sample.proofs.Looks.{fractioning_next}
use Rattle.profiles_sample.proofs.fraction_at.Goals as goal

pub loop-i-preserved : goal.loop-i-preserved
loop-i-preserved c = search (fractioning_next, rules)
