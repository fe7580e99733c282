-- Whole samples where a sample begins and contents may follow, and nothing elsewhere. Assumes nothing.
use borrow.Author.Rules.{rules}
use Rattle.profiles.proofs.Feed.{feeding}
use Rattle.profiles.proofs.reader.quicken.Goals as goal

pub returns-in_default : goal.returns-in_default
returns-in_default c = search (feeding, rules)

pub returns-then-contents : goal.returns-then-contents
returns-then-contents c = search (feeding, rules)
