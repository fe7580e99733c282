-- A fault is the answer, whatever follows. Assumes nothing.
use borrow.Author.Rules.{rules}
use Rattle.profiles.proofs.Feed.{feeding}
use Rattle.profiles.proofs.reader.skip.Goals as goal

pub returns : goal.returns
returns c = search (feeding, rules)
