-- Such a byte, or the whole id in quotes that it opens. Assumes nothing.
use borrow.Author.Rules.{rules}
use Rattle.profiles.proofs.Feed.{crossing}
use Rattle.profiles.proofs.reader.cross.Goals as goal

pub returns-in_default-n : goal.returns-in_default-n
returns-in_default-n c = search (crossing, rules)

pub returns-in_default-mark : goal.returns-in_default-mark
returns-in_default-mark c = search (crossing, rules)

pub returns-in_default-head_at : goal.returns-in_default-head_at
returns-in_default-head_at c = search (crossing, rules)

pub returns : goal.returns
returns c = search (crossing, rules)
