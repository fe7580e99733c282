-- A byte that is not plain goes to the marks. Assumes nothing.
use borrow.Author.Rules.{rules}
use Rattle.profiles.proofs.Feed.{pass_step, crossing}
use Rattle.profiles.proofs.reader.cross_byte.Goals as goal

pub overflow_add-from : goal.overflow_add-from
overflow_add-from c = let one = pass_step c.pass-passed.ensures in search rules

pub skip-moved-requires : goal.skip-moved-requires
skip-moved-requires c = let one = pass_step c.pass-passed.ensures in search rules

pub returns : goal.returns
returns c = search (crossing, rules)
