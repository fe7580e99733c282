-- What is left decides as the whole does. Assumes nothing.
use borrow.Author.Rules.{rules}
use Rattle.duties_fields.proofs.Naming.{name_next, name_not, name_all}
use Rattle.duties_fields.proofs.names.is_name.Goals as goal

pub loop-b-preserved : goal.loop-b-preserved
loop-b-preserved c = search (name_next, rules)

pub returns-then-not-in_name : goal.returns-then-not-in_name
returns-then-not-in_name c = search (name_not, rules)

pub returns : goal.returns
returns c = search (name_all, rules)
