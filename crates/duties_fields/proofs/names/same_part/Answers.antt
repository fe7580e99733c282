-- `duties_fields::names::same_part` meets its contract. Assumes nothing.
use borrow.Author.Rules.{rules}
use Rattle.duties_fields.proofs.Naming.{same_there}
use Rattle.duties_fields.proofs.names.same_part.Goals as goal

pub returns : goal.returns
returns c = search (same_there, rules)
