-- `duties_nodes::name_is` meets its contract. Assumes nothing.
use borrow.Author.Rules.{rules}
use Rattle.duties_nodes.proofs.Walking.{name_there}
use Rattle.duties_nodes.proofs.name_is.Goals as goal

pub returns : goal.returns
returns c = search (name_there, rules)
