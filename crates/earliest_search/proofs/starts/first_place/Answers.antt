-- `earliest_search::starts::first_place` meets its contract. Assumes nothing.
use borrow.Author.Rules.{rules}
use Rattle.earliest_search.proofs.Beginning.{first_there, first_is}
use Rattle.earliest_search.proofs.starts.first_place.Goals as goal

pub returns : goal.returns
returns c = search (first_is, rules)

pub unwrap-requires : goal.unwrap-requires
unwrap-requires c = search (first_there, rules)
