-- `earliest_proposal::finding::find` meets its contract. Assumes nothing.
use borrow.Author.Rules.{rules}
use Rattle.earliest_proposal.proofs.Found.{left_readable, begun_searching, finds}
use Rattle.earliest_proposal.proofs.finding.find.Goals as goal

pub first_choices-requires : goal.first_choices-requires
first_choices-requires c = search (left_readable, rules)

pub raise_all-requires : goal.raise_all-requires
raise_all-requires c = search (begun_searching, rules)

pub returns : goal.returns
returns c = search (finds, rules)
