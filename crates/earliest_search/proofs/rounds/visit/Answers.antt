-- `earliest_search::rounds::visit` meets its contract. Assumes nothing.
use borrow.Author.Rules.{rules}
use Rattle.earliest_search.proofs.Visits.{visit_raises, visit_raised, visit_never}
use Rattle.earliest_search.proofs.rounds.visit.Goals as goal

pub raise-requires : goal.raise-requires
raise-requires c = search (visit_raises, rules)

pub returns-then-raise : goal.returns-then-raise
returns-then-raise c = search (visit_raised, rules)

pub returns : goal.returns
returns c = search (visit_never, rules)
