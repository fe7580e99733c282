-- `earliest_search::rounds::late_at` meets its contract. Assumes nothing.
use borrow.Author.Rules.{rules}
use Rattle.earliest_search.proofs.Visits.{short_fits, late_fails, late_kept}
use Rattle.earliest_search.proofs.rounds.late_at.Goals as goal

pub overflow_cast-result-in-Err : goal.overflow_cast-result-in-Err
overflow_cast-result-in-Err c = search (short_fits, rules)

pub returns-in-Err : goal.returns-in-Err
returns-in-Err c = search (late_fails, rules)

pub returns : goal.returns
returns c = search (late_kept, rules)
