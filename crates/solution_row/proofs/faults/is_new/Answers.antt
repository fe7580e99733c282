-- An id above all others is new, and so is one that is known to be; another is looked for among the ids before. Assumes nothing.
use borrow.Author.Rules.{rules}
use Rattle.solution_row.proofs.Tests.{new_above, new_known, new_found, new_nothing, three_wide}
use Rattle.solution_row.proofs.faults.is_new.Goals as goal

pub returns-then-above-id : goal.returns-then-above-id
returns-then-above-id c = search (new_above, rules)

pub returns-then-is_known : goal.returns-then-is_known
returns-then-is_known c = search (new_known, rules)

pub row_of-requires : goal.row_of-requires
row_of-requires c = search (three_wide, rules)

pub returns-in-Some : goal.returns-in-Some
returns-in-Some c = search (new_found, rules)

pub returns-in-None : goal.returns-in-None
returns-in-None c = search (new_nothing, rules)
