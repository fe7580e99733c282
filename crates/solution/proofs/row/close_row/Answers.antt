-- A line ends after a whole entry, or it breaks a row's form. Assumes nothing.
use borrow.Author.Rules.{rules}
use Rattle.solution.proofs.Said.{closed_empty, closed_short, closed_entry}
use Rattle.solution.proofs.row.close_row.Goals as goal

pub returns-then-is_empty : goal.returns-then-is_empty
returns-then-is_empty c = search (closed_empty, rules)

pub returns-then-row-ne-LAST : goal.returns-then-row-ne-LAST
returns-then-row-ne-LAST c = search (closed_short, rules)

pub returns : goal.returns
returns c = search (closed_entry, rules)
