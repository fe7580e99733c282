-- `tables_ids::is_new` meets its contract: no search above the last of a table that rises to its end, and else what `find` says. Assumes nothing.
use Rattle.tables_ids.proofs.Parts.{new_above, new_by_place, old_by_place}
use borrow.Author.Rules.{rules}
use Rattle.tables_ids.proofs.is_new.Goals as goal

pub returns-then-last-id : goal.returns-then-last-id
returns-then-last-id c = search (new_above, rules)

pub returns-in-Some : goal.returns-in-Some
returns-in-Some c = search (old_by_place, rules)

pub returns-in-None : goal.returns-in-None
returns-in-None c = search (new_by_place, rules)
