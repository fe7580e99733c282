-- A number is closed: by another byte than its separator, by its separator, or by a space after an entry. Assumes nothing.
use borrow.Author.Rules.{rules}
use Rattle.timetable.proofs.Close.{close_stop, close_kept, close_entry_lem}
use Rattle.timetable.proofs.row.close.Goals as goal

pub returns-then-b-separator : goal.returns-then-b-separator
returns-then-b-separator c = search (close_stop, rules)

pub returns-then-slot-ge-LAST : goal.returns-then-slot-ge-LAST
returns-then-slot-ge-LAST c = search (close_entry_lem, rules)

pub returns : goal.returns
returns c = search (close_kept, rules)
