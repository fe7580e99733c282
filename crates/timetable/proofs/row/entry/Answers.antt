-- An entry is closed: past the limit it is only tested for range, before it is held and stored. Assumes nothing.
use borrow.Author.Rules.{rules}
use Rattle.timetable.proofs.Entry.{entry_over, entry_in}
use Rattle.timetable.proofs.row.entry.Goals as goal

pub returns-then-entries-gt-MOST_CONFIGURATIONS : goal.returns-then-entries-gt-MOST_CONFIGURATIONS
returns-then-entries-gt-MOST_CONFIGURATIONS c = search (entry_over, rules)

pub returns : goal.returns
returns c = search (entry_in, rules)
