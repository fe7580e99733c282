-- A row that is over: of another form, at fault, or right. Assumes nothing.
use borrow.Author.Rules.{rules}
use Rattle.timetable.proofs.Ended.{row_bounds, ended_short, ended_fault, ended_right}
use Rattle.timetable.proofs.row.ended.Goals as goal

pub returns-then-line-ne-LAST : goal.returns-then-line-ne-LAST
returns-then-line-ne-LAST c = search (ended_short, rules)

pub returns-in-Some : goal.returns-in-Some
returns-in-Some c = search (ended_fault, rules)

pub next_row-requires : goal.next_row-requires
next_row-requires c = search (row_bounds, rules)

pub returns : goal.returns
returns c = search (ended_right, rules)
