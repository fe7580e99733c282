-- A line is what the timetable's machine says of it, after no rows. Assumes nothing.
use borrow.Author.Rules.{rules}
use Rattle.timetable.proofs.Faults.{fault_there}
use Rattle.solution.proofs.Said.{alone-placed, said_stopped, said_open, said_closed}
use Rattle.solution.proofs.row.read_row.Goals as goal

pub run_lines-read-requires : goal.run_lines-read-requires
run_lines-read-requires c = search (alone-placed, rules)

pub returns-then-is_some : goal.returns-then-is_some
returns-then-is_some c = search (said_stopped, fault_there, rules)

pub returns-then-may_end : goal.returns-then-may_end
returns-then-may_end c = search (said_closed, rules)

pub returns : goal.returns
returns c = search (said_open, rules)
