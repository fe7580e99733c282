-- A line after the rows before: its form, then its tests, and then its id and choice are kept. Assumes nothing.
use borrow.Author.Rules.{rules}
use Rattle.timetable.proofs.Faults.{fault_there, none_there}
use Rattle.solution.proofs.Judging.{counted-earlier, turned-broken, turned_fault, turned_right, row_bounds, product_fits, packed-fits}
use Rattle.solution.proofs.after.turn.Goals as goal

pub returns-then-is_some : goal.returns-then-is_some
returns-then-is_some c = search (turned-broken, fault_there, rules)

pub fault-requires : goal.fault-requires
fault-requires c = search (counted-earlier, rules)

pub returns-in-Some : goal.returns-in-Some
returns-in-Some c = let clear = none_there _ _ c.is_some.ensures c.if-is_some.false in search (turned_fault, rules)

pub overflow_mul-numbers : goal.overflow_mul-numbers
overflow_mul-numbers c = search (product_fits, rules)

pub overflow_add-numbers : goal.overflow_add-numbers
overflow_add-numbers c = search (packed-fits, rules)

pub next_row-requires : goal.next_row-requires
next_row-requires c = search (row_bounds, rules)

pub returns : goal.returns
returns c = let clear = none_there _ _ c.is_some.ensures c.if-is_some.false in search (turned_right, rules)
