-- Plain bytes: each turn takes a number's digits, the byte after them, and the entries that follow whole. Assumes nothing.
use borrow.Author.Rules.{rules}
use Rattle.timetable.proofs.Faults.{fault_there, none_there}
use Rattle.timetable.proofs.Listing.{begun}
use Rattle.timetable.proofs.Run.{less_left, going, goes_on, ran_taken, ran_halted, ran_stopped, ran_over}
use Rattle.timetable.proofs.reader.run_plain.Goals as goal

pub loop-i-init : goal.loop-i-init
loop-i-init c = search (going, rules)

pub returns-then-part-next : goal.returns-then-part-next
returns-then-part-next c = search (ran_taken, rules)

pub returns-then-is_some : goal.returns-then-is_some
returns-then-is_some c = search (ran_stopped, fault_there, rules)

pub run_list-list-requires : goal.run_list-list-requires
run_list-list-requires c = let clear = none_there _ _ c.is_some.ensures c.if-is_some.false in search (begun, rules)

pub loop-i-smaller : goal.loop-i-smaller
loop-i-smaller c =
    let inside = c.loop-i-test.true in
    let took = c.take-taken.ensures in
    search (less_left, rules)

pub loop-i-preserved : goal.loop-i-preserved
loop-i-preserved c =
    let held = c.loop-i.invariant in
    let inside = c.loop-i-test.true in
    let took = c.take-taken.ensures in
    let past = c.if-part-next.false in
    let told = c.plain.ensures in
    let plain = c.if-plain.true in
    search (goes_on, rules)

pub returns-else-plain : goal.returns-else-plain
returns-else-plain c = search (ran_halted, rules)

pub returns : goal.returns
returns c = search (ran_over, rules)
