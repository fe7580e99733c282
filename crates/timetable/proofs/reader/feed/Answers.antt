-- A part: after a fault, with a header that differs, that is not yet whole, or with rows. Assumes nothing.
use borrow.Author.Rules.{rules}
use Rattle.rules.specs.Timetable.{timetable_header}
use Rattle.csv_header.proofs.Part.{header_inside}
use Rattle.timetable.proofs.Faults.{fault_there, none_there}
use Rattle.timetable.proofs.Feed.{fed_stopped, fed_wrong, fed_header, fed_ran, placed-rows}
use Rattle.timetable.proofs.reader.feed.Goals as goal

pub returns-then-is_some : goal.returns-then-is_some
returns-then-is_some c = search (fed_stopped, fault_there, rules)

pub returns-then-headed-lt-HEADER_LENGTH : goal.returns-then-headed-lt-HEADER_LENGTH
returns-then-headed-lt-HEADER_LENGTH c = let clear = none_there _ _ c.is_some.ensures c.if-is_some.false in let right = c.in-Ok.ensures in search (fed_header, rules)

pub overflow_add-read : goal.overflow_add-read
overflow_add-read c =
    let within = header_inside timetable_header c.args.part.now c.args.reader.mark c.args.reader.head c.in-Ok.headed c.in-Ok.ensures in
    let limit = c.requires in
    search rules

pub overflow_cast-read : goal.overflow_cast-read
overflow_cast-read c =
    let within = header_inside timetable_header c.args.part.now c.args.reader.mark c.args.reader.head c.in-Ok.headed c.in-Ok.ensures in
    let limit = c.requires in
    search rules

pub run_lines-requires : goal.run_lines-requires
run_lines-requires c = let clear = none_there _ _ c.is_some.ensures c.if-is_some.false in let right = c.in-Ok.ensures in search (placed-rows, rules)

pub returns-in_default : goal.returns-in_default
returns-in_default c = let clear = none_there _ _ c.is_some.ensures c.if-is_some.false in let wrong = c.in_default.is in search (fed_wrong, rules)

pub returns : goal.returns
returns c = let clear = none_there _ _ c.is_some.ensures c.if-is_some.false in let right = c.in-Ok.ensures in search (fed_ran, rules)
