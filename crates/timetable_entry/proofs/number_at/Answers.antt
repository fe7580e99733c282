-- A number of digits that fit, where the byte behind them closes it. Assumes nothing.
use borrow.Author.Rules.{rules}
use Rattle.timetable_entry.proofs.Reading.{reading-fits, reading_next, readings}
use Rattle.timetable_entry.proofs.number_at.Goals as goal

pub returns-then-not-is_ascii_digit : goal.returns-then-not-is_ascii_digit
returns-then-not-is_ascii_digit c = search (readings, rules)

pub returns-then-first-eq48 : goal.returns-then-first-eq48
returns-then-first-eq48 c = search (readings, rules)

pub loop-i-init : goal.loop-i-init
loop-i-init c = search (readings, rules)

pub returns-then-not-is_ascii_digit-2 : goal.returns-then-not-is_ascii_digit-2
returns-then-not-is_ascii_digit-2 c = search (readings, rules)

pub overflow_mul-number : goal.overflow_mul-number
overflow_mul-number c = let fits = reading-fits c.loop-i.invariant (search rules) in search rules

pub overflow_add-number : goal.overflow_add-number
overflow_add-number c = let fits = reading-fits c.loop-i.invariant (search rules) in search rules

pub loop-i-preserved : goal.loop-i-preserved
loop-i-preserved c =
    let digit = c.if-not-is_ascii_digit-2.ensures.cases in
    reading_next _ _ c.requires c.loop-i.invariant c.loop-i-test.true _ digit.0 digit.1 (search rules)

pub returns : goal.returns
returns c = search (readings, rules)
