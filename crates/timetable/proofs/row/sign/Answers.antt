-- A byte that the open number does not take: with no digit before it, LF, or another. Assumes nothing.
use borrow.Author.Rules.{rules}
use Rattle.timetable.proofs.Ended.{sign_empty, sign_line, sign_close}
use Rattle.timetable.proofs.row.sign.Goals as goal

pub returns-then-is_empty : goal.returns-then-is_empty
returns-then-is_empty c = search (sign_empty, rules)

pub returns-then-b-eq10 : goal.returns-then-b-eq10
returns-then-b-eq10 c = search (sign_line, rules)

pub returns : goal.returns
returns c = search (sign_close, rules)
