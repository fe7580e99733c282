-- The end of a text: a fault, a header that is not whole, a row that lacks its LF, or all is read. Assumes nothing.
use borrow.Author.Rules.{rules}
use Rattle.timetable.proofs.Feed.{finish_fault, finish_header, finish_row, finish_read}
use Rattle.timetable.proofs.reader.finish.Goals as goal

pub returns-in-Some : goal.returns-in-Some
returns-in-Some c = search (finish_fault, rules)

pub returns-then-reader-lt-HEADER_LENGTH : goal.returns-then-reader-lt-HEADER_LENGTH
returns-then-reader-lt-HEADER_LENGTH c = search (finish_header, rules)

pub returns-then-place-reader : goal.returns-then-place-reader
returns-then-place-reader c = search (finish_row, rules)

pub returns : goal.returns
returns c = search (finish_read, rules)
