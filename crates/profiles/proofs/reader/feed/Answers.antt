-- `profiles::reader::feed` meets its contract: the header goes on, differs, or is over and rows follow. Assumes nothing.
use Rattle.rules.specs.Profiles.{profiles_header}
use Rattle.csv_header.proofs.Part.{header_inside}
use Rattle.profiles.proofs.Feed.{rows_live, feeds_wrong, feeds_heading, feeds_rows}
use borrow.Author.Rules.{rules}
use Rattle.profiles.proofs.reader.feed.Goals as goal

pub returns-then-headed-lt-HEADER_LENGTH : goal.returns-then-headed-lt-HEADER_LENGTH
returns-then-headed-lt-HEADER_LENGTH c = let right = c.in-Ok.ensures in search (feeds_heading, rules)

pub overflow_cast-from : goal.overflow_cast-from
overflow_cast-from c =
    let within = header_inside profiles_header c.args.part.now c.args.reader.mark c.args.reader.head c.in-Ok.headed c.in-Ok.ensures in
    let limit = c.requires.1 in
    search rules

pub overflow_add-next : goal.overflow_add-next
overflow_add-next c =
    let within = header_inside profiles_header c.args.part.now c.args.reader.mark c.args.reader.head c.in-Ok.headed c.in-Ok.ensures in
    let limit = c.requires.1 in
    search rules

pub run_rows-requires : goal.run_rows-requires
run_rows-requires c = let right = c.in-Ok.ensures in (search (rows_live, rules), (search rules, search (header_inside, rules)))

pub returns-in_default : goal.returns-in_default
returns-in_default c = let wrong = c.in_default.is in search (feeds_wrong, rules)

pub returns : goal.returns
returns c = let right = c.in-Ok.ensures in search (feeds_rows, rules)
