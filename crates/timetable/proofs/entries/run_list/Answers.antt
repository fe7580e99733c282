-- Where no entry begins, nothing is read. Assumes nothing.
use borrow.Author.Rules.{rules}
use Rattle.timetable.proofs.Listing.{lists_none}
use Rattle.timetable.proofs.entries.run_list.Goals as goal

pub returns : goal.returns
returns c = search (lists_none, rules)
