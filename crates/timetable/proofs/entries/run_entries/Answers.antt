-- Entries one after the other. The invariant: the bytes up to the next lead from the row at the start to the row as it is. Assumes nothing.
use borrow.Author.Rules.{rules}
use Rattle.timetable.proofs.Listing.{entering}
use Rattle.timetable.proofs.entries.run_entries.Goals as goal

pub loop-entry-init : goal.loop-entry-init
loop-entry-init c = search (entering, rules)

pub loop-entry-smaller : goal.loop-entry-smaller
loop-entry-smaller c = search (entering, rules)

pub loop-entry-preserved : goal.loop-entry-preserved
loop-entry-preserved c = search (entering, rules)

pub returns : goal.returns
returns c = search (entering, rules)
