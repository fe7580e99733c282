-- Entries one after the other. The invariant: the bytes up to i lead from the row at the start to the row as it is. Assumes nothing.
use Prim.Native.Nat.{◌-◌}
use lib.ListN.{length}
use Rattle.timetable.proofs.Listing.{Listing}
use Rattle.timetable.proofs.entries.run_entries.Given as goal

abbrev pub invariant-loop-entry : goal.invariant-loop-entry
invariant-loop-entry l = Listing l.h l.part l.from l.initial.configurations l.initial.line l.configurations l.line l.next

abbrev pub decreases-loop-entry : goal.decreases-loop-entry
decreases-loop-entry l = length l.part - l.next
