-- An id is new where no row before has it: what is left to look at decides as the whole does. Assumes nothing.
use mathlib.Core.Path.{◌≡◌}
use Rattle.timetable_faults.proofs.Tests.{Seen}
use Rattle.timetable_faults.proofs.is_new.Given as goal

abbrev pub invariant-loop-i : goal.invariant-loop-i
invariant-loop-i l = Seen l.rows l.above l.id l.legs l.i ≡ Seen l.rows l.above l.id l.legs 0
