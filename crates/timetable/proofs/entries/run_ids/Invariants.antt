-- Ids one after the other. The invariant: the bytes up to the next lead from the row at the start to the row as it is, and its slot counts them. Assumes nothing.
use mathlib.Core.Path.{◌≡◌}
use Rattle.timetable.proofs.Quoted.{Passing}
use Rattle.timetable.proofs.entries.run_ids.Given as goal

abbrev pub invariant-loop-slot : goal.invariant-loop-slot
invariant-loop-slot l = Passing l.part l.from l.initial.line l.line l.next × (l.line.slot ≡ l._slot)
