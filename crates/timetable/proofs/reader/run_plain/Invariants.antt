-- Plain bytes: each turn takes a number's digits, the byte after them, and the entries that follow whole. Assumes nothing.
use Prim.Native.Nat.{◌-◌}
use lib.ListN.{length}
use Rattle.timetable.proofs.Run.{Going}
use Rattle.timetable.proofs.reader.run_plain.Given as goal

abbrev pub invariant-loop-i : goal.invariant-loop-i
invariant-loop-i l =
    Going l.h l.gone l.part l.from l.mark l.initial.legs l.initial.configurations l.initial.line l.initial.number l.legs l.configurations l.line l.number l.i

abbrev pub decreases-loop-i : goal.decreases-loop-i
decreases-loop-i l =
    length l.part - l.i
