-- The rows of a part: plain bytes, and then one that is not. Assumes nothing.
use Prim.Native.Nat.{◌+◌, ◌*◌, ◌-◌}
use lib.ListN.{length}
use Rattle.csv_marks.proofs.Late.{late}
use Rattle.timetable.proofs.Run.{Lining}
use Rattle.timetable.proofs.reader.run_lines.Given as goal

abbrev pub invariant-loop-i : goal.invariant-loop-i
invariant-loop-i l =
    Lining l.h l.gone l.part l.from l.initial.legs l.initial.configurations l.initial.line l.initial.number l.initial.mark l.legs l.configurations l.line l.number l.mark l.i

abbrev pub decreases-loop-i : goal.decreases-loop-i
decreases-loop-i l =
    2 * (length l.part - l.i) + late l.mark
