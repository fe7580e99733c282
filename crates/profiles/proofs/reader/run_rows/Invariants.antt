-- `profiles::reader::run_rows` meets its contract. The invariant: the state stands for a reading from which the bytes left lead where all from the first place lead. Assumes nothing.
use Prim.Native.Nat.{◌+◌, ◌*◌, ◌-◌}
use lib.ListN.{length}
use Rattle.csv_marks.proofs.Late.{late}
use Rattle.profiles.proofs.Feed.{Fed}
use Rattle.profiles.proofs.reader.run_rows.Given as goal

abbrev pub invariant-loop-i : goal.invariant-loop-i
invariant-loop-i l = Fed l.next l.initial.state l.initial.mark l.initial.profiles l.initial.samples l.part l.from l.state l.mark l.i l.profiles l.samples

abbrev pub decreases-loop-i : goal.decreases-loop-i
decreases-loop-i l = 2 * (length l.part - l.i) + late l.mark
