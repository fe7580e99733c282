-- The lines after the header, one a turn. What the loop keeps stands too far back for `search` after a turn, and is named. Assumes nothing.
use Prim.Native.Nat.{◌-◌}
use lib.ListN.{length}
use Rattle.solution.proofs.Going.{Going}
use Rattle.solution.proofs.reader.read_rows.Given as goal

abbrev pub invariant-loop-i : goal.invariant-loop-i
invariant-loop-i l = Going l.h l.text l.legs l.n l.from l.initial.choices l.line l.differing l.choices l.i

abbrev pub decreases-loop-i : goal.decreases-loop-i
decreases-loop-i l = length l.text - l.i
