-- `duties::pass::read_rows` meets its contract: the rows before a place are read, and their nodes are in the table. Assumes nothing.
use lib.ListN.{length}
use Prim.Native.Nat.{◌-◌}
use Rattle.duties.specs.Steps.{Holding}
use Rattle.duties.proofs.pass.read_rows.Given as goal

abbrev pub invariant-loop-place : goal.invariant-loop-place
invariant-loop-place l = Holding l.room l.text l.from l.initial.table l.place l.rows l.n l.table

abbrev pub decreases-loop-place : goal.decreases-loop-place
decreases-loop-place l = length l.text - l.place
