-- `tables_ids::parting` meets its contract. The loop's invariant: the place is between `low` and `high`. Assumes nothing.
use Prim.Native.Nat.{◌-◌}
use Rattle.tables_ids.specs.Column.{column}
use Rattle.tables_ids.proofs.Halves.{Between}
use Rattle.tables_ids.proofs.parting.Given as goal

abbrev pub invariant-loop-low : goal.invariant-loop-low
invariant-loop-low l = Between (column l.width l.n l.table) l.id l.low l.high

abbrev pub decreases-loop-low : goal.decreases-loop-low
decreases-loop-low l = l.high - l.low
