-- `tables_ids::rising_of` meets its contract. The loop's invariant: the ids before `i` rise. Assumes nothing.
use Rattle.tables_ids.specs.Column.{Rising}
use Rattle.tables_ids.proofs.rising_of.Given as goal

abbrev pub invariant-loop-i : goal.invariant-loop-i
invariant-loop-i l = Rising l.width l.n l.i l.table
