-- `constraints_tables::in_order` meets its contract. The loop's invariant: those before `i` stand by kind. Assumes nothing.
use Rattle.constraints_tables.specs.Places.{Upward}
use Rattle.constraints_tables.proofs.in_order.Given as goal

abbrev pub invariant-loop-i : goal.invariant-loop-i
invariant-loop-i l = Upward l.i l.table
