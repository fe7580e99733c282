-- `tables_ids::among` meets its contract: an entry that has the id, wherever the guess comes from, is the first one. Assumes nothing.
use native.Mathlib.Omega.{arith}
use Rattle.tables_ids.proofs.Column.{in_table}
use Rattle.tables_ids.proofs.Halves.{at_place}
use Rattle.tables_ids.proofs.among.Goals as goal

pub overflow_mul-near : goal.overflow_mul-near
overflow_mul-near c = omega (arith, in_table _ _ _ c.requires.0 _ c.if-near-n.true)

pub bounds-table-near : goal.bounds-table-near
bounds-table-near c = in_table _ _ _ c.requires.0 _ c.if-near-n.true

pub returns-then-table-near : goal.returns-then-table-near
returns-then-table-near c = at_place _ _ _ _ c.requires.1 _ c.if-near-n.true c.if-table-near.true
