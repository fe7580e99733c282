-- `tables_ids::numbered` meets its contract: a record that has the id is the only one. Assumes nothing.
use native.Mathlib.Omega.{arith}
use borrow.Author.Rules.{rules}
use Rattle.tables_ids.proofs.Column.{in_table}
use Rattle.tables_ids.proofs.Lone.{lone_place}
use Rattle.tables_ids.proofs.numbered.Goals as goal

pub overflow_mul-place : goal.overflow_mul-place
overflow_mul-place c = omega (arith, in_table _ _ _ c.requires.apart.records _ c.if-place-n.true)

pub bounds-table-place : goal.bounds-table-place
bounds-table-place c = search (in_table, rules)

pub returns-then-table-place : goal.returns-then-table-place
returns-then-table-place c = search (lone_place, rules)
