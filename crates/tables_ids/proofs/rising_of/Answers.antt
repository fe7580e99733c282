-- `tables_ids::rising_of` meets its contract. The loop's invariant: the ids before `i` rise. Assumes nothing.
use native.Mathlib.Omega.{arith}
use borrow.Author.Rules.{rules}
use Rattle.tables_ids.proofs.Column.{in_table}
use Rattle.tables_ids.proofs.Rises.{before_in_table, rises_none, rises_one, rises_more}
use Rattle.tables_ids.proofs.rising_of.Goals as goal

pub returns-then-n-eq0 : goal.returns-then-n-eq0
returns-then-n-eq0 c = search (rises_none, rules)

pub loop-i-init : goal.loop-i-init
loop-i-init c = search (rises_one, rules)

pub overflow_mul-i : goal.overflow_mul-i
overflow_mul-i c = omega (arith, in_table _ _ _ c.requires _ c.loop-i-test.true)

pub bounds-table-i : goal.bounds-table-i
bounds-table-i c = in_table _ _ _ c.requires _ c.loop-i-test.true

pub overflow_mul-i-in-loop-i : goal.overflow_mul-i-in-loop-i
overflow_mul-i-in-loop-i c = omega (arith, before_in_table c.requires _ c.loop-i-test.true)

pub bounds-table-i-in-loop-i : goal.bounds-table-i-in-loop-i
bounds-table-i-in-loop-i c = before_in_table c.requires _ c.loop-i-test.true

pub loop-i-preserved : goal.loop-i-preserved
loop-i-preserved c = search (rises_more, rules)
