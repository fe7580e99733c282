-- `tables_ids::walk` meets its contract. The loop's invariant: what is left from `i` on has the place that all has. Assumes nothing.
use mathlib.Core.Path.{sym, ◌∙◌}
use native.Mathlib.Omega.{arith}
use Rattle.tables_ids.proofs.Column.{in_table}
use Rattle.tables_ids.proofs.Onward.{walk_hit, walk_miss, walk_end}
use Rattle.tables_ids.proofs.walk.Goals as goal

pub overflow_mul-i : goal.overflow_mul-i
overflow_mul-i c = omega (arith, in_table _ _ _ c.requires.0 _ c.loop-i-test.true)

pub bounds-table-i : goal.bounds-table-i
bounds-table-i c = in_table _ _ _ c.requires.0 _ c.loop-i-test.true

pub returns-then-table-i : goal.returns-then-table-i
returns-then-table-i c = (sym (walk_hit _ _ _ _ _ c.loop-i-test.true c.if-table-i.true) ∙ c.loop-i.invariant)

pub loop-i-preserved : goal.loop-i-preserved
loop-i-preserved c = sym (walk_miss _ _ _ _ _ c.loop-i-test.true c.if-table-i.false) ∙ c.loop-i.invariant

pub returns : goal.returns
returns c = (sym (walk_end _ _ _ _ _ c.loop-i-test.false) ∙ c.loop-i.invariant)
