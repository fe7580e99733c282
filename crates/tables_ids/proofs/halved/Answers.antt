-- `tables_ids::halved` meets its contract: what the parting place says. Assumes nothing.
use native.Mathlib.Omega.{arith}
use Rattle.tables_ids.proofs.Column.{in_table}
use Rattle.tables_ids.proofs.Halves.{past_end, at_place, not_there_lem}
use Rattle.tables_ids.proofs.halved.Goals as goal

pub returns-then-n-at : goal.returns-then-n-at
returns-then-n-at c = past_end _ _ _ _ c.requires.1 _ c.parting-at.ensures c.if-n-at.true

pub overflow_mul-at : goal.overflow_mul-at
overflow_mul-at c = omega (arith, in_table _ _ _ c.requires.0 _ c.if-n-at.false)

pub bounds-table-at : goal.bounds-table-at
bounds-table-at c = in_table _ _ _ c.requires.0 _ c.if-n-at.false

pub returns-then-table-at : goal.returns-then-table-at
returns-then-table-at c =
    at_place _ _ _ _ c.requires.1 _
    c.if-n-at.false c.if-table-at.true

pub returns : goal.returns
returns c =
    not_there_lem _ _ _ _ c.requires.1 _ c.parting-at.ensures
    c.if-n-at.false c.if-table-at.false
