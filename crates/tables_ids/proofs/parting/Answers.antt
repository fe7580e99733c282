-- `tables_ids::parting` meets its contract. The loop's invariant: the place is between `low` and `high`. Assumes nothing.
use Prim.Native.Nat.{◌+◌, ◌/◌, ◌-◌, ◌<◌}
use native.Mathlib.Omega.{arith}
use Rattle.tables_ids.proofs.Column.{column-length, in_table}
use Rattle.tables_ids.proofs.Halves.{all_between, parted, low_rises, high_falls}
use Rattle.tables_ids.proofs.parting.Goals as goal

pub loop-low-init : goal.loop-low-init
loop-low-init c = all_between _ _ _ _

pub overflow_add-middle : goal.overflow_add-middle
overflow_add-middle c = omega (arith, column-length c.args.width c.args.n c.args.table.now)

pub overflow_mul-middle : goal.overflow_mul-middle
overflow_mul-middle c =
    let m : c.loop-low.low + (c.loop-low.high - c.loop-low.low) / 2 < c.args.n = omega (arith, column-length c.args.width c.args.n c.args.table.now) in
    omega (arith, in_table _ _ _ c.requires.0 _ m)

pub bounds-table-middle : goal.bounds-table-middle
bounds-table-middle c =
    let m : c.loop-low.low + (c.loop-low.high - c.loop-low.low) / 2 < c.args.n = omega (arith, column-length c.args.width c.args.n c.args.table.now) in
    in_table _ _ _ c.requires.0 _ m

pub offset_bounds-table-middle : goal.offset_bounds-table-middle
offset_bounds-table-middle c =
    let m : c.loop-low.low + (c.loop-low.high - c.loop-low.low) / 2 < c.args.n = omega (arith, column-length c.args.width c.args.n c.args.table.now) in
    omega (arith, in_table _ _ _ c.requires.0 _ m)

pub overflow_add-low : goal.overflow_add-low
overflow_add-low c = omega (arith, column-length c.args.width c.args.n c.args.table.now)

pub loop-low-preserved-then-table-middle : goal.loop-low-preserved-then-table-middle
loop-low-preserved-then-table-middle c =
    let m : c.loop-low.low + (c.loop-low.high - c.loop-low.low) / 2 < c.args.n = omega (arith, column-length c.args.width c.args.n c.args.table.now) in
    low_rises _ _ _ _ c.requires.1 _ m c.loop-low.invariant (omega arith) c.if-table-middle.true

pub loop-low-preserved : goal.loop-low-preserved
loop-low-preserved c =
    let m : c.loop-low.low + (c.loop-low.high - c.loop-low.low) / 2 < c.args.n = omega (arith, column-length c.args.width c.args.n c.args.table.now) in
    high_falls _ _ _ _ c.requires.1 _ m c.loop-low.invariant (omega arith) c.if-table-middle.false

pub returns : goal.returns
returns c = parted _ _ _ _ c.loop-low.invariant c.loop-low-test.false
