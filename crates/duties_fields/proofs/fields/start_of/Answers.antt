-- What is left of the line has the fields that are left. Assumes nothing.
use Prim.Native.Nat.{◌+◌, ◌-◌}
use native.Mathlib.Omega.{arith}
use borrow.Author.Rules.{rules}
use Rattle.duties_fields.proofs.Pieces.{start-past, start_next, start_here}
use Rattle.duties_fields.proofs.fields.start_of.Goals as goal

pub returns-then-line-end : goal.returns-then-line-end
returns-then-line-end c =
    start-past _ _ _ (c.args.k - (c.loop.counter + 1)) _ _ c.loop.invariant.1 c.loop.invariant.0 c.find-end.ensures (omega arith) c.if-line-end.true

pub loop-preserved : goal.loop-preserved
loop-preserved c = (search rules, start_next _ _ _ _ _ _ c.loop.invariant.1 c.loop.invariant.0 c.find-end.ensures (omega arith) c.if-line-end.false)

pub returns : goal.returns
returns c = search (start_here, rules)
