-- `merge_choice::unequal` meets its contract: what is left from the loop's row on has the same first unequal row. Assumes nothing.
use mathlib.Core.Path.{sym, ◌∙◌}
use Rattle.merge_choice.proofs.EqualTravel.{unequal_here, unequal_later, unequal_none}
use Rattle.merge_choice.proofs.unequal.Goals as goal

pub returns-then-a-b : goal.returns-then-a-b
returns-then-a-b c =
    (sym (unequal_here c.args.n c.args.first.now c.args.second.now c.loop-i.i c.loop-i-test.true c.configuration_at-a.ensures c.configuration_at-b.ensures c.if-a-b.true) ∙ c.loop-i.invariant)

pub loop-i-preserved : goal.loop-i-preserved
loop-i-preserved c =
    unequal_later c.args.n c.args.first.now c.args.second.now c.loop-i.i c.loop-i-test.true c.configuration_at-a.ensures c.configuration_at-b.ensures c.if-a-b.false ∙ c.loop-i.invariant

pub returns : goal.returns
returns c =
    (sym (unequal_none c.args.n c.args.first.now c.args.second.now c.loop-i.i c.loop-i-test.false) ∙ c.loop-i.invariant)
