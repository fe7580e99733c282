-- `duties_nodes::place_of` meets its contract: what is left decides as the whole does. Assumes nothing.
use Rattle.duties_nodes.proofs.Walking.{walk_hit, walk_on, walk_end}
use Rattle.duties_nodes.proofs.place_of.Goals as goal

pub returns-then-name_is : goal.returns-then-name_is
returns-then-name_is c = walk_hit c.args.text.now c.args.table.now c.args.name.now c.args.n c.loop-i.i c.loop-i.invariant c.loop-i-test.true _ c.name_is.ensures c.if-name_is.true

pub loop-i-preserved : goal.loop-i-preserved
loop-i-preserved c = walk_on c.args.text.now c.args.table.now c.args.name.now c.args.n c.loop-i.i c.loop-i.invariant c.loop-i-test.true _ c.name_is.ensures c.if-name_is.false

pub returns : goal.returns
returns c = walk_end c.args.text.now c.args.table.now c.args.name.now c.args.n c.loop-i.i c.loop-i.invariant c.loop-i-test.false
