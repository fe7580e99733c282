-- `duties_nodes::balances::bump` meets its contract: what is left to look at gives the whole. Assumes nothing.
use borrow.Author.Rules.{rules}
use Rattle.duties_nodes.proofs.Bumping.{none-bumped, one_room, one_bumped, all_bumped}
use Rattle.duties_nodes.proofs.balances.bump.Goals as goal

pub loop-i-init : goal.loop-i-init
loop-i-init c = none-bumped _ _ _ _ _ _

pub bump_one-requires : goal.bump_one-requires
bump_one-requires c = search (one_room, rules)

pub loop-i-preserved : goal.loop-i-preserved
loop-i-preserved c = search (one_bumped, rules)

pub returns : goal.returns
returns c = search (all_bumped, rules)
