-- `duties_nodes::balances::bump_one` meets its contract: the sum fits. Assumes nothing.
use borrow.Author.Rules.{rules}
use Rattle.duties_nodes.proofs.Bumping.{sum-held, bump_hit, bump_miss}
use Rattle.duties_nodes.proofs.balances.bump_one.Goals as goal

pub overflow_add-balance : goal.overflow_add-balance
overflow_add-balance c = search (sum-held, rules)

pub returns-then-name_is : goal.returns-then-name_is
returns-then-name_is c = search (bump_hit, rules)

pub returns-else-name_is : goal.returns-else-name_is
returns-else-name_is c = search (bump_miss, rules)
