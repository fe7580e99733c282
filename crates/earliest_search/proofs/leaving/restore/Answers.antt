-- `earliest_search::leaving::restore` meets its contract. Assumes nothing.
use borrow.Author.Rules.{rules}
use Rattle.earliest_search.proofs.Back.{restore_at, restore_ends}
use Rattle.earliest_search.proofs.leaving.restore.Goals as goal

pub loop-i-preserved : goal.loop-i-preserved
loop-i-preserved c = search (restore_at, rules)

pub returns : goal.returns
returns c = search (restore_ends, rules)
