-- `earliest_search::starts::first_choices` meets its contract. Assumes nothing.
use borrow.Author.Rules.{rules}
use Rattle.earliest_search.proofs.Beginning.{begin_on, begin_ends}
use Rattle.earliest_search.proofs.starts.first_choices.Goals as goal

pub loop-i-preserved : goal.loop-i-preserved
loop-i-preserved c = search (begin_on, rules)

pub returns : goal.returns
returns c = search (begin_ends, rules)
