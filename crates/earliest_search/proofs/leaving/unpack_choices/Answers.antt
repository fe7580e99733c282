-- `earliest_search::leaving::unpack_choices` meets its contract. Assumes nothing.
use borrow.Author.Rules.{rules}
use Rattle.earliest_search.proofs.Back.{unpack_first, unpack_on}
use Rattle.earliest_search.proofs.leaving.unpack_choices.Goals as goal

pub loop-i-init : goal.loop-i-init
loop-i-init c = search (unpack_first, rules)

pub loop-i-preserved : goal.loop-i-preserved
loop-i-preserved c = search (unpack_on, rules)
