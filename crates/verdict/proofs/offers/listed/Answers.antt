-- `verdict::offers::listed` meets its contract. The loop's invariant: the whole list offers the choice just where what is left of it does. Assumes nothing.
use borrow.Author.Rules.{rules}
use Rattle.verdict.proofs.RowSteps.{offer_found, offer_differs, none_found}
use Rattle.verdict.proofs.offers.listed.Goals as goal

pub returns-then-same : goal.returns-then-same
returns-then-same c = search (offer_found, rules)

pub loop-j-preserved : goal.loop-j-preserved
loop-j-preserved c = search (offer_differs, rules)

pub returns : goal.returns
returns c = search (none_found, rules)
