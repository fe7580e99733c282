-- `exports_numbers::told` meets its contract: the two that are placed, by the law of `Placing`. Assumes nothing.
use borrow.Author.Rules.{rules}
use Rattle.exports_numbers.proofs.Placing.{told-placed}
use Rattle.exports_numbers.proofs.told.Goals as goal

pub returns : goal.returns
returns c = search (told-placed, rules)
