-- `earliest_offer::chosen_at` meets its contract. Assumes nothing.
use borrow.Author.Rules.{rules}
use Rattle.earliest_offer.proofs.Raising.{chosen-read}
use Rattle.earliest_offer.proofs.chosen_at.Goals as goal

pub returns : goal.returns
returns c = search (chosen-read, rules)
