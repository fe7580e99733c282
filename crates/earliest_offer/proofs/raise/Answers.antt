-- `earliest_offer::raise` meets its contract. Assumes nothing.
use borrow.Author.Rules.{rules}
use Rattle.earliest_offer.proofs.Raising.{least_fits, none-raised, place_small, place_fits, pack_fits, raised_to}
use Rattle.earliest_offer.proofs.raise.Goals as goal

pub overflow_add-least : goal.overflow_add-least
overflow_add-least c = search (least_fits, rules)

pub returns-in_default : goal.returns-in_default
returns-in_default c = search (none-raised, rules)

pub overflow_mul-most : goal.overflow_mul-most
overflow_mul-most c = search (place_fits, rules)

pub overflow_add-leg : goal.overflow_add-leg
overflow_add-leg c = search (pack_fits, rules)

pub returns : goal.returns
returns c = search (raised_to, rules)

pub overflow_cast-place : goal.overflow_cast-place
overflow_cast-place c = search (place_small, rules)
