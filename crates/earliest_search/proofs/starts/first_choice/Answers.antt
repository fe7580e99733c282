-- `earliest_search::starts::first_choice` meets its contract. Assumes nothing.
use borrow.Author.Rules.{rules}
use Rattle.earliest_search.proofs.Beginning.{start_nominal, start_product, start-sum, started}
use Rattle.earliest_search.proofs.starts.first_choice.Goals as goal

pub first_place-place-requires : goal.first_place-place-requires
first_place-place-requires c = search (start_nominal, rules)

pub overflow_mul-most : goal.overflow_mul-most
overflow_mul-most c = search (start_product, rules)

pub overflow_add-leg : goal.overflow_add-leg
overflow_add-leg c = search (start-sum, rules)

pub returns : goal.returns
returns c = search (started, rules)
