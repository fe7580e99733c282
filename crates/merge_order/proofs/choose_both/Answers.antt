-- `merge_order::choose_both` meets its contract: the first's refusal, or what the second's reading says. Assumes nothing.
use borrow.Author.Rules.{rules}
use Rattle.merge_order.proofs.Chosen.{first_refused, second_decides}
use Rattle.merge_order.proofs.choose_both.Goals as goal

pub returns-in-Err : goal.returns-in-Err
returns-in-Err c = search (first_refused, rules)

pub returns-in-Ok : goal.returns-in-Ok
returns-in-Ok c = search (second_decides, rules)
