-- `merge_order::of_travels` meets its contract. Assumes nothing.
use mathlib.Core.Path.{sym, ap, ◌∙◌}
use Rattle.rules.specs.declared.answers.Answer.TheVariants.{Refused}
use Rattle.merge_order.specs.Order.{travel_answer}
use Rattle.merge_order.proofs.of_travels.Goals as goal

pub returns-in-Some : goal.returns-in-Some
returns-in-Some c = ap Refused c.row_refusal-refusal.ensures ∙ sym (ap (travel_answer c.args.second.now) c.in-Some.is)
