-- `merge_order::judge_both` meets its contract: the first's verdict, or the second's. Assumes nothing.
use mathlib.Core.Path.{sym, ◌∙◌}
use Rattle.merge_order.proofs.Judged.{first_stops, second_answers}
use Rattle.merge_order.proofs.judge_both.Goals as goal

pub returns : goal.returns
returns c = first_stops c.judge_choices-first.ensures (sym c.is_accepted.ensures ∙ c.if-is_accepted.false)

pub returns-then-is_accepted : goal.returns-then-is_accepted
returns-then-is_accepted c = second_answers c.judge_choices-first.ensures (sym c.is_accepted.ensures ∙ c.if-is_accepted.true) c.judge_choices-second.ensures
