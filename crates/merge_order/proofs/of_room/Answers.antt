-- `merge_order::of_room` meets its contract. Assumes nothing.
use mathlib.Core.Path.{sym, ap, ◌∙◌}
use Rattle.rules.specs.declared.answers.Answer.TheVariants.{Refused}
use Rattle.merge_order.specs.Order.{room_answer}
use Rattle.merge_order.proofs.of_room.Goals as goal

pub returns-then-fits : goal.returns-then-fits
returns-then-fits c = ap room_answer (sym c.if-fits.true ∙ c.fits.ensures)

pub returns : goal.returns
returns c = ap Refused c.new.ensures ∙ ap room_answer (sym c.if-fits.false ∙ c.fits.ensures)
