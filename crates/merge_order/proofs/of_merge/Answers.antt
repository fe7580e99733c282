-- `merge_order::of_merge` meets its contract: 17 before 16. Assumes nothing.
use mathlib.Core.Path.{ap₂, ◌∙◌}
use Rattle.merge_order.specs.Order.{first_of}
use Rattle.merge_order.proofs.of_merge.Goals as goal

pub returns : goal.returns
returns c = c.first_of.ensures ∙ ap₂ first_of c.of_travels-travel.ensures c.of_room-fitting.ensures
