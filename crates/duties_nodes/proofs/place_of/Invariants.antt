-- `duties_nodes::place_of` meets its contract: what is left decides as the whole does. Assumes nothing.
use mathlib.Core.Path.{◌≡◌}
use Rattle.duties_nodes.proofs.Walking.{rest}
use Rattle.duties_nodes.proofs.place_of.Given as goal

abbrev pub invariant-loop-i : goal.invariant-loop-i
invariant-loop-i l = (rest l.text l.table l.name l.n l.i) ≡ (rest l.text l.table l.name l.n 0)
