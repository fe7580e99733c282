-- What is left decides as the whole does. Assumes nothing.
use Rattle.rules.specs.Duties.{in_name}
use Rattle.rules.specs.Lists.{every}
use lib.ListN.{drop}
use mathlib.Core.Path.{◌≡◌}
use Rattle.duties_fields.proofs.names.is_name.Given as goal

abbrev pub invariant-loop-b : goal.invariant-loop-b
invariant-loop-b l = every in_name (drop l.b-index l.s) ≡ every in_name l.s
