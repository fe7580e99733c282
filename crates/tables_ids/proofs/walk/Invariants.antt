-- `tables_ids::walk` meets its contract. The loop's invariant: what is left from `i` on has the place that all has. Assumes nothing.
use mathlib.Core.Path.{◌≡◌}
use Rattle.tables_ids.proofs.Onward.{place_after}
use Rattle.tables_ids.proofs.walk.Given as goal

abbrev pub invariant-loop-i : goal.invariant-loop-i
invariant-loop-i l = place_after l.width l.n l.table l.id l.i ≡ place_after l.width l.n l.table l.id l.from
