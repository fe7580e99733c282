-- `say_counts::numbers` meets its contract: what is left from the loop's place on says where the first fill number stands. Assumes nothing.
use Rattle.text_read.specs.Places.{up_to}
use Rattle.rules.specs.Limits.{unsigned_fill}
use lib.ListN.{drop}
use mathlib.Core.Path.{◌≡◌}
use Prim.Native.Nat.{◌+◌}
use Rattle.say_counts.proofs.numbers.Given as goal

abbrev pub invariant-loop-at : goal.invariant-loop-at
invariant-loop-at l = l.at + up_to unsigned_fill (drop l.at l.t) ≡ up_to unsigned_fill l.t
