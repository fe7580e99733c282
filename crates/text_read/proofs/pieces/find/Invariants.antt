-- `text_read::pieces::find` meets its contract: what is left from the loop's place on says where the first separator stands. Assumes nothing.
use Prim.Native.Nat.{◌+◌}
use mathlib.Core.Path.{◌≡◌}
use lib.ListN.{drop}
use Rattle.text_read.specs.Places.{up_to}
use Rattle.text_read.proofs.pieces.find.Given as goal

abbrev pub invariant-loop-at : goal.invariant-loop-at
invariant-loop-at l = l.at + up_to l.sep (drop l.at l.s) ≡ l.from + up_to l.sep (drop l.from l.s)
