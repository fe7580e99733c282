-- `csv_lines::ends::line_end` meets its contract: what is left from the loop's place on says where the line ends. Assumes nothing.
use Prim.Native.Nat.{◌+◌, ◌-◌}
use mathlib.Core.Path.{◌≡◌}
use lib.ListN.{length, drop}
use Rattle.rules.specs.Bytes.{line_feed}
use Rattle.text_read.specs.Places.{up_to}
use Rattle.csv_lines.proofs.ends.line_end.Given as goal

abbrev pub invariant-loop-at : goal.invariant-loop-at
invariant-loop-at l = l.at + up_to line_feed (drop l.at l.text) ≡ l.from + up_to line_feed (drop l.from l.text)

abbrev pub decreases-loop-at : goal.decreases-loop-at
decreases-loop-at l = length l.text - l.at
