-- `csv_lines::places::place_of_row` meets its contract: what is left from the loop's place on has the rows that are left. Assumes nothing.
use Prim.Native.Nat.{◌+◌}
use mathlib.Core.Path.{◌≡◌}
use lib.ListN.{drop}
use Rattle.rules.specs.Rows.{place_of_row}
use Rattle.csv_lines.proofs.places.place_of_row.Given as goal

abbrev pub invariant-loop-at : goal.invariant-loop-at
invariant-loop-at l = l.at + place_of_row (drop l.at l.text) l.left ≡ place_of_row l.text l.row
