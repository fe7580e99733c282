-- `csv_lines::places::row_refusal` meets its contract: a place in a text of lawful length fits. Assumes nothing.
use native.Mathlib.Omega.{arith}
use Rattle.csv_lines.proofs.RowPlaces.{place_most}
use Rattle.csv_lines.proofs.places.row_refusal.Goals as goal

pub overflow_cast-place : goal.overflow_cast-place
overflow_cast-place c = omega (arith, place_most c.args.text.now c.args.row)
