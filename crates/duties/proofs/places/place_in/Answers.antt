-- `duties::places::place_in` meets its contract: a content ends within a text of lawful length, so its place fits. Assumes nothing.
use native.Mathlib.Omega.{arith}
use Rattle.duties.proofs.Standing.{near_place}
use Rattle.duties.proofs.places.place_in.Goals as goal

pub overflow_add-result : goal.overflow_add-result
overflow_add-result c = let b = near_place c.args.place c.args.line.now c.args.k c.requires _ c.place_at-at.ensures in omega arith

pub overflow_cast-result : goal.overflow_cast-result
overflow_cast-result c = let b = near_place c.args.place c.args.line.now c.args.k c.requires _ c.place_at-at.ensures in omega arith
