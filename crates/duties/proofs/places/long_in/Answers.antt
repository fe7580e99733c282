-- `duties::places::long_in` meets its contract: so does its length. Assumes nothing.
use native.Mathlib.Omega.{arith}
use lib.ListN.{length}
use mathlib.Core.Path.{ap}
use Rattle.duties.proofs.Standing.{near_long}
use Rattle.duties.proofs.places.long_in.Goals as goal

pub overflow_cast-result : goal.overflow_cast-result
overflow_cast-result c = let b = near_long c.args.place c.args.line.now c.args.k c.requires _ c.content_at.ensures in omega arith

pub returns : goal.returns
returns c = ap length c.content_at.ensures
