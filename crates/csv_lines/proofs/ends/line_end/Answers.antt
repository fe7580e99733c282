-- `csv_lines::ends::line_end` meets its contract: what is left from the loop's place on says where the line ends. Assumes nothing.
use mathlib.Core.Path.{◌∙◌}
use native.Mathlib.Omega.{arith}
use Rattle.csv_lines.proofs.ends.line_end.Goals as goal

pub overflow_add-at : goal.overflow_add-at
overflow_add-at c = let on = c.clear_at.ensures c.loop-at-test.true in omega (arith, on.there)

pub loop-at-smaller : goal.loop-at-smaller
loop-at-smaller c = let on = c.clear_at.ensures c.loop-at-test.true in omega (arith, on.there)

pub loop-at-preserved : goal.loop-at-preserved
loop-at-preserved c = (c.clear_at.ensures c.loop-at-test.true).on ∙ c.loop-at.invariant

pub returns : goal.returns
returns c = c.find.ensures ∙ c.loop-at.invariant
