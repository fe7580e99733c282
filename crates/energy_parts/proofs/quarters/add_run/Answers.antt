-- `energy_parts::quarters::add_run` meets its contract. The loop's invariant: the entries passed have the run's quarters added, the others are as they were.
-- Assumes nothing.
use native.Mathlib.Omega.{arith}
use borrow.Author.Rules.{rules}
use Rattle.energy_parts.proofs.QuarterSteps.{run-begins, more-fits, sum-held, quarter_added, run_ends}
use Rattle.energy_parts.proofs.quarters.add_run.Goals as goal

pub loop-k-init : goal.loop-k-init
loop-k-init c = search (run-begins, rules)

pub overflow_cast-out : goal.overflow_cast-out
overflow_cast-out c = search (more-fits, rules)

pub overflow_add-out : goal.overflow_add-out
overflow_add-out c = search (sum-held, rules)

pub loop-k-preserved : goal.loop-k-preserved
loop-k-preserved c = quarter_added _ _ _ c.requires _ c.quarters_before-last.ensures _ _ c.loop-k.invariant (search rules) _ c.in_quarter-more.ensures (omega arith)

pub returns : goal.returns
returns c = search (run_ends, rules)
