-- `energy_parts::quarters::add_run` meets its contract. The loop's invariant: the entries passed have the run's quarters added, the others are as they were.
-- Assumes nothing.
use Rattle.energy_parts.specs.Quarters.{quarter_taken}
use Rattle.energy_parts.proofs.QuarterSteps.{Counting}
use Rattle.energy_parts.proofs.quarters.add_run.Given as goal

abbrev pub invariant-loop-k : goal.invariant-loop-k
invariant-loop-k l = Counting l.initial.out (quarter_taken l.start l.run) l.out l.k
