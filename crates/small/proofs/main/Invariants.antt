-- The arguments that are left get fewer, since each group takes one at least.
use Rattle.std.proofs.Common.{◌-◌, ◌<◌}
use Rattle.small.proofs.main.Given as goal

abbrev pub invariant-loop-at : goal.invariant-loop-at
invariant-loop-at l = 0 < l.at

abbrev pub decreases-loop-at : goal.decreases-loop-at
decreases-loop-at l = l.count - l.at
