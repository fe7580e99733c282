-- `profiles_sample::digit_run` meets its contract. The invariant: the digits up to i lead from the number at the start to the number as it is. Assumes nothing.
use Rattle.profiles_sample.proofs.Looks.{Running}
use Prim.Native.Nat.{◌-◌}
use lib.ListN.{length}
use Rattle.profiles_sample.proofs.digit_run.Given as goal

abbrev pub invariant-loop-i : goal.invariant-loop-i
invariant-loop-i l = Running l.part l.from l.value l.v l.i

abbrev pub decreases-loop-i : goal.decreases-loop-i
decreases-loop-i l = length l.part - l.i
