-- `profiles_sample::fraction_at` meets its contract. The invariant: the digits up to i lead from the point to the digits as they are. Assumes nothing.
use Rattle.profiles_sample.proofs.Looks.{Fractioning}
use Prim.Native.Nat.{◌-◌}
use lib.ListN.{length}
use Rattle.profiles_sample.proofs.fraction_at.Given as goal

abbrev pub invariant-loop-i : goal.invariant-loop-i
invariant-loop-i l = Fractioning l.part l.from l.negative l.whole l.digits l.value l.i

abbrev pub decreases-loop-i : goal.decreases-loop-i
decreases-loop-i l = length l.part - l.i
