-- `say_counts::before_kind` meets its contract: the records of smaller kinds that are left from the loop's place on. Assumes nothing.
use Rattle.say_counts.proofs.Counting.{below_from}
use mathlib.Core.Path.{◌≡◌}
use Prim.Native.Nat.{◌+◌}
use Rattle.say_counts.proofs.before_kind.Given as goal

abbrev pub invariant-loop-i : goal.invariant-loop-i
invariant-loop-i l = l.i + below_from l.kind l.m l.constraints l.i ≡ below_from l.kind l.m l.constraints 0
