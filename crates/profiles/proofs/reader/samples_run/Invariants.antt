-- `profiles::reader::samples_run` meets its contract: whole samples one after the other. The invariant: the bytes up to i lead from the list at the start to the list as it is. Assumes nothing.
use Rattle.profiles.proofs.Feed.{Sampling}
use Prim.Native.Nat.{◌-◌}
use lib.ListN.{length}
use Rattle.profiles.proofs.reader.samples_run.Given as goal

abbrev pub invariant-loop-read : goal.invariant-loop-read
invariant-loop-read l = Sampling l.part l.past l.initial.cur l.from l.initial.samples l.cur l.i l.samples

abbrev pub decreases-loop-read : goal.decreases-loop-read
decreases-loop-read l = length l.part - l.i
