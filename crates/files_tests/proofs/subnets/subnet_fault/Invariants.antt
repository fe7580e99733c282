-- `files_tests::subnets::subnet_fault` meets its contract. The invariant: the tracks of the rows before i are listed. Assumes nothing.
use Rattle.files_tests.proofs.Fifteen.{Listed}
use Rattle.files_tests.proofs.subnets.subnet_fault.Given as goal

abbrev pub invariant-loop-i : goal.invariant-loop-i
invariant-loop-i l = Listed l.legs l.n l.tracks l.m l.i
