-- `files_tests::lists::profile_fault` meets its contract. The invariant: no row before this one is at fault. Assumes nothing.
use Rattle.files_tests.proofs.Holding.{Passing}
use Rattle.files_tests.proofs.lists.profile_fault.Given as goal

abbrev pub invariant-loop-row : goal.invariant-loop-row
invariant-loop-row l = Passing l.legs l.configurations l.profiles l.m l.row
