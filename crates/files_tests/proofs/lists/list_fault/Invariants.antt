-- `files_tests::lists::list_fault` meets its contract. The invariant: of the entries before k no profile is missing, and whether one has another length is known. Assumes nothing.
use Rattle.files_tests.specs.Counts.{count_at}
use Rattle.files_tests.proofs.Counts.{Seeing}
use Rattle.files_tests.proofs.lists.list_fault.Given as goal

abbrev pub invariant-loop-k : goal.invariant-loop-k
invariant-loop-k l = Seeing l.configurations l.first (count_at l.profiles l.m) l.seen l.k
