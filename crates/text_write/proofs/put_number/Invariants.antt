-- `text_write::put_number` meets its contract, by the laws of `Spelling`: the digits laid so far follow the number that is left. Assumes nothing.
use Rattle.text_write.proofs.Spelling.{Spelling}
use Rattle.text_write.proofs.put_number.Given as goal

abbrev pub invariant-loop-left : goal.invariant-loop-left
invariant-loop-left l = Spelling l.n l.digits l.k l.left

abbrev pub decreases-loop-left : goal.decreases-loop-left
decreases-loop-left l = l.left
