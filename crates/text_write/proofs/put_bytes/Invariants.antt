-- `text_write::put_bytes` meets its contract: after each turn the bytes so far are written. Assumes nothing.
use lib.ListN.{length, take}
use Rattle.text_write.proofs.Growing.{Growing}
use Rattle.text_write.proofs.put_bytes.Given as goal

abbrev pub invariant-loop-b : goal.invariant-loop-b
invariant-loop-b l = Growing (λ k. take k l.s) (length l.s) l.initial.buffer l.at l.buffer l.place l.b-index
