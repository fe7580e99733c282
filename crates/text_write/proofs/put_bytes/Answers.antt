-- `text_write::put_bytes` meets its contract: after each turn the bytes so far are written. Assumes nothing.
use native.Mathlib.Omega.{arith}
use mathlib.Core.Path.{refl}
use lib.Seq.{take-suc, take-length}
use borrow.Author.Rules.{rules}
use Rattle.text_write.proofs.Growing.{growing_none, growing_more, growing_all}
use Rattle.text_write.proofs.put_bytes.Goals as goal

pub loop-b-init : goal.loop-b-init
loop-b-init c = growing_none refl (search rules)

pub loop-b-preserved : goal.loop-b-preserved
loop-b-preserved c =
    let at = c.loop-b in
    growing_more at.invariant c.loop-b-test.true (take-suc _ at.b-index 0 c.loop-b-test.true) c.put_byte-place.ensures (omega arith)

pub returns : goal.returns
returns c = growing_all c.loop-b.invariant c.loop-b-test.false (take-length _)
