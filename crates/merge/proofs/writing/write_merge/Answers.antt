-- `merge::writing::write_merge` meets its contract: the text, 17 or 16, by its law. Assumes nothing.
use Prim.Native.Nat.{◌<◌}
use mathlib.Core.Path.{sym, ◌∙◌}
use native.Mathlib.Omega.{arith}
use lib.ListN.{length}
use Rattle.text_write.specs.Written.{last_place}
use Rattle.merge.proofs.Texts.{second_short, text_ends, refusal_ends}
use Rattle.merge.proofs.writing.write_merge.Goals as goal

pub of_merge-answer-requires : goal.of_merge-answer-requires
of_merge-answer-requires c = second_short c.requires

pub returns-then-is_accepted : goal.returns-then-is_accepted
returns-then-is_accepted c =
    λ k.
    let s = c in
    let small : length s.args.text.now < last_place = omega arith in
    text_ends k s.args.direction s.args.text.now c.unequal-unequal.ensures small c.put_merged-length.ensures c.of_merge-answer.ensures (sym c.is_accepted.ensures ∙ c.if-is_accepted.true) c.written.ensures

pub returns : goal.returns
returns c =
    λ k.
    let s = c in
    let small : length s.args.text.now < last_place = omega arith in
    refusal_ends k s.args.direction s.args.text.now c.unequal-unequal.ensures small c.put_merged-length.ensures c.of_merge-answer.ensures (sym c.is_accepted.ensures ∙ c.if-is_accepted.false) c.not_written.ensures
