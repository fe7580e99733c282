-- `merge::judging::merge_chosen` meets its contract: both verdicts, and each way out by one law. Assumes nothing.
use mathlib.Core.Path.{sym, ◌∙◌}
use Rattle.merge.proofs.Standing.{never}
use Rattle.merge.proofs.Verdicts.{both_ready, judged_ends}
use Rattle.merge.proofs.judging.merge_chosen.Goals as goal

pub judge_both-ruling-requires : goal.judge_both-ruling-requires
judge_both-ruling-requires c = both_ready c.requires

pub returns-then-is_accepted : goal.returns-then-is_accepted
returns-then-is_accepted c =
    λ k.
    let s = c.args in
    judged_ends k s.direction s.text.now c.judge_both-ruling.ensures (λ h. c.write_merge.ensures k.mergeable) (λ h. never (sym (sym c.is_accepted.ensures ∙ c.if-is_accepted.true) ∙ h))

pub returns : goal.returns
returns c =
    λ k.
    let s = c.args in
    judged_ends k s.direction s.text.now c.judge_both-ruling.ensures (λ h. never (sym h ∙ sym c.is_accepted.ensures ∙ c.if-is_accepted.false)) (λ h. c.violated.ensures)
