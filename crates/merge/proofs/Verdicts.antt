-- Each way out of the two verdicts. Assumes nothing.
use Prim.Native.Nat.{ℕ}
use mathlib.Core.Path.{◌≡◌, refl, sym, ap, ◌∙◌, subst}
use mathlib.Core.Bool.{true, false}
use mathlib.Core.List.{List}
use lib.ListN.{length}
use Rattle.rules.specs.Answers.{solution_file, second_file, is_accepted}
use Rattle.rules.specs.Verdict.{Finding, accepted, violated, found, ruling}
use Rattle.rules.specs.Merge.{merge_of}
use Rattle.rules.specs.Entries.{verdict_of, merge_violated, merge_second, merge_first}
use Rattle.rules.specs.Entries as entries
use Rattle.rules.specs.declared.answers.Ruling.{Ruling}
use Rattle.rules.specs.declared.outcomes.Merged.{Merged}
use Rattle.rules.specs.declared.outcomes.Direction.{Direction}
use Rattle.tables_lent.specs.declared.Counts.{Counts}
use Rattle.solution_verdict.specs.Left.{Judgeable, Ready}
use Rattle.merge_order.specs.Order.{first_ruling}
use Rattle.merge_order.specs.Both.{BothReady, JudgesBoth}
use Rattle.merge.specs.Left.{violated_as, Made, Mergeable, Disputable, both_of, merged_equal, merged_judged}
use Rattle.merge.proofs.Standing.{never}

module _ {counts : Counts} {second legs configurations constraints choices second_choices : List ℕ}
    (k : Disputable counts second legs configurations constraints choices second_choices) where
  abbrev m : Mergeable counts second legs configurations choices second_choices
  m = k.mergeable

  abbrev judgeable : Judgeable m.H counts legs configurations constraints
  judgeable = record { left = m.left; legs_are_lem = m.legs_are_lem; configurations_are_lem = m.configurations_are_lem; constraints_are = k.constraints_are }

  abbrev first_ready : Ready counts legs configurations constraints choices
  first_ready =
      record {
        H = m.H;
        tables = judgeable;
        file = solution_file;
        room = length m.lent;
        text = m.first;
        lent = m.lent;
        chosen = m.both.a;
        read = m.both.a_read;
        choices_are = m.both.choices_are;
      }

  abbrev second_ready : Ready counts legs configurations constraints second_choices
  second_ready =
      record {
        H = m.H;
        tables = judgeable;
        file = second_file;
        room = length m.lent_second;
        text = second;
        lent = m.lent_second;
        chosen = m.both.b;
        read = m.both.b_read;
        choices_are = m.both.second_are;
      }

  abbrev pub both_ready : BothReady counts legs configurations constraints choices second_choices
  both_ready = record { first = first_ready; second = second_ready }

  module _ (d : Direction) (text : List ℕ) where
    abbrev on_first : Finding → entries.Merged
    on_first v = merge_first m.left.lent m.lent m.lent_second text second (merge_of d) v (verdict_of m.left.files m.both.a).tally (both_of m)

    abbrev on_second : Finding → entries.Merged
    on_second v = merge_second m.left.lent m.lent m.lent_second text second (merge_of d) v (verdict_of m.left.files m.both.b).tally (both_of m)

    -- where both are accepted the merge decides, and a violation of either is the answer
    module _ {a : Ruling} (judged : JudgesBoth counts legs configurations constraints choices second_choices a) {r : Merged} {text' : List ℕ}
        (merges : is_accepted a.answer ≡ true → Made (merged_equal m d text) r text') (stops : is_accepted a.answer ≡ false → r ≡ violated_as a) where
      violation : {b : Ruling} → a ≡ b → is_accepted b.answer ≡ false → Made (merge_violated m.left.lent m.lent m.lent_second text b.answer b.tally (both_of m)) r text'
      violation {b} e h =
          let not-fair : is_accepted a.answer ≡ false = ap (λ (v : Ruling). is_accepted v.answer) e ∙ h in
          rw (stops not-fair)
          (record { answer = ap (λ (v : Ruling). v.answer) e; tally = ap (λ (v : Ruling). v.tally) e; length = refl; puts = λ z. never (sym z ∙ not-fair) })

      pub judged_ends : Made (merged_judged m d text) r text'
      judged_ends = go (verdict_of m.left.files m.both.a).finding (verdict_of m.left.files m.both.b).finding refl (judged both_ready)
        where
          one : Finding → Ruling
          one v = ruling solution_file (found v (verdict_of m.left.files m.both.a).tally)

          two : Finding → Ruling
          two v = ruling second_file (found v (verdict_of m.left.files m.both.b).tally)

          go : (v w : Finding) → (verdict_of m.left.files m.both.b).finding ≡ w → a ≡ first_ruling (one v) (two w) → Made (on_first v) r text'
          go (violated v) w q e = violation e refl
          go accepted (violated v) q e = subst (λ u. Made (on_second u) r text') (sym q) (violation e refl)
          go accepted accepted q e = subst (λ u. Made (on_second u) r text') (sym q) (merges (ap (λ (v : Ruling). is_accepted v.answer) e))
