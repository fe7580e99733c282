-- A merge that is accepted leaves what it read and wrote; a violation zeroes the text, and a refusal fills everything. Assumes nothing.
use Prim.Native.Nat.{ℕ}
use mathlib.Core.Path.{◌≡◌, sym, ap, ◌∙◌}
use mathlib.Core.Bool.{true, false}
use mathlib.Core.List.{List}
use lib.ListN.{length}
use Rattle.rules.specs.Limits.{byte_fill}
use Rattle.rules.specs.Answers.{is_refusal, is_accepted, values_of}
use Rattle.rules.specs.Reading.{Texts}
use Rattle.rules.specs.Merge.{merge_of}
use Rattle.rules.specs.Entries.{Tables, rooms_of, filled, both_read, merged}
use Rattle.rules.specs.Entries as entries
use Rattle.rules.specs.Promises.{Merges}
use Rattle.rules.specs.declared.stated.Stated.{Stated}
use Rattle.rules.specs.declared.outcomes.Merged.{Merged}
use Rattle.rules.specs.declared.outcomes.Direction.{Direction}
use Rattle.rules_theorems.specs.Demands.{EmptiedMerge}
use Rattle.rules_theorems.proofs.DemandOne.{merge_demand_one}
use Rattle.tables_lent.specs.After.{tables_after, choices_after, text_after}
use Rattle.tables_lent.proofs.Filled.{SameLengths, tables_after_lem, choices-after, text_after_lem}
use Rattle.merge.specs.Promise.{MergeRead}
use Rattle.merge.proofs.Standing.{text_zeroed}
use Rattle.checker.proofs.Refusing.{is_refused}

-- t, c, d, w: as they were lent; t', c', d', w': as the reading left them; t'', c'', d'', w'': as the answer leaves them
module _ (direction : Direction) (S : Stated) (x : Texts) (first second : List ℕ) (t : Tables) (c d w : List ℕ)
    {r : Merged} {t' : Tables} {c' d' w' : List ℕ} (read : MergeRead direction S x first second t c d w r t' c' d' w') where
  abbrev outcome : entries.Merged
  outcome = merged (merge_of direction) S x first second t c d w

  emptied : is_refusal r.answer ≡ true → EmptiedMerge t c d w outcome
  emptied h =
      (merge_demand_one S x first t c (merge_of direction) second d w).emptied
      (is_refused outcome.answer (ap is_refusal (sym read.solved.made.answer) ∙ h))

  zeroed : is_accepted r.answer ≡ false → filled byte_fill w ≡ outcome.text
  unfolding merged
  zeroed h =
      sym
      (text_zeroed t c d w second (merge_of direction) (both_read S x first second (rooms_of t) (length c) (length d)) (ap is_accepted (sym read.solved.made.answer) ∙ h))

  pub merge_ends : SameLengths t' t → length c' ≡ length c → length d' ≡ length d → length w' ≡ length w
      → {t'' : Tables} → t'' ≡ tables_after r.answer t' → {c'' : List ℕ} → c'' ≡ choices_after r.answer c' → {d'' : List ℕ} → d'' ≡ choices_after r.answer d'
      → {w'' : List ℕ} → w'' ≡ text_after r.answer w' → Merges direction S x first second t c d w r t'' c'' d'' w''
  merge_ends same many many₂ long tables choices second_choices_lem text =
      record {
        answer = read.solved.made.answer;
        values = ap values_of read.solved.made.answer;
        tally = read.solved.made.tally;
        length = read.solved.made.length;
        tables = tables_after_lem r.answer t same tables (λ h. sym (emptied h).tables) read.writes;
        choices = choices-after r.answer c many choices (λ h. sym (emptied h).choices) (λ h. (read.solved.chooses h).0);
        second = choices-after r.answer d many₂ second_choices_lem (λ h. sym (emptied h).second) (λ h. (read.solved.chooses h).1);
        text = text_after_lem r.answer w long text read.solved.made.puts zeroed;
      }
