-- A check that refuses fills everything, and one that does not leaves what it read. Assumes nothing.
use Prim.Native.Nat.{ℕ}
use mathlib.Core.Path.{◌≡◌, refl, ap, ◌∙◌}
use mathlib.Core.Bool.{Bool, true, false, cond}
use mathlib.Core.List.{List}
use lib.ListN.{length}
use Rattle.rules.specs.Limits.{unsigned_fill}
use Rattle.rules.specs.Answers.{is_refusal, solution_file, values_of, Reading, refused, good}
use Rattle.rules.specs.Reading.{Texts}
use Rattle.rules.specs.Verdict.{Finding, accepted, violated, answer_of}
use Rattle.rules.specs.Entries.{Tables, Whole, rooms_of, filled, filled_tables, verdict_of, all_read, checked}
use Rattle.rules.specs.Promises.{Checks}
use Rattle.rules.specs.declared.stated.Stated.{Stated}
use Rattle.checker_judge.specs.declared.Judged.{Judged}
use Rattle.checker_judge.specs.Promise.{ReadAndJudged}
use Rattle.tables_lent.specs.After.{tables_after, choices_after}
use Rattle.tables_lent.proofs.Filled.{SameLengths, filled_alike, tables-filled_alike}

-- a verdict is no refusal
verdict_kept : (file : ℕ) (v : Finding) → is_refusal (answer_of file v) ≡ false
verdict_kept file accepted = refl
verdict_kept file (violated v) = refl

module _ (S : Stated) (x : Texts) (s : List ℕ) (t : Tables) (c : List ℕ) {j : Judged} {t' : Tables} {c' : List ℕ} (read : ReadAndJudged S x s t c j t' c') where
  abbrev all : Reading Whole
  all = all_read S x s (rooms_of t) (length c)

  -- what the answer leaves of what was read: b says whether it is a refusal
  abbrev kept : Bool → Tables
  kept b = cond b (filled_tables t') t'

  abbrev kept_choices : Bool → List ℕ
  kept_choices b = cond b (filled unsigned_fill c') c'

  pub check_ends : SameLengths t' t → length c' ≡ length c → {t'' : Tables} → t'' ≡ tables_after j.answer t' → {c'' : List ℕ} → c'' ≡ choices_after j.answer c'
      → Checks S x s t c (record { answer = j.answer; tally = j.tally }) t'' c''
  unfolding checked
  check_ends same many {t''} tables {c''} choices = go all refl
    where
      go : (o : Reading Whole) → all ≡ o → Checks S x s t c (record { answer = j.answer; tally = j.tally }) t'' c''
      go (refused r) e =
          let says : is_refusal j.answer ≡ true = ap is_refusal read.answers ∙ rw e in
          record {
            answer = read.answers;
            values = ap values_of read.answers;
            tally = read.tallies;
            tables = tables ∙ ap kept says ∙ tables-filled_alike t' t same ∙ rw e;
            choices = choices ∙ ap kept_choices says ∙ filled_alike unsigned_fill c' c many ∙ rw e;
          }
      go (good w) e =
          let says : is_refusal j.answer ≡ false = ap is_refusal read.answers ∙ rw e (verdict_kept solution_file (verdict_of w.files w.choices).finding) in
          record {
            answer = read.answers;
            values = ap values_of read.answers;
            tally = read.tallies;
            tables = tables ∙ ap kept says ∙ (read.writes w e).0 ∙ rw e;
            choices = choices ∙ ap kept_choices says ∙ (read.writes w e).1 ∙ rw e;
          }
