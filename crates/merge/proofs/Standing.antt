-- What a merge leaves: where nothing is refused, the tables as they were read; short of acceptance, a text of zeros. Assumes nothing.
use Prim.Native.Nat.{ℕ}
use mathlib.Core.Path.{◌≡◌, refl, ap}
use mathlib.Core.Bool.{Bool, true, false, ◌&&◌, true≢false}
use mathlib.Core.List.{List}
use lib.Dec.{leb}
use lib.ListN.{length}
use Rattle.rules.specs.Limits.{most_text, byte_fill}
use Rattle.rules.specs.Answers.{is_refusal, is_accepted, Reading, refused, good, ◌>>=◌}
use Rattle.rules.specs.Reading.{Files}
use Rattle.rules.specs.Tally.{no_tests}
use Rattle.rules.specs.Verdict.{Finding, accepted, violated}
use Rattle.rules.specs.Merge.{unequal_from, chosen, text_of}
use Rattle.rules.specs.Entries.{Tables, filled, written_tables, written_choices, verdict_of, Both, Merged, merge_fitted, merge_travel, merge_second, merge_first, merge_from}
use Rattle.rules.specs.declared.sizes.Configuration.{Configuration}
use Rattle.rules.specs.declared.answers.Tally.{Tally}
use Rattle.rules.specs.declared.answers.Answer.{Answer}
use Rattle.merge.specs.Left.{written_as}
use Rattle.std.specs.Prelude.{Option, Some, None}

pub never : {A : Type 0} → true ≡ false → A
never z = absurd (true≢false z)

-- what is given back with no tally
pub counts-none : {n : Tally} {a : Answer} {size : ℕ} → n ≡ no_tests → record { answer = a; tally = n; length = size } ≡ written_as a size
counts-none {a = a} {size = size} e = ap (λ (n : Tally). record { answer = a; tally = n; length = size }) e

module _ (t : Tables) (c d text second : List ℕ) (merge : List Configuration → List Configuration → List Configuration) where
  -- what was read stands in the tables where nothing is refused, and the text is zeroed short of acceptance
  pub record Stands (b : Both) (o : Merged) : Type 0 where
    pub tables : is_refusal o.answer ≡ false → o.tables ≡ written_tables b.files t
    pub choices : is_refusal o.answer ≡ false → o.choices ≡ written_choices b.first c
    pub second_choices_lem : is_refusal o.answer ≡ false → o.second ≡ written_choices b.second d
    pub zeroed : is_accepted o.answer ≡ false → o.text ≡ filled byte_fill text

  fitted : (fits : Bool) (written : List ℕ) (b : Both) → Stands b (merge_fitted t c d text fits written b)
  fitted false written b = record { tables = never; choices = never; second_choices_lem = never; zeroed = λ z. refl }
  fitted true written b = record { tables = λ z. refl; choices = λ z. refl; second_choices_lem = λ z. refl; zeroed = never }

  travelled : (o : Option ℕ) (b : Both) → Stands b (merge_travel t c d text second merge o b)
  travelled (Some row) b = record { tables = never; choices = never; second_choices_lem = never; zeroed = λ z. refl }
  travelled None b =
      let written = text_of (chosen b.files.rows (merge b.first b.second)) in
      fitted (leb (length written) (length text) && leb (length written) most_text) written b

  judged_second : (v : Finding) (n : Tally) (b : Both) → Stands b (merge_second t c d text second merge v n b)
  judged_second accepted tally b = travelled (unequal_from 0 b.first b.second) b
  judged_second (violated v) tally b = record { tables = λ z. refl; choices = λ z. refl; second_choices_lem = λ z. refl; zeroed = λ z. refl }

  pub judged_stands : (v : Finding) (n : Tally) (b : Both) → Stands b (merge_first t c d text second merge v n b)
  judged_stands accepted tally b = judged_second (verdict_of b.files b.second).finding (verdict_of b.files b.second).tally b
  judged_stands (violated v) tally b = record { tables = λ z. refl; choices = λ z. refl; second_choices_lem = λ z. refl; zeroed = λ z. refl }

  -- the tables of the files stand, whatever two solutions say
  pub files_stand : (f : Files) (p q : Reading (List Configuration))
      → is_refusal (merge_from t c d text second merge (p >>= λ a. q >>= λ b. good (record { files = f; first = a; second = b }))).answer ≡ false
      → (merge_from t c d text second merge (p >>= λ a. q >>= λ b. good (record { files = f; first = a; second = b }))).tables ≡ written_tables f t
  files_stand f (refused r) q = never
  files_stand f (good a) (refused r) = never
  files_stand f (good a) (good b) = (judged_stands (verdict_of f a).finding (verdict_of f a).tally (record { files = f; first = a; second = b })).tables

  pub text_zeroed : (m : Reading Both) → is_accepted (merge_from t c d text second merge m).answer ≡ false
      → (merge_from t c d text second merge m).text ≡ filled byte_fill text
  text_zeroed (refused r) z = refl
  text_zeroed (good b) z = (judged_stands (verdict_of b.files b.first).finding (verdict_of b.files b.first).tally b).zeroed z
