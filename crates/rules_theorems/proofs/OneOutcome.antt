-- Every input has an outcome, one of three; and what the lent tables held before does not count in it. Assumes nothing.
use Prim.Native.Nat.{ℕ, ◌*◌}
use mathlib.Core.Path.{◌≡◌, refl}
use mathlib.Core.Bool.{Bool, true, false, ◌&&◌}
use mathlib.Core.List.{List}
use mathlib.Core.Logic.{inl, inr}
use lib.Dec.{leb}
use lib.ListN.{length}
use lib.IntN.{ℤ}
use Rattle.rules.specs.Limits.{most_text}
use Rattle.rules.specs.Answers.{Reading, refused, good}
use Rattle.rules.specs.Reading.{Texts}
use Rattle.rules.specs.Verdict.{Finding, accepted, violated}
use Rattle.rules.specs.Entries.{Tables, rooms_of, verdict_of, Whole, all_read, checked, checked_from, reported, report_accepted, report_judged, report_from, Both, both_read, merged, merge_fitted, merge_travel, merge_second, merge_first, merge_from}
use Rattle.rules.specs.Merge.{unequal_from, chosen, text_of}
use Rattle.rules.specs.declared.stated.Stated.{Stated}
use Rattle.rules.specs.declared.answers.Tally.{Tally}
use Rattle.rules.specs.declared.sizes.Configuration.{Configuration}
use Rattle.rules.specs.declared.answers.Answer.{Answer}
use Rattle.rules.specs.declared.answers.Answer.TheVariants.{Accepted, Violated, Refused}
use Rattle.rules_theorems.specs.Outcomes.{Outcome, SameTables, SameCheck, ChecksOwnInput, SameReport, ReportsOwnInput, SameMerge, MergesOwnInput}
use Rattle.std.specs.Prelude.{Option, Some, None}

pub one_outcome : (a : Answer) → Outcome a
one_outcome Accepted = inl refl
one_outcome (Violated v) = inr (inl (v, refl))
one_outcome (Refused r) = inr (inr (r, refl))

-- ---- a record is its fields

pub same_tables : (a b : Tables) → SameTables a b → a ≡ b
same_tables a b e i =
    record {
      legs = e.legs i;
      configurations = e.configurations i;
      profiles = e.profiles i;
      samples = e.samples i;
      constraints = e.constraints i;
      tracks = e.tracks i;
    }

-- ---- an outcome for every input

module _ (S : Stated) (x : Texts) (s : List ℕ) (t : Tables) (c : List ℕ) where
  pub check-total : Outcome (checked S x s t c).answer
  check-total = one_outcome (checked S x s t c).answer

  pub report-total : (curves : List ℤ) → Outcome (reported S x s t c curves).answer
  report-total curves = one_outcome (reported S x s t c curves).answer

  pub merge_total : (merge : List Configuration → List Configuration → List Configuration) (s₂ d text : List ℕ) → Outcome (merged merge S x s s₂ t c d text).answer
  merge_total merge s₂ d text = one_outcome (merged merge S x s s₂ t c d text).answer

-- ---- an entry judges its own input: the texts, and how much was lent

-- what was read decides the answer of a check, and its tally
check_from : (r : Reading Whole) (t t' : Tables) (c c' : List ℕ) → SameCheck (checked_from r t c) (checked_from r t' c')
check_from (refused r) t t' c c' = record { answer = refl; tally = refl }
check_from (good w) t t' c c' = record { answer = refl; tally = refl }

-- and of a report, with the room for curves
module _ (H : ℕ) (t t' : Tables) (c c' : List ℕ) (p p' : List ℤ) where
  report_accepted_lem : (fits : Bool) (n : Tally) (w : Whole) → SameReport (report_accepted fits H n w t c p) (report_accepted fits H n w t' c' p')
  report_accepted_lem true tally w = record { answer = refl; tally = refl; figures = refl; desk = refl }
  report_accepted_lem false tally w = record { answer = refl; tally = refl; figures = refl; desk = refl }

  report_judged_lem : length p ≡ length p' → (v : Finding) (n : Tally) (w : Whole) → SameReport (report_judged v H n w t c p) (report_judged v H n w t' c' p')
  report_judged_lem e accepted tally w = rw e (report_accepted_lem (leb (w.files.document.opened * H) (length p')) tally w)
  report_judged_lem e (violated v) tally w = record { answer = refl; tally = refl; figures = refl; desk = refl }

  report_from_lem : length p ≡ length p' → (r : Reading Whole) → SameReport (report_from r H t c p) (report_from r H t' c' p')
  report_from_lem e (refused r) = record { answer = refl; tally = refl; figures = refl; desk = refl }
  report_from_lem e (good w) = report_judged_lem e (verdict_of w.files w.choices).finding (verdict_of w.files w.choices).tally w

-- and of a merge, with the room for its text
module _ (t t' : Tables) (c c' d d' text text' : List ℕ) where
  merge_fitted_lem : (fits : Bool) (written : List ℕ) (b : Both) → SameMerge (merge_fitted t c d text fits written b) (merge_fitted t' c' d' text' fits written b)
  merge_fitted_lem true written b = record { answer = refl; tally = refl; length = refl }
  merge_fitted_lem false written b = record { answer = refl; tally = refl; length = refl }

  module _ (e : length text ≡ length text') (s₂ : List ℕ) (merge : List Configuration → List Configuration → List Configuration) where
    merge_travel_lem : (u : Option ℕ) (b : Both) → SameMerge (merge_travel t c d text s₂ merge u b) (merge_travel t' c' d' text' s₂ merge u b)
    merge_travel_lem (Some row) b = record { answer = refl; tally = refl; length = refl }
    merge_travel_lem None b =
        let written : List ℕ = text_of (chosen b.files.rows (merge b.first b.second)) in
        rw e (merge_fitted_lem (leb (length written) (length text') && leb (length written) most_text) written b)

    merge_second_lem : (v : Finding) (n : Tally) (b : Both) → SameMerge (merge_second t c d text s₂ merge v n b) (merge_second t' c' d' text' s₂ merge v n b)
    merge_second_lem accepted tally b = merge_travel_lem (unequal_from 0 b.first b.second) b
    merge_second_lem (violated v) tally b = record { answer = refl; tally = refl; length = refl }

    merge_first_lem : (v : Finding) (n : Tally) (b : Both) → SameMerge (merge_first t c d text s₂ merge v n b) (merge_first t' c' d' text' s₂ merge v n b)
    merge_first_lem accepted tally b = merge_second_lem (verdict_of b.files b.second).finding (verdict_of b.files b.second).tally b
    merge_first_lem (violated v) tally b = record { answer = refl; tally = refl; length = refl }

    merge_from_lem : (r : Reading Both) → SameMerge (merge_from t c d text s₂ merge r) (merge_from t' c' d' text' s₂ merge r)
    merge_from_lem (refused r) = record { answer = refl; tally = refl; length = refl }
    merge_from_lem (good b) = merge_first_lem (verdict_of b.files b.first).finding (verdict_of b.files b.first).tally b

module _ (S : Stated) (x : Texts) (s : List ℕ) where
  pub check_own_input : ChecksOwnInput S x s
  unfolding checked
  check_own_input t t' c c' e = rw (e.tables, e.choices) (check_from (all_read S x s (rooms_of t') (length c')) t t' c c')

  pub report_own_input : ReportsOwnInput S x s
  unfolding reported
  report_own_input t t' c c' p p' e long = rw (e.tables, e.choices) (report_from_lem S.horizon t t' c c' p p' long (all_read S x s (rooms_of t') (length c')))

  pub merge_own_input : (merge : List Configuration → List Configuration → List Configuration) (s₂ : List ℕ) → MergesOwnInput S x s merge s₂
  unfolding merged
  merge_own_input merge s₂ t t' c c' d d' text text' e second long =
      rw (e.tables, e.choices, second) (merge_from_lem t t' c c' d d' text text' long s₂ merge (both_read S x s s₂ (rooms_of t') (length c') (length d')))
