-- DEMAND 1: any input of any entry ends in one of three answers, and after a refusal every lent table and text is filled. Assumes nothing.
use Prim.Native.Nat.{ℕ, ◌*◌}
use mathlib.Core.Path.{◌≡◌, refl}
use mathlib.Core.Bool.{Bool, true, false, ◌&&◌}
use mathlib.Core.List.{List}
use native.Mathlib.Omega.{arith}
use lib.Dec.{leb}
use lib.ListN.{length}
use lib.IntN.{ℤ}
use Rattle.rules.specs.Limits.{most_text}
use Rattle.rules.specs.Answers.{Reading, refused, good, solution_file}
use Rattle.rules.specs.Reading.{Texts}
use Rattle.rules.specs.Verdict.{Finding, accepted, violated, answer_of}
use Rattle.rules.specs.Merge.{unequal_from, chosen, text_of}
use Rattle.rules.specs.Entries.{Tables, rooms_of, verdict_of, Whole, all_read, checked_from, checked, report_accepted, report_judged, report_from, reported, Both, both_read, Merged, merge_fitted, merge_travel, merge_second, merge_first, merge_from, merged}
use Rattle.rules.specs.declared.stated.Stated.{Stated}
use Rattle.rules.specs.declared.answers.Tally.{Tally}
use Rattle.rules.specs.declared.sizes.Configuration.{Configuration}
use Rattle.rules.specs.declared.answers.Violation.{Violation}
use Rattle.rules.specs.declared.answers.Answer.TheVariants.{Accepted, Violated}
use Rattle.rules_theorems.specs.Demands.{IsRefused, DemandOne, EmptiedCheck, EmptiedReport, EmptiedMerge}
use Rattle.rules_theorems.proofs.OneOutcome.{one_outcome}
use Rattle.std.specs.Prelude.{Option, Some, None}

-- an accepted or violated answer is no refusal
pub accepted_not_refused : IsRefused Accepted → ⊥
accepted_not_refused h = let e = h.1 in let z : ◌≡◌ {A = ℕ} 0 1 = cc in omega arith

pub violated_not_refused : (v : Violation) → IsRefused (Violated v) → ⊥
violated_not_refused v h = let e = h.1 in let z : ◌≡◌ {A = ℕ} 0 1 = cc in omega arith

pub verdict-not_refused : (file : ℕ) (v : Finding) → IsRefused (answer_of file v) → ⊥
verdict-not_refused file accepted = accepted_not_refused
verdict-not_refused file (violated v) = violated_not_refused _

-- ---- what each entry leaves after a refusal

module _ (S : Stated) (x : Texts) (s : List ℕ) (t : Tables) (c : List ℕ) where
  check_emptied : IsRefused (checked S x s t c).answer → EmptiedCheck t c (checked S x s t c)
  unfolding checked
  check_emptied = go (all_read S x s (rooms_of t) (length c))
    where
      go : (m : Reading Whole) → IsRefused (checked_from m t c).answer → EmptiedCheck t c (checked_from m t c)
      go (refused r) e = record { tally = refl; tables = refl; choices = refl }
      go (good w) e = absurd (verdict-not_refused solution_file (verdict_of w.files w.choices).finding e)

  -- a check ends in one of three answers, and after a refusal every table is filled
  pub demand_one : DemandOne (checked S x s t c).answer (EmptiedCheck t c (checked S x s t c))
  demand_one = record { outcome = one_outcome (checked S x s t c).answer; emptied = check_emptied }

  module _ (p : List ℤ) where
    report_emptied : IsRefused (reported S x s t c p).answer → EmptiedReport t c p (reported S x s t c p)
    unfolding reported
    report_emptied = go (all_read S x s (rooms_of t) (length c))
      where
        fitted : (fits : Bool) (n : Tally) (w : Whole) → IsRefused (report_accepted fits S.horizon n w t c p).answer → EmptiedReport t c p (report_accepted fits S.horizon n w t c p)
        fitted true tally w e = absurd (accepted_not_refused e)
        fitted false tally w e = record { tally = refl; tables = refl; choices = refl; curves = refl; figures = refl }

        judged : (v : Finding) (n : Tally) (w : Whole) → IsRefused (report_judged v S.horizon n w t c p).answer → EmptiedReport t c p (report_judged v S.horizon n w t c p)
        judged accepted tally w e = fitted (leb (w.files.document.opened * S.horizon) (length p)) tally w e
        judged (violated v) tally w e = absurd (violated_not_refused _ e)

        go : (m : Reading Whole) → IsRefused (report_from m S.horizon t c p).answer → EmptiedReport t c p (report_from m S.horizon t c p)
        go (refused r) e = record { tally = refl; tables = refl; choices = refl; curves = refl; figures = refl }
        go (good w) e = judged (verdict_of w.files w.choices).finding (verdict_of w.files w.choices).tally w e

    -- a report too: its curve table is filled, and its figures are 0
    pub report_demand_one : DemandOne (reported S x s t c p).answer (EmptiedReport t c p (reported S x s t c p))
    report_demand_one = record { outcome = one_outcome (reported S x s t c p).answer; emptied = report_emptied }

  module _ (merge : List Configuration → List Configuration → List Configuration) (s₂ d text : List ℕ) where
    merge_emptied : IsRefused (merged merge S x s s₂ t c d text).answer → EmptiedMerge t c d text (merged merge S x s s₂ t c d text)
    unfolding merged
    merge_emptied = go (both_read S x s s₂ (rooms_of t) (length c) (length d))
      where
        Emptied : Merged → Type 0
        Emptied m = IsRefused m.answer → EmptiedMerge t c d text m

        fitted : (fits : Bool) (written : List ℕ) (b : Both) → Emptied (merge_fitted t c d text fits written b)
        fitted true written b e = absurd (accepted_not_refused e)
        fitted false written b e = record { tally = refl; tables = refl; choices = refl; second = refl; text = refl; length = refl }

        travelled : (o : Option ℕ) (b : Both) → Emptied (merge_travel t c d text s₂ merge o b)
        travelled None b e =
            let written = text_of (chosen b.files.rows (merge b.first b.second)) in
            fitted (leb (length written) (length text) && leb (length written) most_text) written b e
        travelled (Some row) b e = record { tally = refl; tables = refl; choices = refl; second = refl; text = refl; length = refl }

        second : (v : Finding) (n : Tally) (b : Both) → Emptied (merge_second t c d text s₂ merge v n b)
        second accepted tally b e = travelled (unequal_from 0 b.first b.second) b e
        second (violated v) tally b e = absurd (violated_not_refused _ e)

        first : (v : Finding) (n : Tally) (b : Both) → Emptied (merge_first t c d text s₂ merge v n b)
        first accepted tally b e = second (verdict_of b.files b.second).finding (verdict_of b.files b.second).tally b e
        first (violated v) tally b e = absurd (violated_not_refused _ e)

        go : (m : Reading Both) → Emptied (merge_from t c d text s₂ merge m)
        go (refused r) e = record { tally = refl; tables = refl; choices = refl; second = refl; text = refl; length = refl }
        go (good b) e = first (verdict_of b.files b.first).finding (verdict_of b.files b.first).tally b e

    -- a merge too, by whatever rule it chooses: both choice tables are filled, and the text buffer is zeroed
    pub merge_demand_one : DemandOne (merged merge S x s s₂ t c d text).answer (EmptiedMerge t c d text (merged merge S x s s₂ t c d text))
    merge_demand_one = record { outcome = one_outcome (merged merge S x s s₂ t c d text).answer; emptied = merge_emptied }
