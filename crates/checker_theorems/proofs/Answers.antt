-- What an answer rests on: the reading, the verdicts, the travel times and the room. Assumes nothing.
use Prim.Native.Nat.{ℕ, ◌*◌}
use mathlib.Core.Path.{◌≡◌, refl, sym}
use mathlib.Core.Bool.{Bool, true, false, true≢false, ◌&&◌}
use mathlib.Core.List.{List}
use mathlib.Core.Logic.{◌↔◌, ◌⊎◌, inl, inr}
use native.Mathlib.Omega.{arith}
use lib.Dec.{leb}
use lib.ListN.{length}
use lib.IntN.{ℤ}
use Rattle.rules.specs.Limits.{most_text, signed_fill, byte_fill}
use Rattle.rules.specs.Answers.{Reading, refused, good, solution_file, second_file}
use Rattle.rules.specs.Reading.{Texts}
use Rattle.rules.specs.Verdict.{Finding, accepted, violated, answer_of}
use Rattle.rules.specs.Merge.{unequal_from, chosen, text_of}
use Rattle.rules.specs.Entries.{Tables, rooms_of, filled, written_tables, written_choices, no_figures, verdict_of, Whole, all_read, checked_from, checked, report_accepted, report_judged, report_from, reported, Both, both_read, Merged, merge_fitted, merge_travel, merge_second, merge_first, merge_from, merged}
use Rattle.rules.specs.declared.stated.Stated.{Stated}
use Rattle.rules.specs.declared.sizes.Configuration.{Configuration}
use Rattle.rules.specs.declared.answers.Refusal.{Refusal}
use Rattle.rules.specs.declared.answers.Violation.{Violation}
use Rattle.rules.specs.declared.answers.Tally.{Tally}
use Rattle.rules.specs.declared.answers.Answer.TheVariants.{Accepted, Violated, Refused}
use Rattle.rules.proofs.Truth.{missing}
use Rattle.rules_theorems.specs.Demands.{IsRefused}
use Rattle.rules_theorems.proofs.DemandOne.{accepted_not_refused, violated_not_refused}
use Rattle.std.specs.Prelude.{Option, Some, None}

-- three answers are three
pub refused_not_accepted : {r : Refusal} {A : Type 0} → Refused r ≡ Accepted → A
refused_not_accepted e = let z : ◌≡◌ {A = ℕ} 0 1 = cc in absurd (omega arith)

pub violated_not_accepted : {v : Violation} {A : Type 0} → Violated v ≡ Accepted → A
violated_not_accepted e = let z : ◌≡◌ {A = ℕ} 0 1 = cc in absurd (omega arith)

pub refused_not_violated : {r : Refusal} {v : Violation} {A : Type 0} → Refused r ≡ Violated v → A
refused_not_violated e = let z : ◌≡◌ {A = ℕ} 0 1 = cc in absurd (omega arith)

-- ---- a check

module _ (S : Stated) (x : Texts) (s : List ℕ) (t : Tables) (c : List ℕ) where
  -- one that is not refused has read
  pub check-read : (IsRefused (checked S x s t c).answer → ⊥) → (w : Whole) × (all_read S x s (rooms_of t) (length c) ≡ good w)
  unfolding checked
  check-read = go (all_read S x s (rooms_of t) (length c)) refl
    where
      go : (m : Reading Whole) → all_read S x s (rooms_of t) (length c) ≡ m → (IsRefused (checked_from m t c).answer → ⊥)
          → (w : Whole) × (all_read S x s (rooms_of t) (length c) ≡ good w)
      go (refused r) e n = absurd (n (r, refl))
      go (good w) e n = (w, e)

  module _ (w : Whole) (e : all_read S x s (rooms_of t) (length c) ≡ good w) where
    pub check-tables : (checked S x s t c).tables ≡ written_tables w.files t
    unfolding checked
    check-tables = rw e

    pub check-choices : (checked S x s t c).choices ≡ written_choices w.choices c
    unfolding checked
    check-choices = rw e

  -- ---- a report

  module _ (p : List ℤ) where
    pub report-read : (IsRefused (reported S x s t c p).answer → ⊥) → (w : Whole) × (all_read S x s (rooms_of t) (length c) ≡ good w)
    unfolding reported
    report-read = go (all_read S x s (rooms_of t) (length c)) refl
      where
        go : (m : Reading Whole) → all_read S x s (rooms_of t) (length c) ≡ m → (IsRefused (report_from m S.horizon t c p).answer → ⊥)
            → (w : Whole) × (all_read S x s (rooms_of t) (length c) ≡ good w)
        go (refused r) e n = absurd (n (r, refl))
        go (good w) e n = (w, e)

    -- short of acceptance
    pub report_short : ((reported S x s t c p).answer ≡ Accepted → ⊥) → ((reported S x s t c p).curves ≡ filled signed_fill p) × ((reported S x s t c p).figures ≡ no_figures)
    unfolding reported
    report_short = go (all_read S x s (rooms_of t) (length c))
      where
        fitted : (fits : Bool) (n : Tally) (w : Whole) → ((report_accepted fits S.horizon n w t c p).answer ≡ Accepted → ⊥)
            → ((report_accepted fits S.horizon n w t c p).curves ≡ filled signed_fill p) × ((report_accepted fits S.horizon n w t c p).figures ≡ no_figures)
        fitted true tally w n = absurd (n refl)
        fitted false tally w n = (refl, refl)

        judged : (v : Finding) (n : Tally) (w : Whole) → ((report_judged v S.horizon n w t c p).answer ≡ Accepted → ⊥)
            → ((report_judged v S.horizon n w t c p).curves ≡ filled signed_fill p) × ((report_judged v S.horizon n w t c p).figures ≡ no_figures)
        judged accepted tally w n = fitted (leb (w.files.document.opened * S.horizon) (length p)) tally w n
        judged (violated v) tally w n = (refl, refl)

        go : (m : Reading Whole) → ((report_from m S.horizon t c p).answer ≡ Accepted → ⊥)
            → ((report_from m S.horizon t c p).curves ≡ filled signed_fill p) × ((report_from m S.horizon t c p).figures ≡ no_figures)
        go (refused r) n = (refl, refl)
        go (good w) n = judged (verdict_of w.files w.choices).finding (verdict_of w.files w.choices).tally w n

    module _ (w : Whole) where
      abbrev fits : Bool
      fits = leb (w.files.document.opened * S.horizon) (length p)

      judged_accepted : (v : Finding) (n : Tally) → (report_judged v S.horizon n w t c p).answer ≡ Accepted → (v ≡ accepted) × (fits ≡ true)
      judged_accepted accepted tally e = (refl, fitted fits tally e)
        where
          fitted : (b : Bool) (n : Tally) → (report_accepted b S.horizon n w t c p).answer ≡ Accepted → b ≡ true
          fitted true tally e = refl
          fitted false tally e = refused_not_accepted e
      judged_accepted (violated v) tally e = violated_not_accepted e

      judged_violated : (v : Finding) (n : Tally) (y : Violation) → ((report_judged v S.horizon n w t c p).answer ≡ Violated y) ↔ (answer_of solution_file v ≡ Violated y)
      judged_violated accepted tally y = (λ e. fitted fits tally e, λ e. violated_not_accepted (sym e))
        where
          fitted : (b : Bool) (n : Tally) → (report_accepted b S.horizon n w t c p).answer ≡ Violated y → Accepted ≡ Violated y
          fitted true tally e = e
          fitted false tally e = refused_not_violated e
      judged_violated (violated v) tally y = (λ e. e, λ e. e)

      judged_stands : (v : Finding) (n : Tally) → (IsRefused (report_judged v S.horizon n w t c p).answer → ⊥)
          → ((report_judged v S.horizon n w t c p).tables ≡ written_tables w.files t) × ((report_judged v S.horizon n w t c p).choices ≡ written_choices w.choices c) × ((report_judged v S.horizon n w t c p).tally ≡ n)
      judged_stands accepted tally n = fitted fits tally n
        where
          fitted : (b : Bool) (n : Tally) → (IsRefused (report_accepted b S.horizon n w t c p).answer → ⊥)
              → ((report_accepted b S.horizon n w t c p).tables ≡ written_tables w.files t) × ((report_accepted b S.horizon n w t c p).choices ≡ written_choices w.choices c) × ((report_accepted b S.horizon n w t c p).tally ≡ n)
          fitted true tally n = (refl, refl, refl)
          fitted false tally n = absurd (n (_, refl))
      judged_stands (violated v) tally n = (refl, refl, refl)

      judged_decided : (v : Finding) (n : Tally) → fits ≡ true → IsRefused (report_judged v S.horizon n w t c p).answer → ⊥
      judged_decided accepted tally e = fitted fits tally e
        where
          fitted : (b : Bool) (n : Tally) → b ≡ true → IsRefused (report_accepted b S.horizon n w t c p).answer → ⊥
          fitted true tally e = accepted_not_refused
          fitted false tally e = absurd (true≢false (sym e))
      judged_decided (violated v) tally e = violated_not_refused _

      module _ (e : all_read S x s (rooms_of t) (length c) ≡ good w) where
        abbrev verdict : Finding
        verdict = (verdict_of w.files w.choices).finding

        says : reported S x s t c p ≡ report_judged verdict S.horizon (verdict_of w.files w.choices).tally w t c p
        unfolding reported
        says = rw e

        -- accepted exactly where the verdict is and the curves fit
        pub report_accepted_lem : ((reported S x s t c p).answer ≡ Accepted) ↔ ((verdict ≡ accepted) × (fits ≡ true))
        report_accepted_lem = (λ h. judged_accepted verdict (verdict_of w.files w.choices).tally (rw says at h), λ h. rw (says, h.0, h.1))

        pub report-laid : (reported S x s t c p).answer ≡ Accepted → reported S x s t c p ≡ report_accepted true S.horizon (verdict_of w.files w.choices).tally w t c p
        report-laid h = let k = judged_accepted verdict (verdict_of w.files w.choices).tally (rw says at h) in rw (says, k.0, k.1)

        pub report_violated : (y : Violation) → ((reported S x s t c p).answer ≡ Violated y) ↔ (answer_of solution_file verdict ≡ Violated y)
        report_violated y = rw says (judged_violated verdict (verdict_of w.files w.choices).tally y)

        pub report_decided : fits ≡ true → IsRefused (reported S x s t c p).answer → ⊥
        report_decided = rw says (judged_decided verdict (verdict_of w.files w.choices).tally)

        pub report_stands : (IsRefused (reported S x s t c p).answer → ⊥)
            → ((reported S x s t c p).tables ≡ written_tables w.files t) × ((reported S x s t c p).choices ≡ written_choices w.choices c)
            × ((reported S x s t c p).tally ≡ (verdict_of w.files w.choices).tally)
        report_stands = rw says (judged_stands verdict (verdict_of w.files w.choices).tally)

-- ---- a merge, by whatever rule it chooses

module _ (merge : List Configuration → List Configuration → List Configuration) (S : Stated) (x : Texts) (s₁ s₂ : List ℕ) (t : Tables) (c d text : List ℕ) where
  pub merge_read : (IsRefused (merged merge S x s₁ s₂ t c d text).answer → ⊥) → (b : Both) × (both_read S x s₁ s₂ (rooms_of t) (length c) (length d) ≡ good b)
  unfolding merged
  merge_read = go (both_read S x s₁ s₂ (rooms_of t) (length c) (length d)) refl
    where
      go : (m : Reading Both) → both_read S x s₁ s₂ (rooms_of t) (length c) (length d) ≡ m → (IsRefused (merge_from t c d text s₂ merge m).answer → ⊥)
          → (b : Both) × (both_read S x s₁ s₂ (rooms_of t) (length c) (length d) ≡ good b)
      go (refused r) e n = absurd (n (r, refl))
      go (good b) e n = (b, e)

  -- short of acceptance
  abbrev Short : Merged → Type 0
  Short m = (m.answer ≡ Accepted → ⊥) → (m.text ≡ filled byte_fill text) × (m.length ≡ 0)

  pub merge_short : Short (merged merge S x s₁ s₂ t c d text)
  unfolding merged
  merge_short = go (both_read S x s₁ s₂ (rooms_of t) (length c) (length d))
    where
      fitted : (fits : Bool) (written : List ℕ) (b : Both) → Short (merge_fitted t c d text fits written b)
      fitted true written b n = absurd (n refl)
      fitted false written b n = (refl, refl)

      travelled : (o : Option ℕ) (b : Both) → Short (merge_travel t c d text s₂ merge o b)
      travelled None b n =
          let written = text_of (chosen b.files.rows (merge b.first b.second)) in
          fitted (leb (length written) (length text) && leb (length written) most_text) written b n
      travelled (Some row) b n = (refl, refl)

      second : (v : Finding) (n : Tally) (b : Both) → Short (merge_second t c d text s₂ merge v n b)
      second accepted tally b n = travelled (unequal_from 0 b.first b.second) b n
      second (violated v) tally b n = (refl, refl)

      first : (v : Finding) (n : Tally) (b : Both) → Short (merge_first t c d text s₂ merge v n b)
      first accepted tally b n = second (verdict_of b.files b.second).finding (verdict_of b.files b.second).tally b n
      first (violated v) tally b n = (refl, refl)

      go : (m : Reading Both) → Short (merge_from t c d text s₂ merge m)
      go (refused r) n = (refl, refl)
      go (good b) n = first (verdict_of b.files b.first).finding (verdict_of b.files b.first).tally b n

  module _ (b : Both) where
    abbrev pub written : List ℕ
    written = text_of (chosen b.files.rows (merge b.first b.second))

    abbrev pub room : Bool
    room = leb (length written) (length text) && leb (length written) most_text

    abbrev one : Finding
    one = (verdict_of b.files b.first).finding

    abbrev two : Finding
    two = (verdict_of b.files b.second).finding

    abbrev unequal : Option ℕ
    unequal = unequal_from 0 b.first b.second

    fitted_accepted : (z : Bool) → (merge_fitted t c d text z written b).answer ≡ Accepted → z ≡ true
    fitted_accepted true e = refl
    fitted_accepted false e = refused_not_accepted e

    travelled_accepted : (o : Option ℕ) → (merge_travel t c d text s₂ merge o b).answer ≡ Accepted → (o ≡ None) × (room ≡ true)
    travelled_accepted None e = (refl, fitted_accepted room e)
    travelled_accepted (Some row) e = refused_not_accepted e

    second_accepted : (v : Finding) (n : Tally) → (merge_second t c d text s₂ merge v n b).answer ≡ Accepted → (v ≡ accepted) × (unequal ≡ None) × (room ≡ true)
    second_accepted accepted tally e = let k = travelled_accepted unequal e in (refl, k.0, k.1)
    second_accepted (violated v) tally e = violated_not_accepted e

    first_accepted : (v : Finding) (n : Tally) → (merge_first t c d text s₂ merge v n b).answer ≡ Accepted → (v ≡ accepted) × (two ≡ accepted) × (unequal ≡ None) × (room ≡ true)
    first_accepted accepted tally e = let k = second_accepted two (verdict_of b.files b.second).tally e in (refl, k.0, k.1, k.2)
    first_accepted (violated v) tally e = violated_not_accepted e

    fitted_violated : (z : Bool) (y : Violation) {A : Type 0} → (merge_fitted t c d text z written b).answer ≡ Violated y → A
    fitted_violated true y e = violated_not_accepted (sym e)
    fitted_violated false y e = refused_not_violated e

    travelled_violated : (o : Option ℕ) (y : Violation) {A : Type 0} → (merge_travel t c d text s₂ merge o b).answer ≡ Violated y → A
    travelled_violated None y e = fitted_violated room y e
    travelled_violated (Some row) y e = refused_not_violated e

    second_violated : (v : Finding) (n : Tally) (y : Violation) → ((merge_second t c d text s₂ merge v n b).answer ≡ Violated y) ↔ (answer_of second_file v ≡ Violated y)
    second_violated accepted tally y = (λ e. travelled_violated unequal y e, λ e. violated_not_accepted (sym e))
    second_violated (violated v) tally y = (λ e. e, λ e. e)

    first_violated : (v : Finding) (n : Tally) (y : Violation) → ((merge_first t c d text s₂ merge v n b).answer ≡ Violated y)
        ↔ ((answer_of solution_file v ≡ Violated y) ⊎ ((v ≡ accepted) × (answer_of second_file two ≡ Violated y)))
    first_violated accepted tally y = (λ e. inr (refl, (second_violated two (verdict_of b.files b.second).tally y).0 e), back)
      where
        back : (Accepted ≡ Violated y) ⊎ ((accepted ≡ accepted) × (answer_of second_file two ≡ Violated y)) → (merge_first t c d text s₂ merge accepted tally b).answer ≡ Violated y
        back (inl e) = violated_not_accepted (sym e)
        back (inr e) = (second_violated two (verdict_of b.files b.second).tally y).1 e.1
    first_violated (violated v) tally y = (λ e. inl e, back)
      where
        back : (answer_of solution_file (violated v) ≡ Violated y) ⊎ ((violated v ≡ accepted) × (answer_of second_file two ≡ Violated y))
            → (merge_first t c d text s₂ merge (violated v) tally b).answer ≡ Violated y
        back (inl e) = e
        back (inr e) = let q = e.0 in let o : ◌≡◌ {A = ℕ} 0 1 = cc in absurd (omega arith)

    travelled_decided : (o : Option ℕ) → o ≡ None → room ≡ true → IsRefused (merge_travel t c d text s₂ merge o b).answer → ⊥
    travelled_decided None e = fitted room
      where
        fitted : (z : Bool) → z ≡ true → IsRefused (merge_fitted t c d text z written b).answer → ⊥
        fitted true e = accepted_not_refused
        fitted false e = absurd (true≢false (sym e))
    travelled_decided (Some row) e = missing row (sym e)

    second_decided : (v : Finding) (n : Tally) → (v ≡ accepted → (unequal ≡ None) × (room ≡ true)) → IsRefused (merge_second t c d text s₂ merge v n b).answer → ⊥
    second_decided accepted tally h = travelled_decided unequal (h refl).0 (h refl).1
    second_decided (violated v) tally h = violated_not_refused _

    first_decided : (v : Finding) (n : Tally) → (v ≡ accepted → two ≡ accepted → (unequal ≡ None) × (room ≡ true)) → IsRefused (merge_first t c d text s₂ merge v n b).answer → ⊥
    first_decided accepted tally h = second_decided two (verdict_of b.files b.second).tally (h refl)
    first_decided (violated v) tally h = violated_not_refused _

    second-tally : (v : Finding) (n : Tally) (y : Violation) → (merge_second t c d text s₂ merge v n b).answer ≡ Violated y → (merge_second t c d text s₂ merge v n b).tally ≡ n
    second-tally accepted tally y e = travelled_violated unequal y e
    second-tally (violated v) tally y e = refl

    first_counted : (v : Finding) (n : Tally) (y : Violation) → (merge_first t c d text s₂ merge v n b).answer ≡ Violated y
        → ((answer_of solution_file v ≡ Violated y) × ((merge_first t c d text s₂ merge v n b).tally ≡ n))
        ⊎ ((v ≡ accepted) × (answer_of second_file two ≡ Violated y) × ((merge_first t c d text s₂ merge v n b).tally ≡ (verdict_of b.files b.second).tally))
    first_counted accepted tally y e = inr (refl, (second_violated two (verdict_of b.files b.second).tally y).0 e, second-tally two (verdict_of b.files b.second).tally y e)
    first_counted (violated v) tally y e = inl (e, refl)

    -- what a merge that is not refused leaves of the readings
    abbrev Stands : Merged → Type 0
    Stands m = (IsRefused m.answer → ⊥)
        → (m.tables ≡ written_tables b.files t) × (m.choices ≡ written_choices b.first c) × (m.second ≡ written_choices b.second d)

    first_stands : (v : Finding) (n : Tally) → Stands (merge_first t c d text s₂ merge v n b)
    first_stands = first
      where
        fitted : (z : Bool) → Stands (merge_fitted t c d text z written b)
        fitted true n = (refl, refl, refl)
        fitted false n = absurd (n (_, refl))

        travelled : (o : Option ℕ) → Stands (merge_travel t c d text s₂ merge o b)
        travelled None n = fitted room n
        travelled (Some row) n = absurd (n (_, refl))

        second : (v : Finding) (n : Tally) → Stands (merge_second t c d text s₂ merge v n b)
        second accepted tally n = travelled unequal n
        second (violated v) tally n = (refl, refl, refl)

        first : (v : Finding) (n : Tally) → Stands (merge_first t c d text s₂ merge v n b)
        first accepted tally n = second two (verdict_of b.files b.second).tally n
        first (violated v) tally n = (refl, refl, refl)

    module _ (e : both_read S x s₁ s₂ (rooms_of t) (length c) (length d) ≡ good b) where
      joins : merged merge S x s₁ s₂ t c d text ≡ merge_first t c d text s₂ merge one (verdict_of b.files b.first).tally b
      unfolding merged
      joins = rw e

      -- accepted exactly where both verdicts are, no travel times differ, and the text fits
      pub merge_accepted : ((merged merge S x s₁ s₂ t c d text).answer ≡ Accepted) ↔ ((one ≡ accepted) × (two ≡ accepted) × (unequal ≡ None) × (room ≡ true))
      merge_accepted = (λ h. first_accepted one (verdict_of b.files b.first).tally (rw joins at h), λ h. rw (joins, h.0, h.1, h.2, h.3))

      pub merge_written_lem : (merged merge S x s₁ s₂ t c d text).answer ≡ Accepted → merged merge S x s₁ s₂ t c d text ≡ merge_fitted t c d text true written b
      merge_written_lem h = let k = first_accepted one (verdict_of b.files b.first).tally (rw joins at h) in rw (joins, k.0, k.1, k.2, k.3)

      -- a violation is the first's, or where the first is accepted the second's
      pub merge_violated_lem : (y : Violation) → ((merged merge S x s₁ s₂ t c d text).answer ≡ Violated y)
          ↔ ((answer_of solution_file one ≡ Violated y) ⊎ ((one ≡ accepted) × (answer_of second_file two ≡ Violated y)))
      merge_violated_lem y = rw joins (first_violated one (verdict_of b.files b.first).tally y)

      -- with the tally of the solution that it lies in
      pub merge_counted : (y : Violation) → (merged merge S x s₁ s₂ t c d text).answer ≡ Violated y
          → ((answer_of solution_file one ≡ Violated y) × ((merged merge S x s₁ s₂ t c d text).tally ≡ (verdict_of b.files b.first).tally))
          ⊎ ((one ≡ accepted) × (answer_of second_file two ≡ Violated y) × ((merged merge S x s₁ s₂ t c d text).tally ≡ (verdict_of b.files b.second).tally))
      merge_counted y = rw joins (first_counted one (verdict_of b.files b.first).tally y)

      -- where the travel times are equal and the text fits, nothing is refused
      pub merge_decided : (one ≡ accepted → two ≡ accepted → (unequal ≡ None) × (room ≡ true)) → IsRefused (merged merge S x s₁ s₂ t c d text).answer → ⊥
      merge_decided = rw joins (first_decided one (verdict_of b.files b.first).tally)

      pub merge_stands : Stands (merged merge S x s₁ s₂ t c d text)
      merge_stands = rw joins (first_stands one (verdict_of b.files b.first).tally)
