-- Demand 2 over the definitions: the verdict is `accepted` exactly for the acceptable choices. Assumes nothing.
use Prim.Native.Nat.{ℕ, suc}
use mathlib.Core.Path.{◌≡◌, refl, sym, ◌∙◌}
use mathlib.Core.Bool.{Bool, true, false, cond}
use mathlib.Core.Logic.{◌↔◌}
use mathlib.Core.List.{List, [], ◌∷◌}
use native.Mathlib.Omega.{arith}
use lib.Dec.{T, le→leb, leb→le}
use Rattle.rules.specs.declared.sizes.Configuration.{Configuration}
use Rattle.rules.specs.declared.sizes.Constraint.{Constraint}
use Rattle.rules.specs.declared.answers.Tally.{Tally}
use Rattle.rules.specs.Tally.{no_tests, counted}
use Rattle.rules.specs.Kinds.{Inequality, not_offered}
use Rattle.rules.specs.Verdict.{All, Holds, Offered, Kept, Acceptable, inequalities}
use Rattle.rules.specs.Verdict.{Test, row_tests, inequality_tests, position_after, record_tests, tests, accepted, violated, found, verdict_from, verdict}
use Rattle.rules.proofs.Truth.{all_append, all_front}
use Rattle.rules_theorems.specs.Tests.{first_failing, Passes}
use Rattle.rules_theorems.proofs.All.{all_second}

pub not_accepted_lem : {x : Test} → violated x ≡ accepted → ⊥
not_accepted_lem e = let z : ◌≡◌ {A = ℕ} 0 1 = cc in omega arith

-- ---- the verdict is the first failing test, whatever was counted before

pub finding_from_lem : (t : Tally) (xs : List Test) → (verdict_from t xs).finding ≡ first_failing xs
finding_from_lem t [] = refl
finding_from_lem t (x ∷ xs) = go x.passes (finding_from_lem (counted x.kind 1 t) xs)
  where
    go : (b : Bool) → (verdict_from (counted x.kind 1 t) xs).finding ≡ first_failing xs
        → (cond b (verdict_from (counted x.kind 1 t) xs) (found (violated x) (counted x.kind 1 t))).finding ≡ cond b (first_failing xs) (violated x)
    go true e = e
    go false e = refl

pub passing : (xs : List Test) → (first_failing xs ≡ accepted) ↔ All Passes xs
passing [] = (λ e. tt, λ h. refl)
passing (x ∷ xs) = go (passing xs) x.passes
  where
    go : (first_failing xs ≡ accepted) ↔ All Passes xs → (b : Bool) → (cond b (first_failing xs) (violated x) ≡ accepted) ↔ (T b × All Passes xs)
    go ih true = (λ e. (tt, ih.0 e), λ h. ih.1 h.1)
    go ih false = (λ e. absurd (not_accepted_lem e), λ h. absurd h.0)

-- ---- every test passes exactly where the choices are acceptable

rows_pass : (n : ℕ) (draft : List (List Configuration)) (s : List Configuration) → Offered draft s ↔ All Passes (row_tests n draft s)
rows_pass n [] [] = (λ h. tt, λ h. tt)
rows_pass n [] (c ∷ s) = (λ h. absurd h, λ h. h.0)
rows_pass n (o ∷ os) [] = (λ h. absurd h, λ h. h.0)
rows_pass n (o ∷ os) (c ∷ s) = let r = rows_pass (suc n) os s in (λ h. (h.0, r.0 h.1), λ h. (h.0, r.1 h.1))

record_pass : (k n i : ℕ) (qs : List Inequality) → All Holds qs ↔ All Passes (inequality_tests k n i qs)
record_pass k n i [] = (λ h. tt, λ h. tt)
record_pass k n i (q ∷ qs) =
    let r = record_pass k n (suc i) qs in
    (λ h. (le→leb q.left q.right h.0, r.0 h.1), λ h. (leb→le q.left q.right h.0, r.1 h.1))

records_pass : (j n : ℕ) (s : List Configuration) (cs : List Constraint) → All (Kept s) cs ↔ All Passes (record_tests j n s cs)
records_pass j n s [] = (λ h. tt, λ h. tt)
records_pass j n s (c ∷ cs) =
    let p = position_after j n c.kind in
    let here = inequality_tests c.kind p 1 (inequalities s c) in
    let more = record_tests c.kind (suc p) s cs in
    let one = record_pass c.kind p 1 (inequalities s c) in
    let rest = records_pass c.kind (suc p) s cs in (
      λ h. all_append Passes here more (one.0 h.0) (rest.0 h.1),
      λ h. (one.1 (all_front Passes here more h), rest.1 (all_second Passes here more h)),
    )

pub tests_pass : (draft : List (List Configuration)) (cs : List Constraint) (s : List Configuration) → Acceptable draft cs s ↔ All Passes (tests draft cs s)
unfolding tests
tests_pass draft cs s =
    let rows = row_tests 0 draft s in
    let records = record_tests not_offered 0 s cs in (
      λ h. all_append Passes rows records ((rows_pass 0 draft s).0 h.offered) ((records_pass not_offered 0 s cs).0 h.kept),
      λ h. record {
        offered = (rows_pass 0 draft s).1 (all_front Passes rows records h);
        kept = (records_pass not_offered 0 s cs).1 (all_second Passes rows records h);
      },
    )

pub verdict_finding : (draft : List (List Configuration)) (cs : List Constraint) (s : List Configuration)
    → (verdict draft cs s).finding ≡ first_failing (tests draft cs s)
unfolding verdict
verdict_finding draft cs s = finding_from_lem no_tests (tests draft cs s)

-- DEMAND 2: accepted exactly when each choice is in the draft's list and every inequality of every record holds
pub verdict_accepted : (draft : List (List Configuration)) (cs : List Constraint) (s : List Configuration)
    → Acceptable draft cs s ↔ ((verdict draft cs s).finding ≡ accepted)
verdict_accepted draft cs s =
    let pass = tests_pass draft cs s in
    let first = passing (tests draft cs s) in
    let is = verdict_finding draft cs s in
    (λ h. is ∙ first.1 (pass.0 h), λ e. pass.1 (first.0 (sym is ∙ e)))
