-- The two walks joined: a violation of the rows stays, else the records decide, after the tests of the rows. Assumes nothing.
use Prim.Native.Nat.{ℕ}
use native.Mathlib.Omega.{arith}
use mathlib.Core.Path.{◌≡◌, refl, sym, ap, ◌∙◌}
use mathlib.Core.Bool.{Bool, true, false, cond}
use mathlib.Core.List.{List, [], ◌∷◌, ◌++◌}
use Rattle.rules.specs.Limits.{most_legs}
use Rattle.rules.specs.Energy.{tabulate}
use Rattle.rules.specs.Kinds.{not_offered}
use Rattle.rules.specs.Tally.{no_tests, counted}
use Rattle.rules.specs.Verdict.{Test, row_tests, record_tests, tests, Finding, accepted, violated, Verdict, found, verdict_from, verdict, answer_of, ruling}
use Rattle.rules.specs.declared.sizes.Configuration.{Configuration}
use Rattle.rules.specs.declared.sizes.Constraint.{Constraint}
use Rattle.rules.specs.declared.answers.Tally.{Tally}
use Rattle.rules.specs.declared.answers.Ruling.{Ruling}
use Rattle.rules.specs.declared.answers.Answer.TheVariants.{Accepted, Violated, Refused}
use Rattle.rules.specs.declared.answers.Violation.{Violation}
use Rattle.rules.specs.declared.answers.Refusal.{Refusal}
use Rattle.verdict.specs.Within.{Within, Fair}
use Rattle.verdict.proofs.Fits.{within_rows}
use Rattle.verdict.proofs.Tallies.{fair_le}

-- ---- on after a finding, with the tests of a tally behind it

abbrev after : Finding → Tally → List Test → Verdict
after accepted t ys = verdict_from t ys
after (violated x) t ys = found (violated x) t

append-verdict : (t : Tally) (xs ys : List Test) → verdict_from t (xs ++ ys) ≡ after (verdict_from t xs).finding (verdict_from t xs).tally ys
append-verdict t [] ys = refl
append-verdict t (x ∷ xs) ys = go x.passes (append-verdict (counted x.kind 1 t) xs ys)
  where
    go : (b : Bool) → verdict_from (counted x.kind 1 t) (xs ++ ys) ≡ after (verdict_from (counted x.kind 1 t) xs).finding (verdict_from (counted x.kind 1 t) xs).tally ys
        → cond b (verdict_from (counted x.kind 1 t) (xs ++ ys)) (found (violated x) (counted x.kind 1 t))
        ≡ after (cond b (verdict_from (counted x.kind 1 t) xs) (found (violated x) (counted x.kind 1 t))).finding
        (cond b (verdict_from (counted x.kind 1 t) xs) (found (violated x) (counted x.kind 1 t))).tally ys
    go true e = e
    go false e = refl

-- an accepted answer is an accepted finding
accepted_finding : (file : ℕ) (f : Finding) → answer_of file f ≡ Accepted → f ≡ accepted
accepted_finding file accepted e = refl
accepted_finding file (violated x) e = let z : ◌≡◌ {A = ℕ} 0 1 = cc in absurd (omega arith)

-- rows is what the first walk answered
module _ (draft : List (List Configuration)) (cs : List Constraint) (s : List Configuration) (file : ℕ)
    (rows : Ruling) (er : rows ≡ ruling file (verdict_from no_tests (row_tests 0 draft s))) where
  abbrev v : Verdict
  v = verdict_from no_tests (row_tests 0 draft s)

  joined : verdict draft cs s ≡ after v.finding v.tally (record_tests not_offered 0 s cs)
  unfolding verdict tests
  joined = append-verdict no_tests (row_tests 0 draft s) (record_tests not_offered 0 s cs)

  pub records_decide : rows.answer ≡ Accepted → (r : Ruling) → r ≡ ruling file (verdict_from rows.tally (record_tests not_offered 0 s cs))
      → r ≡ ruling file (verdict draft cs s)
  records_decide e r h =
      let fine : v.finding ≡ accepted = accepted_finding file v.finding (sym (ap (λ (x : Ruling). x.answer) er) ∙ e) in
      h
      ∙ ap (λ (t : Tally). ruling file (verdict_from t (record_tests not_offered 0 s cs))) (ap (λ (x : Ruling). x.tally) er)
      ∙ sym (ap (ruling file) (joined ∙ ap (λ f. after f v.tally (record_tests not_offered 0 s cs)) fine))

  stays : (rows.answer ≡ Accepted → ⊥) → rows ≡ ruling file (verdict draft cs s)
  stays other = er ∙ sym (ap (ruling file) (joined ∙ go v.finding refl))
    where
      go : (f : Finding) → v.finding ≡ f → after v.finding v.tally (record_tests not_offered 0 s cs) ≡ v
      go accepted e = absurd (other (ap (λ (x : Ruling). x.answer) er ∙ ap (answer_of file) e))
      go (violated x) e = ap (λ f. after f v.tally (record_tests not_offered 0 s cs)) e ∙ ap (λ f. found f v.tally) (sym e)

  pub rows_decide : (x : Violation) → rows.answer ≡ Violated x → rows ≡ ruling file (verdict draft cs s)
  rows_decide x e = stays (λ f. let z : ◌≡◌ {A = ℕ} 0 1 = cc in omega arith)

  pub no_refusal : (x : Refusal) → rows.answer ≡ Refused x → rows ≡ ruling file (verdict draft cs s)
  no_refusal x e = stays (λ f. let z : ◌≡◌ {A = ℕ} 0 1 = cc in omega arith)

-- what the walk over the records asks for
pub records-asked : (cs : List Constraint) (n : ℕ) (at : ℕ → Configuration) (t : Tally) → Within cs (tabulate n at) → Fair n t
    → Within cs (tabulate n at) × Fair most_legs t
records-asked cs n at t w f = (w, fair_le n most_legs t f (within_rows cs n at w))
