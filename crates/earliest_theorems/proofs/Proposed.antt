-- THE EARLIEST TIMETABLE: the proposal is accepted, keeps the nominal travel times, no accepted solution with those times has any leg leaving sooner, and it is
-- the only one; there is none exactly where there is no such solution. Assumes nothing.
use Prim.Native.Nat.{ℕ, suc, ◌≤◌, ◌<◌}
use native.Mathlib.Omega.{arith}
use mathlib.Core.Path.{◌≡◌, refl, sym, ap, ap₂, ◌∙◌, subst}
use mathlib.Core.Logic.{⊎_elim, ◌↔◌}
use mathlib.Core.Bool.{Bool, true, false, cond}
use mathlib.Core.List.{List, [], ◌∷◌}
use lib.Dec.{T, eqb}
use lib.ListN.{length, length-map}
use borrow.Author.Tests.{eqb-true, eqb-false}
use Rattle.rules.specs.Lists.{sum_of, only}
use Rattle.rules.specs.Timetable.{Row, same, offers, listed, choices_of}
use Rattle.rules.specs.Verdict.{All, offered, Offered, Acceptable}
use Rattle.rules.specs.Merge.{SameTravel}
use Rattle.rules.specs.Earliest.{timed_of, timed, timed_rows, earliest}
use Rattle.rules.specs.declared.sizes.Configuration.{Configuration}
use Rattle.rules.specs.declared.sizes.Constraint.{Constraint}
use Rattle.rules.proofs.Truth.{by_case}
use Rattle.rules_theorems.proofs.Tables.{same_eq}
use Rattle.earliest_theorems.specs.Statement.{NoLater, first_at, FirstListed, Solution, Earliest, Proposal}
use Rattle.earliest_theorems.specs.Search.{Answers}
use Rattle.earliest_theorems.proofs.Soonest.{or_cases, or_left, or_right}
use Rattle.earliest_theorems.proofs.Search.{search_all}
use Rattle.std.specs.Prelude.{Option, Some, None}

-- ---- an offer is one of those with a travel time exactly where it is listed and has it

pub timed_in_lem : (t : ℕ) (c : Configuration) (os : List Configuration) → T (offers (timed_of t os) c) ↔ (T (offers os c) × (t ≡ c.travel))
timed_in_lem t c [] = (λ h. absurd h, λ h. h.0)
timed_in_lem t c (o ∷ os) = go (timed_in_lem t c os) (eqb o.travel t) refl
  where
    alike : T (same c o) → o.travel ≡ c.travel
    alike s = ap (λ (x : Configuration). x.travel) (sym (same_eq c o s))

    go : T (offers (timed_of t os) c) ↔ (T (offers os c) × (t ≡ c.travel)) → (b : Bool) → eqb o.travel t ≡ b
        → T (offers (cond b (o ∷ timed_of t os) (timed_of t os)) c) ↔ (T (offers (o ∷ os) c) × (t ≡ c.travel))
    go ih true e = (
      λ h. ⊎_elim (λ s. (or_left (same c o) (offers os c) s, sym (eqb-true o.travel t e) ∙ alike s))
          (λ i. (or_right (same c o) (offers os c) (ih.0 i).0, (ih.0 i).1)) (or_cases (same c o) (offers (timed_of t os) c) h),
      λ h. ⊎_elim (λ s. or_left (same c o) (offers (timed_of t os) c) s)
          (λ i. or_right (same c o) (offers (timed_of t os) c) (ih.1 (i, h.1))) (or_cases (same c o) (offers os c) h.0),
    )
    go ih false e = (
      λ h. (or_right (same c o) (offers os c) (ih.0 h).0, (ih.0 h).1),
      λ h. ⊎_elim (λ s. absurd (eqb-false o.travel t e (alike s ∙ sym h.1))) (λ i. ih.1 (i, h.1)) (or_cases (same c o) (offers os c) h.0),
    )

pub timed-offered : (rows : List Row) (s : List Configuration) → Offered (timed_rows rows) s ↔ (Offered (offered rows) s × SameTravel (choices_of rows) s)
timed-offered [] [] = (λ k. (tt, tt), λ k. tt)
timed-offered [] (c ∷ s) = (λ k. absurd k, λ k. k.0)
timed-offered (r ∷ rows) [] = (λ k. absurd k, λ k. k.0)
timed-offered (r ∷ rows) (c ∷ s) =
    let ih = timed-offered rows s in
    let one = timed_in_lem r.nominal.travel c r.list in (
      λ k. (((one.0 k.0).0, (ih.0 k.1).0), ((one.0 k.0).1, (ih.0 k.1).1)),
      λ k. (one.1 (k.0.0, k.1.0), ih.1 (k.0.1, k.1.1)),
    )

pub same_travel_back : (n s r : List Configuration) → SameTravel n s → SameTravel n r → SameTravel s r
same_travel_back [] [] [] h k = tt
same_travel_back [] [] (b ∷ r) h k = absurd k
same_travel_back [] (a ∷ s) r h k = absurd h
same_travel_back (m ∷ n) [] r h k = absurd h
same_travel_back (m ∷ n) (a ∷ s) [] h k = absurd k
same_travel_back (m ∷ n) (a ∷ s) (b ∷ r) h k = (sym h.0 ∙ k.0, same_travel_back n s r h.1 k.1)

only-length : {A : Type 0} (p : A → Bool) (l : List A) → length (only p l) ≤ length l
only-length p [] = omega arith
only-length p (x ∷ l) = by_case (λ o. length o ≤ suc (length l)) (p x) (x ∷ only p l) (only p l) (λ e. omega (arith, only-length p l)) (λ e. omega (arith, only-length p l))

timed_many : (rows : List Row) → sum_of length (timed_rows rows) ≤ listed rows
timed_many [] = omega arith
timed_many (r ∷ rows) = omega (arith, only-length (λ o. eqb o.travel r.nominal.travel) r.list, timed_many rows)

one_listed : (os : List (List Configuration)) (x y : List Configuration) → FirstListed os x → FirstListed os y → NoLater x y → NoLater y x → x ≡ y
one_listed [] [] [] p q h k = refl
one_listed [] [] (b ∷ y) p q h k = absurd h
one_listed [] (a ∷ x) y p q h k = absurd p
one_listed (o ∷ os) [] y p q h k = absurd p
one_listed (o ∷ os) (a ∷ x) [] p q h k = absurd h
one_listed (o ∷ os) (a ∷ x) (b ∷ y) p q h k =
    let e : a.departure ≡ b.departure = omega arith in
    let f = sym p.0 ∙ ap (λ n. first_at n o) e ∙ q.0 in
    let g : a ≡ b = cc in
    ap₂ ◌∷◌ g (one_listed os x y p.1 q.1 h.1 k.1)

module _ (rows : List Row) (cs : List Constraint) (named : All (λ c. (c.first < length rows) × (c.second < length rows)) cs) where
  pub to_timed : (s : List Configuration) → Solution rows cs s → Acceptable (timed_rows rows) cs s
  to_timed s h = record { offered = (timed-offered rows s).1 (h.accepted.offered, h.travels); kept = h.accepted.kept }

  -- THE STATEMENT
  pub proposal : Proposal rows cs (earliest rows cs)
  unfolding earliest
  proposal =
      go (earliest rows cs) (search_all (timed_rows rows) cs
      (λ x s p q. same_travel_back (choices_of rows) x s ((timed-offered rows x).0 p).1 ((timed-offered rows s).0 q).1)
      (subst (λ m. All (λ (c : Constraint). (c.first < m) × (c.second < m)) cs) (sym (length-map rows timed)) named)
      (suc (listed rows)) (omega (arith, timed_many rows)))
    where
      go : (o : Option (List Configuration)) → Answers (timed_rows rows) cs o → Proposal rows cs o
      go None h = λ s k. h s (to_timed s k)
      go (Some x) h =
          let o = (timed-offered rows x).0 h.0.offered in
          record {
            solution = record { accepted = record { offered = o.0; kept = h.1 }; travels = o.1 };
            least = λ s k. h.0.low s (to_timed s k);
            listed = h.0.firsts;
          }

  -- there is one at most
  pub earliest_one : (x y : List Configuration) → Earliest rows cs x → Earliest rows cs y → x ≡ y
  earliest_one x y h k = one_listed (timed_rows rows) x y h.listed k.listed (h.least y k.solution) (k.least x h.solution)

  -- 19: "exactly when no accepted solution with those travel times exists"
  pub none_exactly : (earliest rows cs ≡ None) ↔ ((s : List Configuration) → Solution rows cs s → ⊥)
  none_exactly = go (earliest rows cs) proposal
    where
      go : (o : Option (List Configuration)) → Proposal rows cs o → (o ≡ None) ↔ ((s : List Configuration) → Solution rows cs s → ⊥)
      go None h = (λ e. h, λ k. refl)
      go (Some x) h = (λ e. let z : ◌≡◌ {A = ℕ} 0 1 = cc in absurd (omega arith), λ k. absurd (k x h.solution))
