-- Raising, one after another, the leg that a failing inequality holds back reaches the earliest solution over rows of offers, or shows that there is none. Assumes nothing.
use Prim.Native.Nat.{ℕ, zero, suc, ◌+◌, ◌≤◌, ◌<◌}
use native.Mathlib.Omega.{arith}
use native.Mathlib.Nat.{le_of_suc-le-suc, not-suc-le-zero}
use mathlib.Core.Path.{◌≡◌, refl, sym, ap, subst}
use mathlib.Core.List.{List, [], ◌∷◌}
use lib.Dec.{T}
use lib.ListN.{length, get_or, set}
use Rattle.rules.specs.Lists.{◌>>=◌, each, sum_of}
use Rattle.rules.specs.Timetable.{offers}
use Rattle.rules.specs.Verdict.{choice_at, All, Offered, Kept, Acceptable}
use Rattle.rules.specs.Merge.{SameTravel}
use Rattle.rules.specs.declared.sizes.Configuration.{Configuration}
use Rattle.rules.specs.declared.sizes.Constraint.{Constraint}
use Rattle.rules.specs.Earliest.{soonest, Late, first_late, on_offer, on_late, raised}
use Rattle.earliest_theorems.specs.Statement.{NoLater, first_at, FirstListed}
use Rattle.earliest_theorems.specs.Search.{Picked, ahead, Lates, Low, Answers}
use Rattle.earliest_theorems.proofs.Soonest.{picked, after_all, after_fewer}
use Rattle.earliest_theorems.proofs.Late.{late_all}
use Rattle.std.specs.Prelude.{Option, Some, None}

ahead_all : (os : List (List Configuration)) (x : List Configuration) → ahead os x ≤ sum_of length os
ahead_all [] x = omega arith
ahead_all (o ∷ os) [] = omega arith
ahead_all (o ∷ os) (c ∷ x) = omega (arith, after_all c.departure o, ahead_all os x)

-- ---- a choice that is put in the place of another

ahead-set : (os : List (List Configuration)) (x : List Configuration) (r : ℕ) (c : Configuration) → r < length x → Offered os x → (choice_at x r).departure < c.departure
    → T (offers (get_or os r []) c) → ahead os (set x r c) < ahead os x
ahead-set [] [] r c l h k o = absurd (not-suc-le-zero l)
ahead-set [] (a ∷ x) r c l h k o = absurd h
ahead-set (p ∷ os) [] r c l h k o = absurd h
ahead-set (p ∷ os) (a ∷ x) zero c l h k o = omega (arith, after_fewer a.departure c p k o)
ahead-set (p ∷ os) (a ∷ x) (suc r) c l h k o = omega (arith, ahead-set os x r c (le_of_suc-le-suc l) h.1 k o)

offered-set : (os : List (List Configuration)) (x : List Configuration) (r : ℕ) (c : Configuration) → Offered os x → T (offers (get_or os r []) c) → Offered os (set x r c)
offered-set [] [] r c h k = tt
offered-set [] (a ∷ x) r c h k = absurd h
offered-set (o ∷ os) [] r c h k = absurd h
offered-set (o ∷ os) (a ∷ x) zero c h k = (k, h.1)
offered-set (o ∷ os) (a ∷ x) (suc r) c h k = (h.0, offered-set os x r c h.1 k)

pub offered-at : (os : List (List Configuration)) (x : List Configuration) (r : ℕ) → r < length x → Offered os x → T (offers (get_or os r []) (choice_at x r))
offered-at [] [] r l h = absurd (not-suc-le-zero l)
offered-at [] (a ∷ x) r l h = absurd h
offered-at (o ∷ os) [] r l h = absurd h
offered-at (o ∷ os) (a ∷ x) zero l h = h.0
offered-at (o ∷ os) (a ∷ x) (suc r) l h = offered-at os x r (le_of_suc-le-suc l) h.1

pub offered_long : (os : List (List Configuration)) (x : List Configuration) → Offered os x → length x ≡ length os
offered_long [] [] h = refl
offered_long [] (a ∷ x) h = absurd h
offered_long (o ∷ os) [] h = absurd h
offered_long (o ∷ os) (a ∷ x) h = ap suc (offered_long os x h.1)

no_later-set : (x s : List Configuration) (r : ℕ) (c : Configuration) → NoLater x s → c.departure ≤ (choice_at s r).departure → NoLater (set x r c) s
no_later-set [] [] r c h k = tt
no_later-set [] (b ∷ s) r c h k = absurd h
no_later-set (a ∷ x) [] r c h k = absurd h
no_later-set (a ∷ x) (b ∷ s) zero c h k = (k, h.1)
no_later-set (a ∷ x) (b ∷ s) (suc r) c h k = (h.0, no_later-set x s r c h.1 k)

firsts_set : (os : List (List Configuration)) (x : List Configuration) (r : ℕ) (c : Configuration) → FirstListed os x → first_at c.departure (get_or os r []) ≡ Some c → FirstListed os (set x r c)
firsts_set [] [] r c h k = tt
firsts_set [] (a ∷ x) r c h k = absurd h
firsts_set (o ∷ os) [] r c h k = absurd h
firsts_set (o ∷ os) (a ∷ x) zero c h k = (k, h.1)
firsts_set (o ∷ os) (a ∷ x) (suc r) c h k = (h.0, firsts_set os x r c h.1 k)

-- ---- the search, over rows whose offers agree in travel time and records that name rows

module _ (os : List (List Configuration)) (cs : List Constraint) where
  module _ (alike : (x s : List Configuration) → Offered os x → Offered os s → SameTravel x s)
      (named : All (λ c. (c.first < length os) × (c.second < length os)) cs) where
    -- P: what every accepted solution keeps; of one record, or of all
    module _ (P : List Configuration → Type 0) (K : Type 0) (keeps : (s : List Configuration) → Acceptable os cs s → P s) (x : List Configuration) (l : Late) (w : Low os cs x)
        (late : Lates x P K (Some l)) where
      -- a late row: in every accepted solution it leaves at the second that it is raised to, or later
      late_above : (s : List Configuration) → Acceptable os cs s
          → ((choice_at x l.row).departure + l.by ≤ (choice_at s l.row).departure) × T (offers (get_or os l.row []) (choice_at s l.row))
      late_above s a = (
        late.2 s (record { travels = alike x s w.offered a.offered; order = w.low s a }) (keeps s a),
        offered-at os s l.row (rw (offered_long os s a.offered) (rw (← offered_long os x w.offered) late.0)) a.offered,
      )

      -- WHAT A STEP GIVES: the row's next offer keeps it, with fewer offers ahead; where there is none, there is no solution
      pub step_none : Picked ((choice_at x l.row).departure + l.by) (get_or os l.row []) None → (s : List Configuration) → Acceptable os cs s → ⊥
      step_none p s a = let u = late_above s a in p (choice_at s l.row) u.1 u.0

      pub step_some : (c : Configuration) → Picked ((choice_at x l.row).departure + l.by) (get_or os l.row []) (Some c)
          → Low os cs (set x l.row c) × (ahead os (set x l.row c) < ahead os x)
      step_some c p = (
        record {
          offered = offered-set os x l.row c w.offered p.0;
          firsts = firsts_set os x l.row c w.firsts p.3;
          low = λ s a. let u = late_above s a in no_later-set x s l.row c (w.low s a) (p.2 (choice_at s l.row) u.1 u.0);
        },
        let b : 0 < l.by = late.1 in ahead-set os x l.row c late.0 w.offered (omega (arith, p.1)) p.0,
      )

    on_offer_lem : (more : List Configuration → Option (List Configuration)) (n : ℕ) (x : List Configuration) (l : Late) → Low os cs x → ahead os x < suc n
        → Lates x (λ s. All (Kept s) cs) (All (Kept x) cs) (Some l) → ((y : List Configuration) → Low os cs y → ahead os y < n → Answers os cs (more y))
        → (o : Option Configuration) → Picked ((choice_at x l.row).departure + l.by) (get_or os l.row []) o → Answers os cs (on_offer os cs more x l.row o)
    on_offer_lem more n x l w h late again None p = step_none (λ s. All (Kept s) cs) (All (Kept x) cs) (λ s a. a.kept) x l w late p
    on_offer_lem more n x l w h late again (Some c) p = let u = step_some (λ s. All (Kept s) cs) (All (Kept x) cs) (λ s a. a.kept) x l w late c p in let less = u.1 in again (set x l.row c) u.0 (omega arith)

    on_late_lem : (more : List Configuration → Option (List Configuration)) (n : ℕ) (x : List Configuration) → Low os cs x → ahead os x < suc n
        → ((y : List Configuration) → Low os cs y → ahead os y < n → Answers os cs (more y))
        → (l : Option Late) → Lates x (λ s. All (Kept s) cs) (All (Kept x) cs) l → Answers os cs (on_late os cs more x l)
    on_late_lem more n x w h again None late = (w, late)
    on_late_lem more n x w h again (Some l) late =
        on_offer_lem more n x l w h late again (soonest ((choice_at x l.row).departure + l.by) (get_or os l.row []))
        (picked ((choice_at x l.row).departure + l.by) (get_or os l.row []))

    search : (n : ℕ) (x : List Configuration) → Low os cs x → ahead os x < n → Answers os cs (raised os cs n x)
    unfolding raised
    search zero x w h = absurd (omega arith)
    search (suc n) x w h =
        on_late_lem (raised os cs n) n x w h (search n) (first_late x cs)
        (late_all x cs (subst (λ m. All (λ (c : Constraint). (c.first < m) × (c.second < m)) cs) (sym (offered_long os x w.offered)) named))

    -- from each row's soonest offer on
    pub search_all : (n : ℕ) → sum_of length os < n → Answers os cs (each (soonest 0) os >>= raised os cs n)
    search_all n h = go (each (soonest 0) os) (started os)
      where
        Started : List (List Configuration) → Option (List Configuration) → Type 0
        Started os None = (s : List Configuration) → Offered os s → ⊥
        Started os (Some x) = Offered os x × FirstListed os x × ((s : List Configuration) → Offered os s → NoLater x s)

        nil : (s : List Configuration) → Offered [] s → NoLater [] s
        nil [] h = tt
        nil (b ∷ s) h = absurd h

        empty : (o : List Configuration) (os : List (List Configuration)) → Picked 0 o None → (s : List Configuration) → Offered (o ∷ os) s → ⊥
        empty o os p [] k = k
        empty o os p (c ∷ s) k = p c k.0 (omega arith)

        rest : (o : List Configuration) (os : List (List Configuration)) → Started os None → (s : List Configuration) → Offered (o ∷ os) s → ⊥
        rest o os q [] k = k
        rest o os q (e ∷ s) k = q s k.1

        most : (o : List Configuration) (os : List (List Configuration)) (c : Configuration) (x : List Configuration) → Picked 0 o (Some c) → Started os (Some x)
            → (s : List Configuration) → Offered (o ∷ os) s → NoLater (c ∷ x) s
        most o os c x p q [] k = absurd k
        most o os c x p q (e ∷ s) k = (p.2 e k.0 (omega arith), q.2 s k.1)

        put : (o : List Configuration) (os : List (List Configuration)) (p : Option Configuration) → Picked 0 o p → (y : Option (List Configuration)) → Started os y
            → Started (o ∷ os) (p >>= (λ c. y >>= (λ x. Some (c ∷ x))))
        put o os None p y q = empty o os p
        put o os (Some c) p None q = rest o os q
        put o os (Some c) p (Some x) q = ((p.0, q.0), (p.3, q.1), most o os c x p q)

        started : (os : List (List Configuration)) → Started os (each (soonest 0) os)
        started [] = (tt, tt, nil)
        started (o ∷ os) = put o os (soonest 0 o) (picked 0 o) (each (soonest 0) os) (started os)

        go : (y : Option (List Configuration)) → Started os y → Answers os cs (y >>= raised os cs n)
        go None q = λ s a. q s a.offered
        go (Some x) q = search n x (record { offered = q.0; firsts = q.1; low = λ s a. q.2 s a.offered }) (omega (arith, ahead_all os x))
