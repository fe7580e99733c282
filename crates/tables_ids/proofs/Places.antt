-- The first place of an id in a list, found by a walk, by parts, or because the ids rise. Assumes nothing.
use Prim.Native.Nat.{ℕ, zero, suc, ◌+◌, ◌<◌}
use mathlib.Core.Path.{◌≡◌, refl, ap, sym, ◌∙◌}
use mathlib.Core.Bool.{Bool, true, false, cond, ◌||◌}
use mathlib.Core.List.{List, [], ◌∷◌, ◌++◌}
use native.Mathlib.Omega.{arith}
use native.Mathlib.Nat.{add-zero}
use lib.Dec.{eqb}
use lib.ListN.{length, get_or}
use borrow.Author.Tests.{eq-eqb, ne_eqb}
use Rattle.rules.specs.Lists.{any, place_from, first_place}
use Rattle.std.specs.Prelude.{is_some, Option, Some, None}
use Rattle.tables_ids.specs.Column.{place_of}

-- ---- two parts

module _ (test : ℕ → Bool) where
  pub place_first : (n i : ℕ) (s t : List ℕ) → place_from n test s ≡ Some i → place_from n test (s ++ t) ≡ Some i
  place_first n i [] t e = cc
  place_first n i (x ∷ s) t e = go (test x) (place_first (suc n) i s t) e
    where
      go : (b : Bool) → (place_from (suc n) test s ≡ Some i → place_from (suc n) test (s ++ t) ≡ Some i)
          → cond b (Some n) (place_from (suc n) test s) ≡ Some i → cond b (Some n) (place_from (suc n) test (s ++ t)) ≡ Some i
      go true rest q = q
      go false rest q = rest q

  pub place_second : (n : ℕ) (s t : List ℕ) → place_from n test s ≡ None → place_from n test (s ++ t) ≡ place_from (n + length s) test t
  place_second n [] t e = rw (add-zero n)
  place_second n (x ∷ s) t e = go (test x) (place_second (suc n) s t) e
    where
      go : (b : Bool) → (place_from (suc n) test s ≡ None → place_from (suc n) test (s ++ t) ≡ place_from (suc n + length s) test t)
          → cond b (Some n) (place_from (suc n) test s) ≡ None → cond b (Some n) (place_from (suc n) test (s ++ t)) ≡ place_from (n + suc (length s)) test t
      go true rest q = cc
      go false rest q = let k : suc n + length s ≡ n + suc (length s) = omega arith in rw k at (rest q)

  -- some passes where the first that passes has a place
  pub any_place : (n : ℕ) (s : List ℕ) → any test s ≡ is_some (place_from n test s)
  any_place n [] = refl
  any_place n (x ∷ s) = go (test x) (any_place (suc n) s)
    where
      go : (b : Bool) → any test s ≡ is_some (place_from (suc n) test s) → b || any test s ≡ is_some (cond b (Some n) (place_from (suc n) test s))
      go true rest = refl
      go false rest = rest

-- ---- what a search says of an entry that has the id

module _ (id : ℕ) (ids : List ℕ) (f : Option ℕ) (e : f ≡ place_of id ids) where
  place : Option ℕ
  place = first_place (λ x. eqb x id) ids

  pub some_there : (i : ℕ) → f ≡ Some i → any (λ x. eqb x id) ids ≡ true
  unfolding place
  some_there i is = any_place (λ x. eqb x id) 0 ids ∙ ap is_some (sym (sym is ∙ e))

  pub none_there : f ≡ None → any (λ x. eqb x id) ids ≡ false
  unfolding place
  none_there is = any_place (λ x. eqb x id) 0 ids ∙ ap is_some (sym (sym is ∙ e))

-- ---- by the entries themselves

module _ (id : ℕ) where
  abbrev is : ℕ → Bool
  is x = eqb x id

  first_from_lem : (n : ℕ) (ids : List ℕ) (i : ℕ) → i < length ids → get_or ids i 0 ≡ id → ((k : ℕ) → k < i → get_or ids k 0 ≡ id → ⊥)
      → place_from n is ids ≡ Some (n + i)
  first_from_lem n [] i h e before = absurd (omega arith)
  first_from_lem n (x ∷ ids) zero h e before = rw (eq-eqb x id e, add-zero n)
  first_from_lem n (x ∷ ids) (suc i) h e before =
      let k : suc n + i ≡ n + suc i = omega arith in
      rw (ne_eqb x id (before 0 (omega arith)))
      (rw k at (first_from_lem (suc n) ids i (omega arith) e (λ j p q. before (suc j) (omega arith) q)))

  -- an entry that has the id, with none before it that has
  pub first_is : (ids : List ℕ) (i : ℕ) → i < length ids → get_or ids i 0 ≡ id → ((k : ℕ) → k < i → get_or ids k 0 ≡ id → ⊥) → place_of id ids ≡ Some i
  first_is ids i h e before = let k : 0 + i ≡ i = omega arith in (rw k at (first_from_lem 0 ids i h e before))

  none_from : (n : ℕ) (ids : List ℕ) → ((k : ℕ) → k < length ids → get_or ids k 0 ≡ id → ⊥) → place_from n is ids ≡ None
  none_from n [] off = refl
  none_from n (x ∷ ids) off =
      rw (ne_eqb x id (off 0 (omega arith))) (none_from (suc n) ids (λ k p q. off (suc k) (omega arith) q))

  -- no entry has the id
  pub none_is : (ids : List ℕ) → ((k : ℕ) → k < length ids → get_or ids k 0 ≡ id → ⊥) → place_of id ids ≡ None
  none_is ids off = (none_from 0 ids off)
