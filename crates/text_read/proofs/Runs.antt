-- The longest beginning of which every element passes a test: how a loop goes over it from a place on, and how it ends.
-- Assumes nothing.
use Prim.Native.Nat.{ℕ, suc, ◌+◌, ◌≤◌, ◌<◌}
use mathlib.Core.Path.{◌≡◌, refl}
use mathlib.Core.List.{List, [], ◌∷◌}
use mathlib.Core.Bool.{Bool, true, false, cond, ◌&&◌}
use native.Mathlib.Omega.{arith}
use native.Mathlib.Numerals.{add-one}
use lib.ListN.{length, get_or, drop, drop_of_length-le}
use lib.Seq.{drop-cons}
use Rattle.rules.specs.Lists.{lead, every}

module _ {A : Type 0} (p : A → Bool) where
  -- ---- the beginning of what is left from a place on

  pub lead-more : (s : List A) (i : ℕ) (d : A) → i < length s → p (get_or s i d) ≡ true → lead p (drop i s) ≡ get_or s i d ∷ lead p (drop (i + 1) s)
  lead-more s i d h t = rw (drop-cons s i d h, t, add-one i)

  pub lead_stop : (s : List A) (i : ℕ) (d : A) → i < length s → p (get_or s i d) ≡ false → lead p (drop i s) ≡ []
  lead_stop s i d h t = rw (drop-cons s i d h, t)

  pub lead-end : (s : List A) (i : ℕ) → length s ≤ i → lead p (drop i s) ≡ []
  lead-end s i h = rw (drop_of_length-le s h)

  -- ---- the beginning of a whole list: some of it, or all

  pub lead_le : (s : List A) → length (lead p s) ≤ length s
  lead_le [] = omega arith
  lead_le (x ∷ s) = go (p x) (lead_le s)
    where
      go : (t : Bool) → length (lead p s) ≤ length s → length (cond t (x ∷ lead p s) []) ≤ suc (length s)
      go true h = omega arith
      go false h = omega arith

  pub lead_all : (s : List A) → length s ≤ length (lead p s) → lead p s ≡ s
  lead_all [] h = refl
  lead_all (x ∷ s) h = go (p x) h (lead_all s)
    where
      go : (t : Bool) → suc (length s) ≤ length (cond t (x ∷ lead p s) []) → (length s ≤ length (lead p s) → lead p s ≡ s) → cond t (x ∷ lead p s) [] ≡ x ∷ s
      go true k ih = rw (ih (omega arith))
      go false k ih = absurd (omega arith)

  pub lead-every : (s : List A) → length s ≤ length (lead p s) → every p s ≡ true
  lead-every [] h = refl
  lead-every (x ∷ s) h = go (p x) h (lead-every s)
    where
      go : (t : Bool) → suc (length s) ≤ length (cond t (x ∷ lead p s) []) → (length s ≤ length (lead p s) → every p s ≡ true) → t && every p s ≡ true
      go true k ih = ih (omega arith)
      go false k ih = absurd (omega arith)

  pub lead-not-every : (s : List A) → length (lead p s) < length s → every p s ≡ false
  lead-not-every [] h = absurd (omega arith)
  lead-not-every (x ∷ s) h = go (p x) h (lead-not-every s)
    where
      go : (t : Bool) → length (cond t (x ∷ lead p s) []) < suc (length s) → (length (lead p s) < length s → every p s ≡ false) → t && every p s ≡ false
      go true k ih = ih (omega arith)
      go false k ih = refl
