-- A peak is the greatest of the quarter sums, and its quarter the first that has it. Assumes nothing.
use Prim.Native.Nat.{ℕ, zero, suc, ◌-◌, ◌≤◌, ◌<◌}
use mathlib.Core.Path.{◌≡◌, refl}
use mathlib.Core.Bool.{Bool, true, false, cond}
use native.Mathlib.Omega.{arith}
use lib.Dec.{ltb, eqb}
use borrow.Author.Tests.{ltb-true, ltb-false, eqb-true, eqb-false}
use Rattle.rules.specs.Limits.{most_quarters}
use Rattle.rules.specs.Energy.{max_to, max_at, quarter, peak_of}

module _ (f : ℕ → ℕ) where
  -- none is greater
  none_greater : (n i : ℕ) → i < n → f i ≤ max_to f n
  none_greater zero i h = absurd (omega arith)
  none_greater (suc n) i h = go (eqb i n) refl (none_greater n i)
    where
      go : (b : Bool) → eqb i n ≡ b → (i < n → f i ≤ max_to f n) → f i ≤ max_to f (suc n)
      go true e ih = let same : i ≡ n = eqb-true i n e in rw same (omega arith)
      go false e ih = let below : f i ≤ max_to f n = ih (omega (arith, eqb-false i n e)) in omega arith

  -- it is one of them
  there : (n : ℕ) → f (max_at f (suc n)) ≡ max_to f (suc n)
  there zero = go (ltb 0 (f 0))
    where
      go : (b : Bool) → f (cond b 0 0) ≡ max_to f 1
      go true = omega arith
      go false = omega arith
  there (suc n) = go (ltb (max_to f (suc n)) (f (suc n))) refl (there n)
    where
      go : (b : Bool) → ltb (max_to f (suc n)) (f (suc n)) ≡ b → f (max_at f (suc n)) ≡ max_to f (suc n)
          → f (cond b (suc n) (max_at f (suc n))) ≡ max_to f (suc (suc n))
      go true e ih = let less : max_to f (suc n) < f (suc n) = ltb-true _ _ e in omega arith
      go false e ih = let most : f (suc n) ≤ max_to f (suc n) = ltb-false _ _ e in omega arith

  -- all before it are smaller
  first_there : (n i : ℕ) → i < max_at f n → f i < max_to f n
  first_there zero i h = absurd (omega arith)
  first_there (suc n) i h = go (ltb (max_to f n) (f n)) refl h (first_there n i)
    where
      go : (b : Bool) → ltb (max_to f n) (f n) ≡ b → i < cond b n (max_at f n) → (i < max_at f n → f i < max_to f n) → f i < max_to f (suc n)
      go true e before ih =
          let less : max_to f n < f n = ltb-true _ _ e in
          let below : f i ≤ max_to f n = none_greater n i before in
          omega arith
      go false e before ih = let below : f i < max_to f n = ih before in omega arith

module _ (f : ℕ → ℕ) (H : ℕ) where
  pub peak-greatest : (k : ℕ) → k < most_quarters → quarter f H k ≤ (peak_of f H).kj
  peak-greatest k h = none_greater (quarter f H) most_quarters k h

  pub peak_there : quarter f H (peak_of f H).quarter ≡ (peak_of f H).kj
  peak_there = there (quarter f H) (most_quarters - 1)

  pub peak-first : (k : ℕ) → k < (peak_of f H).quarter → quarter f H k < (peak_of f H).kj
  peak-first k h = first_there (quarter f H) most_quarters k h
