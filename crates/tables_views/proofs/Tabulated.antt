-- A table of the values of a function: what it is, how it maps, and what is left of it from an entry on. Assumes nothing.
use Prim.Native.Nat.{ℕ, zero, suc, ◌≤◌, ◌<◌}
use native.Mathlib.Omega.{arith}
use native.Mathlib.Nat.{le_of_suc-le-suc, not-suc-le-zero}
use mathlib.Core.Path.{◌≡◌, refl, ap, ap₂}
use mathlib.Core.List.{List, [], ◌∷◌, map}
use lib.ListN.{length, get_or, drop}
use Rattle.rules.specs.Energy.{tabulate}

module _ {A : Type 0} where
  -- a function that gives a list's elements, by number, tabulates to that list
  pub tabulate_is : (d : A) (xs : List A) (f : ℕ → A) → ((i : ℕ) → i < length xs → f i ≡ get_or xs i d) → tabulate (length xs) f ≡ xs
  tabulate_is d [] f e = refl
  tabulate_is d (x ∷ xs) f e = ap₂ ◌∷◌ (e 0 (omega arith)) (tabulate_is d xs (λ i. f (suc i)) (λ i h. e (suc i) (omega arith)))

  pub tabulate-map : {B : Type 0} (g : A → B) (n : ℕ) (f : ℕ → A) → tabulate n (λ i. g (f i)) ≡ map g (tabulate n f)
  tabulate-map g zero f = refl
  tabulate-map g (suc n) f = ap (λ r. g (f 0) ∷ r) (tabulate-map g n (λ i. f (suc i)))

  -- from entry i on: entry i, and the rest
  pub tabulate_from : (n : ℕ) (f : ℕ → A) (i : ℕ) → i < n → drop i (tabulate n f) ≡ f i ∷ drop (suc i) (tabulate n f)
  tabulate_from zero f i h = absurd (not-suc-le-zero h)
  tabulate_from (suc n) f zero h = refl
  tabulate_from (suc n) f (suc i) h = tabulate_from n (λ j. f (suc j)) i (le_of_suc-le-suc h)

  -- past the last entry: nothing
  pub tabulate-past : (n : ℕ) (f : ℕ → A) (i : ℕ) → n ≤ i → drop i (tabulate n f) ≡ []
  tabulate-past zero f zero h = refl
  tabulate-past zero f (suc i) h = refl
  tabulate-past (suc n) f zero h = absurd (omega arith)
  tabulate-past (suc n) f (suc i) h = tabulate-past n (λ j. f (suc j)) i (le_of_suc-le-suc h)
