-- A sum over a list, number by number: by places, over a part, over a table's rows. Assumes nothing.
use Prim.Native.Nat.{ℕ, zero, suc, ◌+◌, ◌*◌}
use native.Mathlib.Omega.{arith}
use native.Mathlib.Nat.{suc-mul}
use mathlib.Core.Path.{◌≡◌, refl, sym, ap, ◌∙◌}
use mathlib.Core.List.{List, [], ◌∷◌}
use lib.ListN.{length, get_or}
use Rattle.rules.specs.Energy.{sum_to, tabulate}
use Rattle.rules.specs.Lists.{sum_of}
use Rattle.rules_theorems.proofs.Sums.{sum_split}

-- the first term, and the rest
pub sum_front : (f : ℕ → ℕ) (n : ℕ) → sum_to f (suc n) ≡ f 0 + sum_to (λ i. f (suc i)) n
sum_front f zero = omega arith
sum_front f (suc n) = omega (arith, sum_front f n)

-- by places
pub sum_places : {A : Type 0} (f : A → ℕ) (d : A) (xs : List A) → sum_of f xs ≡ sum_to (λ i. f (get_or xs i d)) (length xs)
sum_places f d [] = refl
sum_places f d (x ∷ xs) = ap (λ n. f x + n) (sum_places f d xs) ∙ sym (sum_front (λ i. f (get_or (x ∷ xs) i d)) (length xs))

-- of a table of a function's values
pub sum_tabulated : {A : Type 0} (f : A → ℕ) (n : ℕ) (g : ℕ → A) → sum_of f (tabulate n g) ≡ sum_to (λ i. f (g i)) n
sum_tabulated f zero g = refl
sum_tabulated f (suc n) g = ap (λ m. f (g 0) + m) (sum_tabulated f n (λ i. g (suc i))) ∙ sym (sum_front (λ i. f (g i)) n)

-- of n rows of one size
pub sum_rows : (f : ℕ → ℕ) (size n : ℕ) → sum_to f (n * size) ≡ sum_to (λ s. sum_to (λ j. f (s * size + j)) size) n
sum_rows f size zero = rw (zero_is size)
  where
    zero_is : (size : ℕ) → 0 * size ≡ 0
    zero_is size = omega arith
sum_rows f size (suc n) =
    ap (sum_to f) (more n size) ∙ sum_split f (n * size) size ∙ ap (λ m. m + sum_to (λ j. f (n * size + j)) size) (sum_rows f size n)
  where
    more : (n size : ℕ) → suc n * size ≡ n * size + size
    more n size = suc-mul n size
