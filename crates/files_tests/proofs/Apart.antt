-- Elements of which no two have the same number, by their places. Assumes nothing.
use Prim.Native.Nat.{ℕ, zero, suc, ◌<◌}
use mathlib.Core.Path.{◌≡◌}
use mathlib.Core.List.{List, [], ◌∷◌, map}
use native.Mathlib.Omega.{arith}
use lib.ListN.{length, get_or}
use Rattle.rules.specs.Verdict.{All}
use Rattle.rules_theorems.specs.Lists.{Distinct}

module _ {A : Type 0} (key : A → ℕ) where
  none-later : (n : ℕ) (xs : List A) → All (λ y. n ≡ key y → ⊥) xs → (k : ℕ) → k < length xs → n ≡ get_or (map key xs) k 0 → ⊥
  none-later n [] h k l e = omega arith
  none-later n (x ∷ xs) h zero l e = h.0 e
  none-later n (x ∷ xs) h (suc k) l e = none-later n xs h.1 k (omega arith) e

  pub distinct_apart : (xs : List A) → Distinct key xs → (i k : ℕ) → i < k → k < length xs → get_or (map key xs) i 0 ≡ get_or (map key xs) k 0 → ⊥
  distinct_apart [] h i k l m e = omega arith
  distinct_apart (x ∷ xs) h i zero l m e = omega arith
  distinct_apart (x ∷ xs) h zero (suc k) l m e = none-later (key x) xs h.0 k (omega arith) e
  distinct_apart (x ∷ xs) h (suc i) (suc k) l m e = distinct_apart xs h.1 i k (omega arith) (omega arith) e
