-- Counts of each kind in a table. Assumes nothing.
use Prim.Native.Nat.{ℕ, zero, suc, ◌+◌, ◌≤◌}
use mathlib.Core.List.{List, [], ◌∷◌}
use native.Mathlib.Omega.{arith}
use lib.ListN.{get_or, set}

-- one more than what stands there: no entry grows by more than one
pub counted_low : (l : List ℕ) (i k : ℕ) → get_or (set l i (get_or l i 0 + 1)) k 0 ≤ get_or l k 0 + 1
counted_low [] i k = omega arith
counted_low (x ∷ l) zero zero = omega arith
counted_low (x ∷ l) zero (suc k) = omega arith
counted_low (x ∷ l) (suc i) zero = omega arith
counted_low (x ∷ l) (suc i) (suc k) = counted_low l i k
