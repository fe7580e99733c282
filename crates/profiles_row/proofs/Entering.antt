-- The entry of a profile: its numbers are stored one by one. Assumes nothing.
use Prim.Native.Nat.{ℕ, suc, ◌+◌}
use mathlib.Core.Path.{◌≡◌}
use mathlib.Core.List.{List, [], ◌∷◌}
use native.Mathlib.Omega.{arith}
use lib.ListN.{set}
use lib.Seq.{sets}

-- three stores are a run of stores
pub three_stores : (t : List ℕ) (at a b c : ℕ) → set (set (set t (at + 0) a) (at + 1) b) (at + 2) c ≡ sets t at (a ∷ b ∷ c ∷ [])
three_stores t at a b c =
    let p : at + 0 ≡ at = omega arith in
    let q : at + 1 ≡ suc at = omega arith in
    let r : at + 2 ≡ suc (suc at) = omega arith in
    rw (p, q, r)
