-- What adding samples into the curve table asks: their places are there, and no number leaves 32 bits on the way.
use Rattle.std.specs.Prelude.{ℕ, suc, ◌+◌, ◌*◌, ◌-◌, ◌≤◌, ◌^◌, List, [], ◌∷◌, length, ℤ, nat_abs}
use Rattle.rules.specs.Limits.{most_kw, most_horizon}
use Rattle.rules.specs.Verdict.{All}
use Rattle.rules_theorems.specs.Laying.{add_at, Within}

-- a list added number by number, from a place on
abbrev pub added_from : ℕ → List ℤ → List ℤ → List ℤ
added_from i [] P = P
added_from i (x ∷ xs) P = added_from (suc i) xs (add_at P i x)

-- the greatest number to which one more sample can be added
abbrev pub most_before : ℕ
most_before = 2 ^ 31 - 1 - most_kw

pub record AddRoom (P xs : List ℤ) : Type 0 where
  pub low : Within most_before P
  pub moderate : All (λ x. nat_abs x ≤ most_kw) xs

-- a run into a window of subnet u
pub record WindowRoom (from size u : ℕ) (P xs : List ℤ) : Type 0 where
  pub early : from + size ≤ most_horizon
  pub row : u * size + size ≤ length P
  pub add : AddRoom P xs

-- a run into a window of n subnets
pub record HomeRoom (from size n : ℕ) (P xs : List ℤ) : Type 0 where
  pub early : from + size ≤ most_horizon
  pub rows : n * size ≤ length P
  pub add : AddRoom P xs
