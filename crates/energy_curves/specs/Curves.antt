-- The curve table over a whole horizon, as the sums over it take it: subnet by subnet, H numbers each.
use Rattle.std.specs.Prelude.{ℕ, ◌+◌, ◌*◌, ◌-◌, ◌≤◌, ◌≡◌, List, length, get_or, ℤ, pos, ◌-ℤ◌}
use Rattle.rules.specs.Limits.{least_horizon, most_horizon, most_subnets}
use Rattle.rules.specs.Energy.{sum_to, sum_to_z, above, greatest, least, quarter_sums}
use Rattle.rules_theorems.specs.Sized.{most_power}
use Rattle.rules_theorems.specs.Laying.{Within}

-- what is asked of it
pub record CurveTable (H n : ℕ) (P : List ℤ) : Type 0 where
  pub begins : least_horizon ≤ H
  pub ends : H ≤ most_horizon
  pub subnets : n ≤ most_subnets
  pub rows : length P ≡ n * H
  pub small : Within most_power P

module _ (H : ℕ) (P : List ℤ) where
  -- the power of subnet s at second t
  abbrev pub power_in : (s t : ℕ) → ℤ
  power_in s t = get_or P (s * H + t) (pos 0)

  -- of n subnets: what they draw at second t, each cut at zero, and their sum
  abbrev pub drawn_in : (n t : ℕ) → ℕ
  drawn_in n t = sum_to (λ s. above (power_in s t)) n

  abbrev pub total_in : (n t : ℕ) → ℤ
  total_in n t = sum_to_z (λ s. power_in s t) n

  unfoldable pub quarters_in : (n : ℕ) → List ℤ
  quarters_in n = quarter_sums (drawn_in n) H

  unfoldable pub fluctuation_in : (n : ℕ) → ℤ
  fluctuation_in n = greatest (total_in n) (H - 1) -ℤ least (total_in n) (H - 1)
