-- The quarter sums, and what one run of powers adds to them: a leg's samples from its departure on, or a subnet's powers from second 0 on.
use Rattle.std.specs.Prelude.{ℕ, ◌+◌, ◌*◌, ◌-◌, ◌/◌, ◌≤◌, ◌^◌, cond, List, leb, ltb, length, get_or, ℤ, pos, ◌+ℤ◌}
use Rattle.rules.specs.Limits.{quarter_seconds, most_quarters, most_horizon}
use Rattle.rules.specs.Energy.{sum_to, max_to, max_at, above, tabulate}
use Rattle.rules.specs.declared.figures.Peak.{Peak}
use Rattle.rules_theorems.specs.Sized.{most_power}
use Rattle.rules_theorems.specs.Laying.{Within}

-- how many quarters begin before a second
abbrev pub quarters_before : (second : ℕ) → ℕ
quarters_before second = (second + (quarter_seconds - 1)) / quarter_seconds

-- what a run of powers from second `start` on takes at second t
abbrev pub run_at : (start : ℕ) → List ℤ → (t : ℕ) → ℤ
run_at start run t = cond (leb start t) (get_or run (t - start) (pos 0)) (pos 0)

abbrev pub drawn_by : (start : ℕ) → List ℤ → (t : ℕ) → ℕ
drawn_by start run t = above (run_at start run t)

-- in all seconds of quarter k
unfoldable pub quarter_taken : (start : ℕ) → List ℤ → (k : ℕ) → ℕ
quarter_taken start run k = sum_to (λ j. drawn_by start run (quarter_seconds * k + j)) quarter_seconds

-- the sums with the run's added
unfoldable pub with_run : (start : ℕ) → List ℤ → (sums : List ℤ) → List ℤ
with_run start run sums = tabulate most_quarters (λ k. get_or sums k (pos 0) +ℤ pos (quarter_taken start run k))

-- the greatest of f 0 .. f (n - 1), and where it first stands
abbrev pub peak_to : (ℕ → ℕ) → (n : ℕ) → Peak
peak_to f n = record { kj = max_to f n; quarter = max_at f n }

-- a peak, and the sum of a later quarter
abbrev pub higher_of : Peak → (kj quarter : ℕ) → Peak
higher_of p kj k = cond (ltb p.kj kj) (record { kj = kj; quarter = k }) p

-- the greatest of the sums and its first quarter, both 0 if none is above 0
unfoldable pub greatest_sum : (sums : List ℤ) → Peak
greatest_sum sums = peak_to (λ k. above (get_or sums k (pos 0))) most_quarters

-- what adding asks: the run lies within the greatest horizon, and no number leaves 64 bits
pub record RunRoom (start : ℕ) (run sums : List ℤ) : Type 0 where
  pub ends : start + length run ≤ most_horizon
  pub powers : Within most_power run
  pub sums_small : Within (2 ^ 62) sums
