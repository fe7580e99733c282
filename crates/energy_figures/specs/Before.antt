-- Before recuperation, leg by leg: the sums of the first i legs.
use Rattle.std.specs.Prelude.{ℕ, ◌≡◌}
use Rattle.rules.specs.Lists.{sum_of}
use Rattle.rules.specs.Energy.{sum_to, above, leg_at, quarter_sums}
use Rattle.rules.specs.declared.sizes.Configuration.{Configuration}
use Rattle.tables_views.specs.View.{configuration_at}
use Rattle.energy_figures.specs.Given.{Runs, sampled, ReadableRuns}
use Rattle.energy_figures.specs.declared.before.Before.{Before}

module _ (r : Runs) where
  abbrev pub choice_at : ℕ → Configuration
  choice_at i = configuration_at r.choices i

  -- the positive samples of leg j, in all, and at second t
  abbrev pub before_of : (j : ℕ) → ℕ
  before_of j = sum_of above (sampled r (choice_at j).profile)

  abbrev pub before_then : (t j : ℕ) → ℕ
  before_then t j = above (leg_at (sampled r) (choice_at j) t)

unfoldable pub before_sums : (H : ℕ) → Runs → (i : ℕ) → Before
before_sums H r i = record { whole = sum_to (before_of r) i; quarters = quarter_sums (λ t. sum_to (before_then r t) i) H }

-- on the way
pub record Summing (H : ℕ) (r : Runs) (i : ℕ) (sum : Before) : Type 0 where
  pub readable : ReadableRuns H r
  pub is : sum ≡ before_sums H r i
