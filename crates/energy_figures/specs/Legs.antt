-- The walk that lays the legs, from a leg on: what it asks of the curve table, and what it makes of it.
use Rattle.std.specs.Prelude.{ℕ, ◌+◌, ◌*◌, ◌≤◌, ◌≡◌, List, length, ℤ}
use Rattle.rules.specs.Limits.{most_kw}
use Rattle.tables_views.specs.View.{configuration_at}
use Rattle.rules_theorems.specs.Laying.{Within, laid_home, laid_all}
use Rattle.energy_parts.specs.Seen.{home_seen}
use Rattle.energy_figures.specs.Given.{Given, chosen, sampled, homes, Readable}

-- the curve table after i legs
pub record Laying (H from size : ℕ) (g : Given) (i : ℕ) (P : List ℤ) : Type 0 where
  pub readable : Readable H g
  pub window : from + size ≤ H
  pub rows : length P ≡ g.runs.counts.subnets * size
  pub small : Within (i * most_kw) P

-- with leg i laid, and with all
unfoldable pub laid_leg : (from size : ℕ) → Given → (i : ℕ) → List ℤ → List ℤ
laid_leg from size g i P =
    laid_home from size g.runs.counts.subnets (home_seen g.runs.counts.tracks.count g.legs g.tracks i)
    (configuration_at g.runs.choices i).departure
    (sampled g.runs (configuration_at g.runs.choices i).profile)
    P

unfoldable pub laid_legs : (from size : ℕ) → Given → List ℤ → List ℤ
laid_legs from size g P = laid_all from size (sampled g.runs) g.runs.counts.subnets (homes g) (chosen g.runs) P
