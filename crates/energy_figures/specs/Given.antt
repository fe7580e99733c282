-- The tables that the energies are worked out of, as a reading left them, and what they say.
use Rattle.std.specs.Prelude.{ℕ, ◌+◌, ◌≤◌, List, length, ℤ, Option}
use Rattle.rules.specs.Limits.{least_horizon, most_horizon, most_subnets, profile_width, track_width}
use Rattle.rules.specs.Energy.{curves_in}
use Rattle.rules.specs.Verdict.{All}
use Rattle.rules.specs.declared.sizes.Configuration.{Configuration}
use Rattle.tables_views.specs.View.{configurations_in, profiles_in}
use Rattle.tables_ids.specs.Column.{Rising}
use Rattle.rules_theorems.specs.Sized.{Sized, Fits}
use Rattle.energy_parts.specs.Seen.{samples_seen, homes_seen}
use Rattle.energy_parts.specs.declared.runs.Counts.{Counts}

-- the runs: how many legs and profiles, the choices, and the profiles with their samples
pub record Runs : Type 0 where
  pub counts : Counts
  pub choices : List ℕ
  pub profiles : List ℕ
  pub samples : List ℤ

abbrev pub runs : Counts → (choices profiles : List ℕ) → (samples : List ℤ) → Runs
runs k choices profiles samples = record { counts = k; choices = choices; profiles = profiles; samples = samples }

-- and where they run
pub record Given : Type 0 where
  pub runs : Runs
  pub legs : List ℕ
  pub tracks : List ℕ

abbrev pub given : Counts → (choices legs profiles : List ℕ) → (samples : List ℤ) → (tracks : List ℕ) → Given
given k choices legs profiles samples tracks = record { runs = runs k choices profiles samples; legs = legs; tracks = tracks }

-- the choices, a profile's samples by its id, and each row's subnet
abbrev pub chosen : Runs → List Configuration
chosen r = configurations_in r.counts.legs r.choices

abbrev pub sampled : Runs → ℕ → List ℤ
sampled r = samples_seen r.counts.profiles.count r.profiles r.samples

abbrev pub homes : Given → List (Option ℕ)
homes g = homes_seen g.runs.counts.legs g.runs.counts.tracks.count g.legs g.tracks

-- the curve table over a window of seconds
unfoldable pub curves_seen : (from size : ℕ) → Given → List ℤ
curves_seen from size g = curves_in (sampled g.runs) from size g.runs.counts.subnets (homes g) (chosen g.runs)

-- WHAT IS ASKED of the tables, within a horizon: what a good reading and an accepted solution give
pub record ReadableRuns (H : ℕ) (r : Runs) : Type 0 where
  pub begins : least_horizon ≤ H
  pub ends : H ≤ most_horizon
  pub rising : Rising profile_width r.counts.profiles.count r.counts.profiles.rising r.profiles
  pub parts : All (λ p. p.first + p.count ≤ length r.samples) (profiles_in r.counts.profiles.count r.profiles)
  pub sized : Sized (sampled r) (chosen r)
  pub fits : Fits H (chosen r)

pub record Readable (H : ℕ) (g : Given) : Type 0 where
  pub legs : ReadableRuns H g.runs
  pub subnets : g.runs.counts.subnets ≤ most_subnets
  pub rising : Rising track_width g.runs.counts.tracks.count g.runs.counts.tracks.rising g.tracks
