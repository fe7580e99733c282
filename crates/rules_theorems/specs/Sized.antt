-- What a good reading gives of the choices of an accepted solution, and the sizes that follow from document 01's limits.
use Rattle.std.specs.Prelude.{ℕ, ◌+◌, ◌*◌, ◌≤◌, ◌<◌, ◌≡◌, List, [], ◌∷◌, length, ℤ, pos, ◌+ℤ◌, nat_abs, Option, Some, None}
use Rattle.rules.specs.Limits.{least_horizon, most_horizon, quarter_seconds, most_quarters, most_legs, most_travel, most_kw, most_kj}
use Rattle.rules.specs.Lists.{sum_of}
use Rattle.rules.specs.Reading.{Files}
use Rattle.rules.specs.Energy.{sum_to, below, before_at, drawn_at, quarter, samples_in, homes_of, figures_of, curves_of}
use Rattle.rules.specs.Verdict.{All}
use Rattle.rules.specs.declared.sizes.Configuration.{Configuration}
use Rattle.rules.specs.declared.figures.Figures.{Figures}

-- the greatest power, 655,360,000 kilowatts: every leg at its greatest sample
abbrev pub most_power : ℕ
most_power = most_legs * most_kw

-- a choice: its travel time is in range, its profile has a sample for each second, and each sample is in range
pub record Powered (samples : ℕ → List ℤ) (c : Configuration) : Type 0 where
  pub brief : c.travel ≤ most_travel
  pub counted : length (samples c.profile) ≡ c.travel
  pub moderate : All (λ x. nat_abs x ≤ most_kw) (samples c.profile)

pub record Sized (samples : ℕ → List ℤ) (cs : List Configuration) : Type 0 where
  pub few : length cs ≤ most_legs
  pub powered : All (Powered samples) cs

-- departure plus travel at most H
abbrev pub Fits : ℕ → List Configuration → Type 0
Fits H cs = All (λ c. c.departure + c.travel ≤ H) cs

-- each leg's track is in one of n subnets
abbrev pub IsPlaced : ℕ → Option ℕ → Type 0
IsPlaced n None = ⊥
IsPlaced n (Some u) = u < n

abbrev pub Placed : ℕ → List (Option ℕ) → List Configuration → Type 0
Placed n homes cs = (length homes ≡ length cs) × All (IsPlaced n) homes

-- the sum of all negative chosen samples, turned round: what the runs give back
abbrev pub returned : (ℕ → List ℤ) → List Configuration → ℕ
returned samples cs = sum_of (λ c. sum_of below (samples c.profile)) cs

abbrev pub sum_of_z : {A : Type 0} → (A → ℤ) → List A → ℤ
sum_of_z f [] = pos 0
sum_of_z f (x ∷ xs) = f x +ℤ sum_of_z f xs

-- the sum of all chosen samples
abbrev pub chosen : (ℕ → List ℤ) → List Configuration → ℤ
chosen samples cs = sum_of_z (λ c. sum_of_z (λ x. x) (samples c.profile)) cs

-- ---- of the files that were read

-- what an accepted solution has: an H in range; few legs, each with its samples; runs that end by H; and a subnet for each leg
pub record SizedFiles (H : ℕ) (f : Files) (cs : List Configuration) : Type 0 where
  pub horizon : (least_horizon ≤ H) × (H ≤ most_horizon)
  pub sized : Sized (samples_in f.curves) cs
  pub fits : Fits H cs
  pub placed : Placed f.document.opened (homes_of f.document.tracks f.rows) cs

-- every figure is within document 01's greatest energy, and the fluctuation within twice the greatest power
pub record Moderate (g : Figures) : Type 0 where
  pub before : g.before ≤ most_kj
  pub drawn : g.drawn ≤ most_kj
  pub lost : g.lost ≤ most_kj
  pub fluctuation : nat_abs g.fluctuation ≤ 2 * most_power
  pub peak_before : g.peaks.before.kj ≤ most_kj
  pub peak_drawn : g.peaks.drawn.kj ≤ most_kj

-- the quarters add up to the whole, before recuperation and drawn; and the quarter that a peak names begins before H
pub record Quartered (H : ℕ) (f : Files) (cs : List Configuration) : Type 0 where
  pub before : sum_to (quarter (before_at (samples_in f.curves) cs) H) most_quarters ≡ (figures_of H f cs).before
  pub drawn : sum_to (quarter (drawn_at (samples_in f.curves) (homes_of f.document.tracks f.rows) f.document.opened cs) H) most_quarters ≡ (figures_of H f cs).drawn
  pub before_begun : quarter_seconds * (figures_of H f cs).peaks.before.quarter < H
  pub drawn_begun : quarter_seconds * (figures_of H f cs).peaks.drawn.quarter < H

-- and so are the curves; what is lost follows from the other energies and what the runs give back
pub record BoundedFigures (H : ℕ) (f : Files) (cs : List Configuration) : Type 0 where
  pub figures : Moderate (figures_of H f cs)
  pub curves : All (λ p. nat_abs p ≤ most_power) (curves_of H f cs)
  pub quarters : Quartered H f cs
  pub balance : (figures_of H f cs).drawn + returned (samples_in f.curves) cs ≡ (figures_of H f cs).lost + (figures_of H f cs).before
