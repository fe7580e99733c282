-- The energies of an accepted solution (document 01, "Energy"): its curves, their sums and quarters, and the desk tool's four doubles. A sample is an average over one second, so energy is a plain sum.
use Rattle.std.specs.Prelude.{ℕ, zero, suc, ◌+◌, ◌-◌, ◌*◌, ◌/◌, ◌%◌, max, min, Bool, false, cond, ◌&&◌, List, [], ◌∷◌, map, leb, ltb, eqb, get_or, ℤ, pos, negsuc, ◌+ℤ◌, ◌-ℤ◌, Float, Option, Some, None}
use Rattle.std.specs.Int.Signed.{le_z}
use Rattle.std.specs.Float.{binary64}
use Rattle.std.specs.Float.Ieee.{round}
use Rattle.rules.specs.Limits.{quarter_seconds, most_quarters, kj_a_mwh, kj_a_mw}
use Rattle.rules.specs.Lists.{sum_of}
use Rattle.rules.specs.Timetable.{Row}
use Rattle.rules.specs.Profiles.{Curve, curve_of}
use Rattle.rules.specs.Constraints.{subnet_of}
use Rattle.rules.specs.Reading.{Files}
use Rattle.rules.specs.declared.sizes.Configuration.{Configuration}
use Rattle.rules.specs.declared.sizes.Track.{Track}
use Rattle.rules.specs.declared.figures.Peak.{Peak}
use Rattle.rules.specs.declared.figures.Figures.{Figures}
use Rattle.rules.specs.declared.figures.Desk.{Desk}

-- ---- sums and extremes over 0 .. n - 1

abbrev pub sum_to : (ℕ → ℕ) → ℕ → ℕ
sum_to f zero = 0
sum_to f (suc n) = sum_to f n + f n

abbrev pub max_to : (ℕ → ℕ) → ℕ → ℕ
max_to f zero = 0
max_to f (suc n) = max (max_to f n) (f n)

-- the first of 0 .. n - 1 at which f is greatest, 0 if it is 0 throughout
abbrev pub max_at : (ℕ → ℕ) → ℕ → ℕ
max_at f zero = 0
max_at f (suc n) = cond (ltb (max_to f n) (f n)) n (max_at f n)

abbrev pub sum_to_z : (ℕ → ℤ) → ℕ → ℤ
sum_to_z f zero = pos 0
sum_to_z f (suc n) = sum_to_z f n +ℤ f n

-- max(z, 0) and max(-z, 0)
abbrev pub above : ℤ → ℕ
above (pos n) = n
above (negsuc n) = 0

abbrev pub below : ℤ → ℕ
below (pos n) = 0
below (negsuc n) = suc n

-- the one of f 0 .. f n that an order puts last
abbrev pub extreme : (ℤ → ℤ → Bool) → (ℕ → ℤ) → ℕ → ℤ
extreme R f zero = f 0
extreme R f (suc n) = let e = extreme R f n in cond (R e (f (suc n))) (f (suc n)) e

abbrev pub greatest : (ℕ → ℤ) → ℕ → ℤ
greatest = extreme le_z

abbrev pub least : (ℕ → ℤ) → ℕ → ℤ
least = extreme (λ a b. le_z b a)

-- the values of f at 0 .. n - 1
abbrev pub tabulate : {A : Type 0} → ℕ → (ℕ → A) → List A
tabulate zero f = []
tabulate (suc n) f = f 0 ∷ tabulate n (λ i. f (suc i))

-- ---- the curves. samples: a profile's samples, by id; homes: each row's subnet

module _ (samples : ℕ → List ℤ) where
  abbrev pub running : Configuration → ℕ → Bool
  running c t = leb c.departure t && ltb t (c.departure + c.travel)

  -- one leg at second t
  abbrev pub leg_at : Configuration → ℕ → ℤ
  leg_at c t = cond (running c t) (get_or (samples c.profile) (t - c.departure) (pos 0)) (pos 0)

  abbrev pub is_home : Option ℕ → ℕ → Bool
  is_home None s = false
  is_home (Some u) s = eqb u s

  -- P(s, t)
  abbrev pub power : List (Option ℕ) → List Configuration → (s t : ℕ) → ℤ
  power [] cs s t = pos 0
  power (u ∷ us) [] s t = pos 0
  power (u ∷ us) (c ∷ cs) s t = cond (is_home u s) (leg_at c t) (pos 0) +ℤ power us cs s t

  -- the curve table over a window of seconds: subnet by subnet, `size` numbers each
  abbrev pub curves_in : (from size : ℕ) → (n : ℕ) → List (Option ℕ) → List Configuration → List ℤ
  curves_in from size n homes cs = tabulate (n * size) (λ i. power homes cs (i / size) (from + i % size))

  -- ---- energies, for n subnets

  -- all positive chosen samples
  abbrev pub before : List Configuration → ℕ
  before cs = sum_of (λ c. sum_of above (samples c.profile)) cs

  -- what all legs together take at second t, before recuperation
  abbrev pub before_at : List Configuration → ℕ → ℕ
  before_at cs t = sum_of (λ c. above (leg_at c t)) cs

  module _ (homes : List (Option ℕ)) (n : ℕ) where
    abbrev pub drawn_at : List Configuration → ℕ → ℕ
    drawn_at cs t = sum_to (λ s. above (power homes cs s t)) n

    abbrev pub drawn : List Configuration → (H : ℕ) → ℕ
    drawn cs H = sum_to (λ s. sum_to (λ t. above (power homes cs s t)) H) n

    abbrev pub lost : List Configuration → (H : ℕ) → ℕ
    lost cs H = sum_to (λ s. sum_to (λ t. below (power homes cs s t)) H) n

    abbrev pub total : List Configuration → ℕ → ℤ
    total cs t = sum_to_z (λ s. power homes cs s t) n

    abbrev pub fluctuation : List Configuration → (H : ℕ) → ℤ
    fluctuation cs H = greatest (total cs) (H - 1) -ℤ least (total cs) (H - 1)

-- ---- quarters

-- the seconds of quarter k: all of them, or those before H where H cuts it
abbrev pub seconds_of : (H k : ℕ) → ℕ
seconds_of H k = min quarter_seconds (H - quarter_seconds * k)

abbrev pub quarter : (ℕ → ℕ) → (H k : ℕ) → ℕ
quarter f H k = sum_to (λ j. f (quarter_seconds * k + j)) (seconds_of H k)

-- the greatest quarter sum
abbrev pub peak : (ℕ → ℕ) → (H : ℕ) → ℕ
peak f H = max_to (quarter f H) most_quarters

-- with the first quarter that has it
abbrev pub peak_of : (ℕ → ℕ) → (H : ℕ) → Peak
peak_of f H = record { kj = peak f H; quarter = max_at (quarter f H) most_quarters }

-- the 196 quarter sums as the array holds them
abbrev pub quarter_sums : (ℕ → ℕ) → (H : ℕ) → List ℤ
quarter_sums f H = tabulate most_quarters (λ k. pos (quarter f H k))

-- ---- of the files that were read

abbrev pub samples_or : Option Curve → List ℤ
samples_or None = []
samples_or (Some c) = c.samples

abbrev pub samples_in : List Curve → ℕ → List ℤ
samples_in curves id = samples_or (curve_of curves id)

abbrev pub homes_of : List Track → List Row → List (Option ℕ)
homes_of tracks rows = map (λ r. subnet_of tracks r.track) rows

unfoldable pub figures_of : (H : ℕ) → Files → List Configuration → Figures
figures_of H f cs =
    let samples = samples_in f.curves in
    let homes = homes_of f.document.tracks f.rows in
    let n = f.document.opened in
    record {
      before = before samples cs;
      drawn = drawn samples homes n cs H;
      lost = lost samples homes n cs H;
      fluctuation = fluctuation samples homes n cs H;
      peaks = record { before = peak_of (before_at samples cs) H; drawn = peak_of (drawn_at samples homes n cs) H };
    }

unfoldable pub curves_of : (H : ℕ) → Files → List Configuration → List ℤ
curves_of H f cs = curves_in (samples_in f.curves) 0 H f.document.opened (homes_of f.document.tracks f.rows) cs

-- ---- the desk tool's doubles: the exact quotient, rounded once

abbrev pub quotient : ℕ → ℕ → Float
quotient kj by = round binary64 false kj by

unfoldable pub desk_of : Figures → Desk
desk_of g =
    record {
      before = quotient g.before kj_a_mwh;
      drawn = quotient g.drawn kj_a_mwh;
      lost = quotient g.lost kj_a_mwh;
      peak = quotient g.peaks.drawn.kj kj_a_mw;
    }
