-- The offers of a leg in the tables, and the choice that stands beside its nominal.
use Rattle.std.specs.Prelude.{ℕ, ◌+◌, ◌*◌, ◌/◌, ◌%◌, ◌≤◌, ◌<◌, ◌^◌, ◌≡◌, Bool, true, false, Option, Some, None, List, length, set}
use Rattle.rules.specs.Limits.{leg_width, most_listed}
use Rattle.rules.specs.Earliest.{timed_of, soonest}
use Rattle.rules.specs.declared.sizes.Configuration.{Configuration}
use Rattle.rules.specs.declared.sizes.Leg.{Leg}
use Rattle.tables_views.specs.View.{configuration_at, leg_at, part_of}

-- ---- one leg

-- an offer by its place in the leg's list
abbrev pub offer_at : (configurations : List ℕ) → Leg → ℕ → Configuration
offer_at configurations l j = configuration_at configurations (l.first + j)

-- the leg's offers with a travel time
abbrev pub timed_part : (configurations : List ℕ) → (travel : ℕ) → Leg → List Configuration
timed_part configurations travel l = timed_of travel (part_of (configuration_at configurations) l)

-- the place of the soonest of them at a second or after it, where there is one
pub record Sought (configurations : List ℕ) (l : Leg) (travel least : ℕ) (r : Option ℕ) : Type 0 where
  pub found : (j : ℕ) → r ≡ Some j → (j < l.count) × (soonest least (timed_part configurations travel l) ≡ Some (offer_at configurations l j))
  pub missing : r ≡ None → soonest least (timed_part configurations travel l) ≡ None

-- ---- the choice: where a leg's last number stands, which is its nominal's place below the number of places there are, and the choice's above it

abbrev pub last_at : (row : ℕ) → ℕ
last_at row = leg_width * row + 7

abbrev pub packed : (nominal place : ℕ) → ℕ
packed n p = n + most_listed * p

abbrev pub chosen_of : (configurations : List ℕ) → Leg → Configuration
chosen_of configurations l = offer_at configurations l (l.nominal / most_listed)

abbrev pub chosen_at : (legs configurations : List ℕ) → (row : ℕ) → Configuration
chosen_at legs configurations row = chosen_of configurations (leg_at legs row)

-- ---- a row moved on

-- its soonest offer with the choice's travel time, `by` seconds later or after that
abbrev pub next_of : (legs configurations : List ℕ) → (row by : ℕ) → Option Configuration
next_of legs configurations row by =
    soonest ((chosen_at legs configurations row).departure + by) (timed_part configurations (chosen_at legs configurations row).travel (leg_at legs row))

pub record Raisable (legs configurations : List ℕ) (row by : ℕ) : Type 0 where
  pub there : last_at row < length legs
  pub few : (leg_at legs row).count ≤ most_listed
  pub early : (chosen_at legs configurations row).departure + by < 2 ^ 32

pub record Stored (legs configurations : List ℕ) (row by : ℕ) (legs' : List ℕ) : Type 0 where
  pub place : ℕ
  pub listed : place < (leg_at legs row).count
  pub next : next_of legs configurations row by ≡ Some (offer_at configurations (leg_at legs row) place)
  pub stores : legs' ≡ set legs (last_at row) (packed ((leg_at legs row).nominal % most_listed) place)

pub record Raised (legs configurations : List ℕ) (row by : ℕ) (r : Bool) (legs' : List ℕ) : Type 0 where
  pub none_left : r ≡ false → (next_of legs configurations row by ≡ None) × (legs' ≡ legs)
  pub one_left : r ≡ true → Stored legs configurations row by legs'
