-- The search's first choices: each leg's soonest offer.
use Rattle.std.specs.Prelude.{ℕ, ◌*◌, ◌%◌, ◌≤◌, ◌<◌, ◌≡◌, ◌≢◌, List, length, get_or, set, Some}
use Rattle.rules.specs.Limits.{leg_width, most_listed}
use Rattle.rules.specs.Earliest.{soonest}
use Rattle.rules.specs.declared.sizes.Configuration.{Configuration}
use Rattle.rules.specs.declared.sizes.Leg.{Leg}
use Rattle.tables_views.specs.View.{leg_at}
use Rattle.earliest_offer.specs.Offer.{offer_at, timed_part, last_at, packed, chosen_at}

-- the offers of a leg with its nominal's travel time
abbrev pub own_offers : (configurations : List ℕ) → Leg → List Configuration
own_offers configurations l = timed_part configurations (offer_at configurations l l.nominal).travel l

-- a leg whose nominal is listed
pub record Nominal (l : Leg) : Type 0 where
  pub few : l.count ≤ most_listed
  pub listed : l.nominal < l.count

-- the place of its soonest offer
pub record First (configurations : List ℕ) (l : Leg) (place : ℕ) : Type 0 where
  pub within : place < l.count
  pub soonest_is : soonest 0 (own_offers configurations l) ≡ Some (offer_at configurations l place)

pub record Startable (legs : List ℕ) (row : ℕ) : Type 0 where
  pub there : last_at row < length legs
  pub nominal : Nominal (leg_at legs row)

pub record Started (legs configurations : List ℕ) (row : ℕ) (legs' : List ℕ) : Type 0 where
  pub place : ℕ
  pub first : First configurations (leg_at legs row) place
  pub stores : legs' ≡ set legs (last_at row) (packed (leg_at legs row).nominal place)

-- n rows, each with its nominal
pub record Readable (n : ℕ) (legs : List ℕ) : Type 0 where
  pub wide : leg_width * n ≤ length legs
  pub nominals : (i : ℕ) → i < n → Nominal (leg_at legs i)

-- each has its soonest offer; all other numbers are as they were
pub record Begun (n : ℕ) (legs configurations legs' : List ℕ) : Type 0 where
  pub long : length legs' ≡ length legs
  pub same : (p : ℕ) → ((i : ℕ) → i < n → p ≢ last_at i) → get_or legs' p 0 ≡ get_or legs p 0
  pub places : (i : ℕ) → i < n → get_or legs' (last_at i) 0 % most_listed ≡ get_or legs (last_at i) 0
  pub soonests : (i : ℕ) → i < n → soonest 0 (own_offers configurations (leg_at legs i)) ≡ Some (chosen_at legs' configurations i)
