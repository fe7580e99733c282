-- The flat tables of document 01 ("The tables") as lists of records: total views, in which what lies past the end of a table reads as 0.
use Rattle.std.specs.Prelude.{ℕ, ◌+◌, ◌*◌, List, get_or}
use Rattle.rules.specs.Limits.{leg_width, configuration_width, profile_width, constraint_width, track_width}
use Rattle.rules.specs.Energy.{tabulate}
use Rattle.rules.specs.Timetable.{configuration}
use Rattle.rules.specs.declared.sizes.Leg.{Leg}
use Rattle.rules.specs.declared.sizes.Configuration.{Configuration}
use Rattle.rules.specs.declared.sizes.Profile.{Profile}
use Rattle.rules.specs.declared.sizes.Constraint.{Constraint}
use Rattle.rules.specs.declared.sizes.Track.{Track}

-- ---- one number

abbrev pub number_at : List ℕ → ℕ → ℕ
number_at t i = get_or t i 0

-- number k of entry i, where an entry has as many numbers as the width says
abbrev pub entry_at : (width : ℕ) → List ℕ → ℕ → ℕ → ℕ
entry_at width t i k = number_at t (width * i + k)

-- ---- a record of its numbers

abbrev pub as_leg : (ℕ → ℕ) → Leg
as_leg f =
    record {
      id = f 0;
      train = f 1;
      track = f 2;
      start = f 3;
      end = f 4;
      first = f 5;
      count = f 6;
      nominal = f 7;
    }

abbrev pub as_configuration : (ℕ → ℕ) → Configuration
as_configuration f = configuration (f 0) (f 1) (f 2)

abbrev pub as_profile : (ℕ → ℕ) → Profile
as_profile f = record { id = f 0; first = f 1; count = f 2 }

abbrev pub as_constraint : (ℕ → ℕ) → Constraint
as_constraint f = record { kind = f 0; first = f 1; second = f 2; low = f 3; high = f 4; connection = f 5 }

abbrev pub as_track : (ℕ → ℕ) → Track
as_track f = record { id = f 0; subnet = f 1 }

-- ---- entry i of a table

abbrev pub leg_at : List ℕ → ℕ → Leg
leg_at t i = as_leg (entry_at leg_width t i)

abbrev pub configuration_at : List ℕ → ℕ → Configuration
configuration_at t i = as_configuration (entry_at configuration_width t i)

abbrev pub profile_at : List ℕ → ℕ → Profile
profile_at t i = as_profile (entry_at profile_width t i)

abbrev pub constraint_at : List ℕ → ℕ → Constraint
constraint_at t i = as_constraint (entry_at constraint_width t i)

abbrev pub track_at : List ℕ → ℕ → Track
track_at t i = as_track (entry_at track_width t i)

-- ---- the first n entries

abbrev pub legs_in : ℕ → List ℕ → List Leg
legs_in n t = tabulate n (leg_at t)

abbrev pub configurations_in : ℕ → List ℕ → List Configuration
configurations_in n t = tabulate n (configuration_at t)

abbrev pub profiles_in : ℕ → List ℕ → List Profile
profiles_in n t = tabulate n (profile_at t)

abbrev pub constraints_in : ℕ → List ℕ → List Constraint
constraints_in n t = tabulate n (constraint_at t)

abbrev pub tracks_in : ℕ → List ℕ → List Track
tracks_in n t = tabulate n (track_at t)

-- ---- what the draft offers

-- a leg's part of the configurations: as many as it counts, from its first on
abbrev pub part_of : (ℕ → Configuration) → Leg → List Configuration
part_of at l = tabulate l.count (λ j. at (l.first + j))

-- the list of row i
abbrev pub list_in : (legs configurations : List ℕ) → ℕ → List Configuration
list_in legs configurations i = part_of (configuration_at configurations) (leg_at legs i)

-- the lists of the first n rows
abbrev pub offers_in : ℕ → (legs configurations : List ℕ) → List (List Configuration)
offers_in n legs configurations = tabulate n (list_in legs configurations)
