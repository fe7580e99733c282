-- 15 over flat tables: the first row whose track is in no subnet.
use Rattle.std.specs.Prelude.{ℕ, ◌≡◌, Bool, not, List, map, eqb, Option, Some, None}
use Rattle.rules.specs.Limits.{track_width}
use Rattle.rules.specs.Lists.{any}
use Rattle.rules.specs.Answers.{no_subnet}
use Rattle.rules.specs.Rows.{RowFault, first_fault}
use Rattle.rules.specs.Timetable.{Row}
use Rattle.rules.specs.Energy.{tabulate}
use Rattle.rules.specs.Constraints.{subnet_fault}
use Rattle.rules.specs.declared.sizes.Track.{Track}
use Rattle.tables_ids.specs.Column.{column, track_ids_of}
use Rattle.tables_views.specs.View.{leg_at}

-- where a leg's track stands in its entry
abbrev pub track_place : ℕ
track_place = 2

-- the tracks of the first n legs
unfoldable pub leg_tracks : (n : ℕ) → List ℕ → List ℕ
leg_tracks n legs = tabulate n (λ i. (leg_at legs i).track)

abbrev pub unlisted : List ℕ → ℕ → Bool
unlisted listed track = not (any (λ x. eqb x track) listed)

-- a row's number with 15, or no fault
abbrev pub fault_at : Option ℕ → Option RowFault
fault_at None = None
fault_at (Some i) = Some (record { row = i; number = no_subnet })

-- the tables hold the tracks of these rows, and the ids of these tracks
pub record Hold (legs : List ℕ) (n : ℕ) (tracks : List ℕ) (m : ℕ) (rows : List Row) (ts : List Track) : Type 0 where
  pub of_rows : leg_tracks n legs ≡ map (λ r. r.track) rows
  pub of_tracks : column track_width m tracks ≡ track_ids_of ts

-- 15: the first row whose track is in no subnet
abbrev pub Fifteen : (legs : List ℕ) (n : ℕ) (tracks : List ℕ) (m : ℕ) → Option ℕ → Type 0
Fifteen legs n tracks m r =
    (rows : List Row) (ts : List Track) → Hold legs n tracks m rows ts → fault_at r ≡ first_fault 0 (subnet_fault ts) rows
