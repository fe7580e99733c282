-- 12 and 13 over the flat tables of legs, configurations and profiles.
use Rattle.std.specs.Prelude.{ℕ, ◌+◌, ◌*◌, ◌≤◌, ◌<◌, ◌≡◌, Bool, true, false, not, cond, Option, Some, None, IfSome, List, [], ◌∷◌, ◌++◌, eqb, length, is_some}
use Rattle.rules.specs.Limits.{profile_width, configuration_width, leg_width}
use Rattle.rules.specs.Lists.{every, flat, over}
use Rattle.rules.specs.Answers.{not_there, wrong_samples}
use Rattle.rules.specs.Rows.{RowFault, first_fault}
use Rattle.rules.specs.Energy.{tabulate}
use Rattle.rules.specs.Timetable as Timetable
use Rattle.rules.specs.Timetable.{configuration, legs_of, leg_numbers, configurations_of, configuration_numbers}
use Rattle.rules.specs.Profiles.{Curve, profile_fault, profiles_from, profile_numbers}
use Rattle.rules.specs.declared.sizes.Configuration.{Configuration}
use Rattle.tables_ids.specs.Column.{column, place_of}
use Rattle.tables_views.specs.View.{leg_at, profile_at}
use Rattle.files_tests.specs.declared.lists.Entry.{Entry}
use Rattle.files_tests.specs.declared.lists.Seen.{Seen}
use Rattle.files_tests.specs.declared.lists.Fault.{Fault}

-- how many samples the profile with an id has
abbrev pub count_found : List ℕ → Option ℕ → Option ℕ
count_found profiles (Some i) = Some (profile_at profiles i).count
count_found profiles None = None

abbrev pub count_at : List ℕ → (m id : ℕ) → Option ℕ
count_at profiles m id = count_found profiles (place_of id (column profile_width m profiles))

-- a part of the configurations
abbrev pub list_at : (ℕ → Configuration) → (first count : ℕ) → List Configuration
list_at at first count = tabulate count (λ k. at (first + k))

-- a list's fault, by how many samples each profile has
abbrev pub lasts_for : ℕ → Option ℕ → Bool
lasts_for t None = true
lasts_for t (Some n) = eqb n t

abbrev pub list_fault : (ℕ → Option ℕ) → List Configuration → Option ℕ
list_fault count list =
    cond (every (λ c. is_some (count c.profile)) list) (cond (every (λ c. lasts_for c.travel (count c.profile)) list) None (Some wrong_samples)) (Some not_there)

-- ---- entry by entry

-- what was seen of a list: no profile is missing, whether one has another length, and the last entry's travel time and profile
pub record Sighted (count : ℕ → Option ℕ) (list : List Configuration) (seen : Seen) : Type 0 where
  pub there : every (λ c. is_some (count c.profile)) list ≡ true
  pub wrong : seen.wrong ≡ not (every (λ c. lasts_for c.travel (count c.profile)) list)
  pub last : IfSome seen.before (λ e. (is_some (count e.profile) ≡ true) × (seen.wrong ≡ false → lasts_for e.travel (count e.profile) ≡ true))

-- an entry more
abbrev pub SightedBy : (ℕ → Option ℕ) → List Configuration → Configuration → Option Seen → Type 0
SightedBy count list c (Some seen) = Sighted count (list ++ c ∷ []) seen
SightedBy count list c None = is_some (count c.profile) ≡ false

abbrev pub Sees : (ℕ → Option ℕ) → Seen → Entry → Option Seen → Type 0
Sees count seen e r =
    (list : List Configuration) (departure : ℕ) → Sighted count list seen → SightedBy count list (configuration departure e.travel e.profile) r

-- ---- row by row

-- a row and its list stand in the tables
pub record InTables (legs configurations : List ℕ) (i : ℕ) : Type 0 where
  pub leg_in : (i + 1) * leg_width ≤ length legs
  pub list_in_lem : ((leg_at legs i).first + (leg_at legs i).count) * configuration_width ≤ length configurations

pub record Tables (legs : List ℕ) (n : ℕ) (configurations : List ℕ) : Type 0 where
  pub each_row : (i : ℕ) → i < n → InTables legs configurations i

-- the tables hold rows and profiles at their front
pub record Tabled (legs : List ℕ) (n : ℕ) (configurations profiles : List ℕ) (m : ℕ) (rows : List Timetable.Row) (curves : List Curve) : Type 0 where
  pub rows_many : n ≡ length rows
  pub legs_hold : legs ≡ over (flat leg_numbers (legs_of rows)) legs
  pub configurations_hold : configurations ≡ over (flat configuration_numbers (configurations_of rows)) configurations
  pub profiles_many : m ≡ length curves
  pub profiles_hold : profiles ≡ over (flat profile_numbers (profiles_from 0 curves)) profiles

abbrev pub fault_of : Option RowFault → Option Fault
fault_of None = None
fault_of (Some f) = Some (record { row = f.row; number = f.number })

abbrev pub FirstFault : List ℕ → ℕ → List ℕ → List ℕ → ℕ → Option Fault → Type 0
FirstFault legs n configurations profiles m r =
    (rows : List Timetable.Row) (curves : List Curve) → Tabled legs n configurations profiles m rows curves → r ≡ fault_of (first_fault 0 (profile_fault curves) rows)
