-- The search for the earliest timetable over the tables: what it keeps, and what a record's turn, a pass and the passes give.
use Rattle.std.specs.Prelude.{ℕ, ◌+◌, ◌*◌, ◌%◌, ◌≤◌, ◌<◌, ◌≡◌, ◌≢◌, Bool, true, false, Option, Some, None, List, length, get_or}
use Rattle.rules.specs.Limits.{leg_width, most_legs, most_listed, most_constraints}
use Rattle.rules.specs.Energy.{tabulate}
use Rattle.rules.specs.Kinds.{rule_of}
use Rattle.rules.specs.Verdict.{All, Kept, Acceptable}
use Rattle.rules.specs.Earliest.{timed_of}
use Rattle.rules.specs.declared.sizes.Configuration.{Configuration}
use Rattle.rules.specs.declared.sizes.Constraint.{Constraint}
use Rattle.tables_views.specs.View.{configuration_at, constraint_at, leg_at, list_in, constraints_in}
use Rattle.verdict.specs.Found.{Finding, finding_of}
use Rattle.verdict.specs.Within.{Timely, Brief}
use Rattle.earliest_theorems.specs.Search.{ahead, Lates, Low}
use Rattle.earliest_offer.specs.Offer.{last_at, chosen_at, Raisable}
use Rattle.earliest_search.specs.declared.rounds.Late as code
use Rattle.earliest_search.specs.declared.rounds.Turn.{Turn}
use Rattle.earliest_search.specs.declared.rounds.Turn.TheVariants as turn

-- the nominal of row i: its place is what the leg's last number has below that of the choice
abbrev pub nominal_at : (legs configurations : List ℕ) → ℕ → Configuration
nominal_at legs configurations i = configuration_at configurations ((leg_at legs i).first + (leg_at legs i).nominal % most_listed)

-- the offers of row i with its travel time
abbrev pub timed_at : (legs configurations : List ℕ) → ℕ → List Configuration
timed_at legs configurations i = timed_of (nominal_at legs configurations i).travel (list_in legs configurations i)

abbrev pub timed_in : (n : ℕ) → (legs configurations : List ℕ) → List (List Configuration)
timed_in n legs configurations = tabulate n (timed_at legs configurations)

abbrev pub chosen_in : (n : ℕ) → (legs configurations : List ℕ) → List Configuration
chosen_in n legs configurations = tabulate n (chosen_at legs configurations)

abbrev pub ahead_in : (n : ℕ) → (legs configurations : List ℕ) → ℕ
ahead_in n legs configurations = ahead (timed_in n legs configurations) (chosen_in n legs configurations)

-- the same leg table, but for the choices of n rows
pub record Moved (n : ℕ) (legs legs' : List ℕ) : Type 0 where
  pub long : length legs' ≡ length legs
  pub same : (p : ℕ) → ((i : ℕ) → i < n → p ≢ last_at i) → get_or legs' p 0 ≡ get_or legs p 0
  pub places : (i : ℕ) → i < n → get_or legs' (last_at i) 0 % most_listed ≡ get_or legs (last_at i) 0 % most_listed

-- what the tables of a reading have, of n rows and m records
pub record Based (n m : ℕ) (legs configurations constraints : List ℕ) : Type 0 where
  pub rows : n ≤ most_legs
  pub records : m ≤ most_constraints
  pub wide : leg_width * n ≤ length legs
  pub few : (i : ℕ) → i < n → (leg_at legs i).count ≤ most_listed
  pub timely : (i : ℕ) → i < n → All Timely (list_in legs configurations i)
  pub brief : All Brief (constraints_in m constraints)
  pub named : All (λ c. (c.first < n) × (c.second < n)) (constraints_in m constraints)

-- and the search in it
pub record Searching (n m : ℕ) (legs configurations constraints : List ℕ) : Type 0 where
  pub based : Based n m legs configurations constraints
  pub low : Low (timed_in n legs configurations) (constraints_in m constraints) (chosen_in n legs configurations)

pub record Turning (n m i : ℕ) (legs configurations constraints : List ℕ) : Type 0 where
  pub searching : Searching n m legs configurations constraints
  pub within : i < m

-- what is found of a record by the choices of its rows
abbrev pub found_by : (c : Constraint) → (one two : Configuration) → Finding
found_by c one two = finding_of (rule_of c.kind c.low c.high c.connection one two)

-- record i is kept, or its row is late
pub record LateAt (n m i : ℕ) (legs configurations constraints : List ℕ) (r : Option code.Late) : Type 0 where
  pub kept : r ≡ None → Kept (chosen_in n legs configurations) (constraint_at constraints i)
  pub raises : (l : code.Late) → r ≡ Some l → Raisable legs configurations l.row l.by
  pub late : (l : code.Late) → r ≡ Some l
      → Lates (chosen_in n legs configurations) (λ s. Kept s (constraint_at constraints i)) (Kept (chosen_in n legs configurations) (constraint_at constraints i)) (Some (record { row = l.row; by = l.by }))

abbrev pub NoSolution : (n m : ℕ) → (legs configurations constraints : List ℕ) → Type 0
NoSolution n m legs configurations constraints =
    (s : List Configuration) → Acceptable (timed_in n legs configurations) (constraints_in m constraints) s → ⊥

-- a step on: the same files, no leg too late, fewer offers ahead
pub record Onward (n m : ℕ) (legs configurations constraints legs' : List ℕ) : Type 0 where
  pub searching : Searching n m legs' configurations constraints
  pub moved : Moved n legs legs'
  pub fewer : ahead_in n legs' configurations < ahead_in n legs configurations

-- record i: kept, its row moved on, or never kept
pub record Turned (n m i : ℕ) (legs configurations constraints : List ℕ) (r : Turn) (legs' : List ℕ) : Type 0 where
  pub kept : r ≡ turn.Kept → (legs' ≡ legs) × Kept (chosen_in n legs configurations) (constraint_at constraints i)
  pub raised : r ≡ turn.Raised → Onward n m legs configurations constraints legs'
  pub never : r ≡ turn.Never → NoSolution n m legs configurations constraints

-- all records once
pub record Passed (n m : ℕ) (legs configurations constraints : List ℕ) (r : Turn) (legs' : List ℕ) : Type 0 where
  pub kept : r ≡ turn.Kept → (legs' ≡ legs) × All (Kept (chosen_in n legs configurations)) (constraints_in m constraints)
  pub raised : r ≡ turn.Raised → Onward n m legs configurations constraints legs'
  pub never : r ≡ turn.Never → NoSolution n m legs configurations constraints

-- until all are kept
pub record Settled (n m : ℕ) (legs configurations constraints legs' : List ℕ) : Type 0 where
  pub searching : Searching n m legs' configurations constraints
  pub moved : Moved n legs legs'
  pub kept : All (Kept (chosen_in n legs' configurations)) (constraints_in m constraints)

pub record Sorted (n m : ℕ) (legs configurations constraints : List ℕ) (r : Bool) (legs' : List ℕ) : Type 0 where
  pub found : r ≡ true → Settled n m legs configurations constraints legs'
  pub never : r ≡ false → NoSolution n m legs configurations constraints
