-- The reading of the files in three parts, and what each promises.
use Rattle.std.specs.Prelude.{ℕ, ◌/◌, ◌≤◌, ◌≡◌, List, length, ℤ, Result}
use Rattle.rules.specs.Limits.{most_text, most_legs, leg_width, configuration_width, profile_width, constraint_width, track_width}
use Rattle.rules.specs.Lists.{flat, over}
use Rattle.rules.specs.Answers.{timetable_file, Reading, good, ◌>>=◌}
use Rattle.rules.specs.Rows.{first_fault, passed}
use Rattle.rules.specs.Timetable.{Row, listed, legs_of, leg_numbers, configurations_of, configuration_numbers, timetable_of}
use Rattle.rules.specs.Profiles.{Curve, sampled, profiles_of, profile_fault, profiles_from, profile_numbers, sample_table}
use Rattle.rules.specs.Constraints.{Document, constraints_of, subnet_fault, ordered, constraint_numbers, track_numbers}
use Rattle.rules.specs.Stated.{rules_by, known}
use Rattle.rules.specs.Reading.{leg_ids}
use Rattle.rules.specs.declared.stated.Stated.{Stated}
use Rattle.rules_theorems.specs.Lists.{Distinct}
use Rattle.tables_lent.specs.declared.Counts.{Counts}
use Rattle.tables_lent.specs.Filing.{filed_by}
use Rattle.rules.specs.declared.answers.Refusal.{Refusal}

-- ---- what each part reads; room is in numbers

-- what is stated, and the timetable
unfoldable pub draft_of : (S : Stated) (timetable : List ℕ) (legs configurations : ℕ) → Reading (List Row)
draft_of S timetable legs configurations = do
  stated ← known S
  timetable_of S.horizon (legs / leg_width) (configurations / configuration_width) timetable

-- the profiles; 12 and 13
unfoldable pub powers_of : (timetable text : List ℕ) (rows : List Row) (profiles samples : ℕ) → Reading (List Curve)
powers_of timetable text rows profiles samples = do
  curves ← profiles_of (profiles / profile_width) samples text
  powered ← passed timetable_file timetable (first_fault 0 (profile_fault curves) rows) rows
  good curves

-- the constraints; 15
unfoldable pub rules_of : (S : Stated) (timetable text : List ℕ) (rows : List Row) (constraints tracks : ℕ) → Reading Document
rules_of S timetable text rows constraints tracks = do
  document ← constraints_of (leg_ids rows) (constraints / constraint_width) (tracks / track_width) (rules_by S) text
  placed ← passed timetable_file timetable (first_fault 0 (subnet_fault document.tracks) rows) rows
  good document

-- ---- the counts so far

abbrev pub with_rows : List Row → Counts
with_rows rows =
    record { legs = length rows; configurations = listed rows; profiles = 0; samples = 0; constraints = 0; tracks = 0; subnets = 0 }

abbrev pub with_curves : Counts → List Curve → Counts
with_curves c curves =
    record {
      legs = c.legs;
      configurations = c.configurations;
      profiles = length curves;
      samples = sampled curves;
      constraints = 0;
      tracks = 0;
      subnets = 0;
    }

abbrev pub with_document : Counts → Document → Counts
with_document c document =
    record {
      legs = c.legs;
      configurations = c.configurations;
      profiles = c.profiles;
      samples = c.samples;
      constraints = length document.constraints;
      tracks = length document.tracks;
      subnets = document.opened;
    }

-- ---- what the later parts need of a draft that was read

-- its text is not too long, no two legs have the same id, and they stand at the front of their table
pub record Draft (text legs : List ℕ) (n : ℕ) (rows : List Row) : Type 0 where
  pub short : length text ≤ most_text
  pub many : n ≡ length rows
  pub few : n ≤ most_legs
  pub apart : Distinct (λ r. r.leg) rows
  pub legs_hold : legs ≡ over (flat leg_numbers (legs_of rows)) legs

-- and so do its configurations
pub record Lists (configurations : List ℕ) (rows : List Row) : Type 0 where
  pub lists_hold : configurations ≡ over (flat configuration_numbers (configurations_of rows)) configurations

pub record Drafted (text legs : List ℕ) (n : ℕ) : Type 0 where
  pub rows : List Row
  pub draft : Draft text legs n rows

pub record Listed (text legs : List ℕ) (n : ℕ) (configurations : List ℕ) : Type 0 where
  pub rows : List Row
  pub draft : Draft text legs n rows
  pub lists : Lists configurations rows

-- ---- the promises

-- the answer always, and the tables where nothing is refused
pub record Part {A : Type 0} (read : Reading A) (counts : A → Counts) (Written : A → Type 0) (answer : Result Counts Refusal) : Type 0 where
  pub answers : answer ≡ filed_by counts read
  pub writes : (x : A) → read ≡ good x → Written x

abbrev pub DraftRead : (S : Stated) (text legs configurations : List ℕ) → Result Counts Refusal → (legs' configurations' : List ℕ) → Type 0
DraftRead S text legs configurations answer legs' configurations' =
    Part (draft_of S text (length legs) (length configurations)) with_rows
    (λ rows. (legs' ≡ over (flat leg_numbers (legs_of rows)) legs) × (configurations' ≡ over (flat configuration_numbers (configurations_of rows)) configurations))
    answer

abbrev pub PowersRead : Counts → (timetable text legs configurations profiles : List ℕ) (samples : List ℤ) → Result Counts Refusal → (profiles' : List ℕ) (samples' : List ℤ) → Type 0
PowersRead counts timetable text legs configurations profiles samples answer profiles' samples' =
    (rows : List Row) → Draft timetable legs counts.legs rows → Lists configurations rows
    → Part (powers_of timetable text rows (length profiles) (length samples)) (with_curves counts)
    (λ curves. (profiles' ≡ over (flat profile_numbers (profiles_from 0 curves)) profiles) × (samples' ≡ over (sample_table curves) samples))
    answer

abbrev pub RulesRead : Stated → Counts → (timetable text legs constraints tracks : List ℕ) → Result Counts Refusal → (constraints' tracks' : List ℕ) → Type 0
RulesRead S counts timetable text legs constraints tracks answer constraints' tracks' =
    (rows : List Row) → Draft timetable legs counts.legs rows
    → Part (rules_of S timetable text rows (length constraints) (length tracks)) (with_document counts)
    (λ d. (constraints' ≡ over (flat constraint_numbers (ordered d.constraints)) constraints) × (tracks' ≡ over (flat track_numbers d.tracks) tracks))
    answer
