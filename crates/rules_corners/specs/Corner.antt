-- What the tables of corners are made of: the inputs of the entries, and the room that is lent. Assumes nothing.
use Rattle.std.specs.Prelude.{ℕ, ◌*◌, List, [], ◌∷◌, replicate, ℤ, pos}
use Prim.Native.String.{String}
use Rattle.rules.specs.Limits.{leg_width, configuration_width, profile_width, constraint_width, track_width}
use Rattle.rules.specs.Answers.{refusal, violation, solution_file}
use Rattle.rules.specs.Kinds.{example_edition}
use Rattle.rules.specs.Stated.{stated}
use Rattle.rules.specs.Reading.{Texts}
use Rattle.rules.specs.Entries.{Tables, Checked, checked, Reported, reported, Merged, merged}
use Rattle.rules.specs.Examples.{texts, list, object}
use Rattle.rules.specs.declared.stated.Stated.{Stated}
use Rattle.rules.specs.declared.sizes.Configuration.{Configuration}
use Rattle.rules.specs.declared.answers.Answer.{Answer}
use Rattle.rules.specs.declared.answers.Answer.TheVariants.{Violated, Refused}

-- ---- inputs

pub record Input : Type 0 where
  pub H : ℕ
  pub texts : Texts
  pub solution : List ℕ

abbrev pub input : (H : ℕ) → (timetable profiles constraints solution : List ℕ) → Input
input H t p c s = record { H = H; texts = texts t p c; solution = s }

-- in document 01's edition
abbrev pub stated_of : Input → Stated
stated_of x = stated x.H example_edition

-- room for so many records of each table, which holds nines
abbrev pub room_for : (legs configurations profiles samples constraints tracks : ℕ) → Tables
room_for a b c d e f =
    record {
      legs = replicate (a * leg_width) 9;
      configurations = replicate (b * configuration_width) 9;
      profiles = replicate (c * profile_width) 9;
      samples = replicate d (pos 9);
      constraints = replicate (e * constraint_width) 9;
      tracks = replicate (f * track_width) 9;
    }

abbrev pub choices_for : ℕ → List ℕ
choices_for n = replicate (n * configuration_width) 9

abbrev pub no_room_at_all : Tables
no_room_at_all = room_for 0 0 0 0 0 0

-- enough for the small examples
abbrev pub ample : Tables
ample = room_for 3 6 3 9 3 3

-- ---- entries

abbrev pub check : Input → Tables → List ℕ → Checked
check x t c = checked (stated_of x) x.texts x.solution t c

abbrev pub report : Input → Tables → List ℕ → List ℤ → Reported
report x t c p = reported (stated_of x) x.texts x.solution t c p

-- the answer where there is room
abbrev pub answer_to : Input → Answer
answer_to x = (check x ample (choices_for 3)).answer

abbrev pub Merge : Type 0
Merge = List Configuration → List Configuration → List Configuration

abbrev pub merging : Merge → Input → (second : List ℕ) → Tables → (choices second_choices text : List ℕ) → Merged
merging merge x second t c d text = merged merge (stated_of x) x.texts x.solution second t c d text

-- ---- answers

abbrev pub refuses : (number file place : ℕ) → Answer
refuses n f p = Refused (refusal n f p)

abbrev pub violates : (kind position inequality shortfall : ℕ) → Answer
violates k n i m = Violated (violation k n i m solution_file)

-- ---- constraints.json

-- the records of each list, in document 01's order
abbrev pub six_lists : (headways single_tracks dwells turnarounds connections subnets : String) → List ℕ
six_lists a b c d e f =
    object
    (list "headway_time_constraints" a
    ∷ list "single_track_headway_constraints" b
    ∷ list "dwell_time_constraints" c
    ∷ list "terminal_turnaround_constraints" d
    ∷ list "connection_constraints" e
    ∷ list "recuperation_subnets" f
    ∷ [])
