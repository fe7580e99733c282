-- The fields and the order of every table, and rooms that are no whole number of records. Assumes nothing.
use Rattle.std.specs.Prelude.{ℕ, ◌≡◌, refl, List, [], ◌∷◌, ◌++◌, replicate, length, ℤ, pos, neg_ℤ}
use Prim.Native.String.{String}
use Rattle.rules.specs.Answers.{already_seen, nominal_not_listed, no_room, timetable_file, profiles_file, constraints_file, solution_file}
use Rattle.rules.specs.Bytes.{bytes}
use Rattle.rules.specs.Timetable.{timetable_header}
use Rattle.rules.specs.Profiles.{profiles_header}
use Rattle.rules.specs.Verdict.{All}
use Rattle.rules.specs.Entries.{Tables, Checked}
use Rattle.rules.specs.Computed.{computed}
use Rattle.rules.specs.Examples.{rows, curves}
use Rattle.rules.specs.declared.answers.Tally.{Tally}
use Rattle.rules.specs.declared.answers.Answer.{Answer}
use Rattle.rules.specs.declared.answers.Answer.TheVariants.{Accepted}
use Rattle.rules_corners.specs.Corner.{Input, input, check, refuses, six_lists}

-- ---- room in numbers, which holds nines

abbrev numbers : (legs configurations profiles samples constraints tracks : ℕ) → Tables
numbers a b c d e f =
    record {
      legs = replicate a 9;
      configurations = replicate b 9;
      profiles = replicate c 9;
      samples = replicate d (pos 9);
      constraints = replicate e 9;
      tracks = replicate f 9;
    }

-- ---- three legs, five configurations, three profiles with eight samples, two constraints, three tracks

abbrev two_rows : List ℕ
two_rows = rows "1,1,1,1,2,10_4_7,10_4_7 15_4_7\n2,1,2,2,3,45_3_8,40_3_8 45_3_8\n"

abbrev draft : List ℕ
draft = two_rows ++ bytes "3,9,3,3,4,99_1_6,99_1_6\n"

abbrev two_profiles : List ℕ
two_profiles = curves "7,0.5 1.0 0.25 -0.4\n8,0.3 0.0 -0.2\n"

abbrev profiles : List ℕ
profiles = two_profiles ++ bytes "6,-0.0\n"

abbrev dwells : String
dwells = "{\"first_leg_id\": 1, \"second_leg_id\": 2, \"min_dwell_time\": 20}"

-- up to the second record; up to the third track; the rest
abbrev one_record : List ℕ
one_record = bytes "{\"dwell_time_constraints\": [" ++ bytes dwells ++ bytes ", "

abbrev two_tracks : List ℕ
two_tracks = one_record ++ bytes dwells ++ bytes "], \"recuperation_subnets\": [{\"subnet_id\": 5, \"track_ids\": [2, 1, "

abbrev constraints : List ℕ
constraints =
    two_tracks
    ++ bytes "3]}], \"headway_time_constraints\": [], \"single_track_headway_constraints\": [], "
    ++ bytes "\"terminal_turnaround_constraints\": [], \"connection_constraints\": []}"

abbrev three : Input
three = input 100 draft profiles constraints draft

-- the same with another draft, which is its own solution
abbrev three_of : List ℕ → Input
three_of t = input 100 t profiles constraints t

-- ---- documents whose tables show an order

abbrev legs12 : String
legs12 = "{\"first_leg_id\": 1, \"second_leg_id\": 2"

-- one record of each kind, two connections, the last list first; each kind has its own seconds
abbrev last_first : List ℕ
last_first =
    bytes "{\"connection_constraints\": ["
    ++ bytes legs12
    ++ bytes ", \"min_connection_time\": 6, \"max_connection_time\": 60, \"connection_type\": \"departure_to_departure\"}, "
    ++ bytes "{\"connection_type\": \"arrival_to_departure\", \"max_connection_time\": 50, \"min_connection_time\": 5, \"second_leg_id\": 1, \"first_leg_id\": 2}], "
    ++ bytes "\"terminal_turnaround_constraints\": [" ++ bytes legs12 ++ bytes ", \"min_turnaround_time\": 4}], "
    ++ bytes "\"dwell_time_constraints\": [" ++ bytes legs12 ++ bytes ", \"min_dwell_time\": 3}], "
    ++ bytes "\"single_track_headway_constraints\": [" ++ bytes legs12 ++ bytes "}], "
    ++ bytes "\"headway_time_constraints\": [" ++ bytes legs12 ++ bytes ", \"min_headway_time\": 1}], "
    ++ bytes "\"recuperation_subnets\": [{\"subnet_id\": 1, \"track_ids\": [1, 2, 3]}]}"

-- a subnet with no tracks between two, and its tracks not in order
abbrev apart : List ℕ
apart =
    six_lists "" "" "" "" ""
    "{\"subnet_id\": 5, \"track_ids\": [3, 1]}, {\"subnet_id\": 4, \"track_ids\": []}, {\"track_ids\": [2], \"subnet_id\": 3}"

-- ---- THE TABLE

pub data Corner : Type 0 where
  leaves : Input → Tables → (choices : ℕ) → Checked → Corner
  answers : Input → Tables → (choices : ℕ) → Answer → Corner
  orders : (constraints : List ℕ) → (table tracks : List ℕ) → Corner

-- the two tables of a document, with room for no number more
abbrev left : List ℕ → (table tracks : ℕ) → Checked
left c n k = check (input 100 draft profiles c draft) (numbers 24 15 9 8 n k) (replicate 9 9)

abbrev pub Right : Corner → Type 0
Right (leaves x t n r) = check x t (replicate n 9) ≡ r
Right (answers x t n a) = (check x t (replicate n 9)).answer ≡ a
Right (orders c table tracks) =
    let r = left c (length table) (length tracks) in
    (r.tables.constraints ++ r.tables.tracks) ≡ (table ++ tracks)

-- the tables of `three`, before what stood past them
abbrev read : (legs configurations profiles : List ℕ) → (samples : List ℤ) → (constraints tracks : List ℕ) → Tables
read a b c d e f =
    record {
      legs = (1 ∷ 1 ∷ 1 ∷ 1 ∷ 2 ∷ 0 ∷ 2 ∷ 0 ∷ []) ++ (2 ∷ 1 ∷ 2 ∷ 2 ∷ 3 ∷ 2 ∷ 2 ∷ 1 ∷ []) ++ (3 ∷ 9 ∷ 3 ∷ 3 ∷ 4 ∷ 4 ∷ 1 ∷ 0 ∷ []) ++ a;
      configurations =
          (10 ∷ 4 ∷ 7 ∷ []) ++ (15 ∷ 4 ∷ 7 ∷ []) ++ (40 ∷ 3 ∷ 8 ∷ []) ++ (45 ∷ 3 ∷ 8 ∷ []) ++ (99 ∷ 1 ∷ 6 ∷ []) ++ b;
      profiles = (7 ∷ 0 ∷ 4 ∷ []) ++ (8 ∷ 4 ∷ 3 ∷ []) ++ (6 ∷ 7 ∷ 1 ∷ []) ++ c;
      samples = pos 500 ∷ pos 1_000 ∷ pos 250 ∷ neg_ℤ (pos 400) ∷ pos 300 ∷ pos 0 ∷ neg_ℤ (pos 200) ∷ pos 0 ∷ d;
      constraints = (3 ∷ 0 ∷ 1 ∷ 20 ∷ 0 ∷ 0 ∷ []) ++ (3 ∷ 0 ∷ 1 ∷ 20 ∷ 0 ∷ 0 ∷ []) ++ e;
      tracks = (2 ∷ 0 ∷ []) ++ (1 ∷ 0 ∷ []) ++ (3 ∷ 0 ∷ []) ++ f;
    }

abbrev chosen : List ℕ → List ℕ
chosen rest = (10 ∷ 4 ∷ 7 ∷ []) ++ (45 ∷ 3 ∷ 8 ∷ []) ++ (99 ∷ 1 ∷ 6 ∷ []) ++ rest

-- three choices, and one inequality of each dwell
abbrev tests_of_three : Tally
tests_of_three = record { kinds = 3 ∷ 0 ∷ 0 ∷ 2 ∷ 0 ∷ 0 ∷ []; total = 5 }

abbrev pub tables : List Corner
tables =
    -- just enough of each, and the fields of every table
    leaves three (numbers 24 15 9 8 12 6) 9 (record { answer = Accepted; tally = tests_of_three; tables = read [] [] [] [] [] []; choices = chosen [] })
    -- all but one number of one record more, which no record uses
    ∷ leaves three (numbers 31 17 11 8 17 7) 11
    (record {
      answer = Accepted;
      tally = tests_of_three;
      tables = read (replicate 7 9) (replicate 2 9) (replicate 2 9) [] (replicate 5 9) (replicate 1 9);
      choices = chosen (replicate 2 9);
    })
    -- all but one number of what is needed, table by table: 16 at the first row, record or track that does not fit
    ∷ answers three (numbers 23 15 9 8 12 6) 9 (refuses no_room timetable_file (length two_rows))
    ∷ answers three (numbers 24 14 9 8 12 6) 9 (refuses no_room timetable_file (length two_rows))
    ∷ answers three (numbers 24 15 8 8 12 6) 9 (refuses no_room profiles_file (length two_profiles))
    ∷ answers three (numbers 24 15 9 7 12 6) 9 (refuses no_room profiles_file (length two_profiles))
    ∷ answers three (numbers 24 15 9 8 11 6) 9 (refuses no_room constraints_file (length one_record))
    ∷ answers three (numbers 24 15 9 8 12 5) 9 (refuses no_room constraints_file (length two_tracks))
    ∷ answers three (numbers 24 15 9 8 12 6) 8 (refuses no_room solution_file (length two_rows))
    -- no room at all: 16 at the first
    ∷ answers three (numbers 0 15 9 8 12 6) 9 (refuses no_room timetable_file (length timetable_header))
    ∷ answers three (numbers 24 0 9 8 12 6) 9 (refuses no_room timetable_file (length timetable_header))
    ∷ answers three (numbers 24 15 0 8 12 6) 9 (refuses no_room profiles_file (length profiles_header))
    ∷ answers three (numbers 24 15 9 0 12 6) 9 (refuses no_room profiles_file (length profiles_header))
    ∷ answers three (numbers 24 15 9 8 12 6) 0 (refuses no_room solution_file (length timetable_header))
    -- the files in their order: the draft's 16 before anything of the others
    ∷ answers (input 100 draft [] [] []) (numbers 23 15 0 0 0 0) 0 (refuses no_room timetable_file (length two_rows))
    -- the lowest number in the row: 7 and 8 before 16
    ∷ answers (three_of (two_rows ++ bytes "1,9,3,3,4,99_1_6,99_1_6\n")) (numbers 16 12 9 8 12 6) 9 (refuses already_seen timetable_file (length two_rows))
    ∷ answers (three_of (two_rows ++ bytes "3,9,3,3,4,98_1_6,99_1_6\n")) (numbers 16 12 9 8 12 6) 9 (refuses nominal_not_listed timetable_file (length two_rows))
    -- a solution's lists need no room
    ∷ answers (input 100 draft profiles constraints (two_rows ++ bytes "3,9,3,3,4,99_1_6,99_1_6 1_1_6 2_1_6 3_1_6 4_1_6 5_1_6\n")) (numbers 24 15 9 8 12 6) 9 Accepted
    -- the constraint table is ordered by kind and then by file, whatever the file's order; absent numbers are 0; types 1 and 2
    ∷ orders last_first
    ((1 ∷ 0 ∷ 1 ∷ 1 ∷ 0 ∷ 0 ∷ [])
    ++ (2 ∷ 0 ∷ 1 ∷ 0 ∷ 0 ∷ 0 ∷ [])
    ++ (3 ∷ 0 ∷ 1 ∷ 3 ∷ 0 ∷ 0 ∷ [])
    ++ (4 ∷ 0 ∷ 1 ∷ 4 ∷ 0 ∷ 0 ∷ []) ++ (5 ∷ 0 ∷ 1 ∷ 6 ∷ 60 ∷ 2 ∷ []) ++ (5 ∷ 1 ∷ 0 ∷ 5 ∷ 50 ∷ 1 ∷ []))
    ((1 ∷ 0 ∷ []) ++ (2 ∷ 0 ∷ []) ++ (3 ∷ 0 ∷ []))
    -- a track has the place of its subnet, which is not its id; a subnet with no tracks has its place too
    ∷ orders apart [] ((3 ∷ 0 ∷ []) ++ (1 ∷ 0 ∷ []) ++ (2 ∷ 2 ∷ []))
    ∷ []

tables_hold : All Right tables
unfolding computed
tables_hold = (refl, (refl, (refl, (refl, (refl, (refl, (refl, (refl, (refl, (refl, (refl, (refl, (refl, (refl, (refl, (refl, (refl, (refl, (refl, (refl, tt))))))))))))))))))))
