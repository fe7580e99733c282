-- For each refusal number texts that give it: document 01's worked example with one thing changed, and the refusal. The text at fault
-- is written in two parts, cut at the refusal's place: the fault starts with the second. Such a text for 2 is too long to be written
-- here: proofs/AlwaysRefused.antt has it for every text. Assumes nothing.
use Rattle.std.specs.Prelude.{ℕ, ◌+◌, ◌*◌, ◌-◌, ◌≡◌, refl, Bool, true, ◌&&◌, ◌||◌, List, [], ◌∷◌, ◌++◌, map, eqb, replicate, length, pos}
use Prim.Native.String.{String}
use Rattle.rules.specs.Limits.{least_horizon, most_horizon, most_listed, most_sampled, leg_width, configuration_width, profile_width, constraint_width, track_width}
use Rattle.rules.specs.Lists.{every, any, flat, same_list}
use Rattle.rules.specs.Bytes.{bytes, spelled, joined, space}
use Rattle.rules.specs.Timetable.{timetable_header}
use Rattle.rules.specs.Profiles.{profiles_header}
use Rattle.rules.specs.Kinds.{table_edition, example_edition}
use Rattle.rules.specs.Stated.{stated}
use Rattle.rules.specs.Reading.{Texts}
use Rattle.rules.specs.Answers.{
  bad_horizon,
  too_long,
  bad_header,
  bad_row,
  out_of_range,
  too_many,
  already_seen,
  nominal_not_listed,
  bad_json,
  unknown_name,
  repeated_or_missing,
  not_there,
  wrong_samples,
  differs,
  no_subnet,
  no_room,
  unequal_travel,
  unknown_edition,
  no_file,
  timetable_file,
  profiles_file,
  constraints_file,
  solution_file,
  second_file,
  refusal,
  values_of,
}
use Rattle.rules.specs.Entries.{Tables, checked, reported, merged}
use Rattle.rules.specs.Merge.{earlier, later}
use Rattle.rules.specs.declared.stated.Stated.{Stated}
use Rattle.rules.specs.declared.sizes.Configuration.{Configuration}
use Rattle.rules.specs.Computed.{computed}
use Rattle.rules.specs.declared.answers.Refusal.{Refusal}
use Rattle.rules.specs.declared.answers.Answer.{Answer}
use Rattle.rules.specs.declared.answers.Answer.TheVariants.{Accepted, Refused}
use Rattle.rules_theorems.specs.Cases.{Line, solution_line, room_line, travel_line, check_cases}

-- ---- the worked example

abbrev horizon : ℕ
horizon = 100

abbrev caller : Stated
caller = stated horizon example_edition

abbrev first_row : String
first_row = "1,1,1,1,2,10_4_7,10_4_7 15_4_7\n"

abbrev second_row : String
second_row = "2,1,2,2,3,40_3_8,40_3_8 45_3_8\n"

abbrev draft : List ℕ
draft = timetable_header ++ (bytes first_row ++ bytes second_row)

abbrev first_profile : String
first_profile = "7,0.5 1.0 0.25 -0.4\n"

abbrev second_profile : String
second_profile = "8,0.3 0.0 -0.2\n"

abbrev profiles : List ℕ
profiles = profiles_header ++ (bytes first_profile ++ bytes second_profile)

abbrev constraints : List ℕ
constraints =
    bytes "{\"headway_time_constraints\": [], \"single_track_headway_constraints\": [], \"dwell_time_constraints\": [{\"first_leg_id\": 1, "
    ++ bytes "\"second_leg_id\": 2, \"min_dwell_time\": 20}], \"terminal_turnaround_constraints\": [], \"connection_constraints\": [], "
    ++ bytes "\"recuperation_subnets\": [{\"subnet_id\": 1, \"track_ids\": [1, 2]}]}\n"

-- the tables that the worked example needs, but for so many numbers of each
abbrev lacking : (legs configurations profiles samples constraints tracks : ℕ) → Tables
lacking a b c d e f =
    record {
      legs = replicate (2 * leg_width - a) 0;
      configurations = replicate (4 * configuration_width - b) 0;
      profiles = replicate (2 * profile_width - c) 0;
      samples = replicate (7 - d) (pos 0);
      constraints = replicate (constraint_width - e) 0;
      tracks = replicate (2 * track_width - f) 0;
    }

abbrev lent : Tables
lent = lacking 0 0 0 0 0 0

abbrev choices : ℕ
choices = 2 * configuration_width

abbrev worked : Texts
worked = record { timetable = draft; profiles = profiles; constraints = constraints }

-- ---- an example: the input, and the refusal that it gives

pub record Example : Type 0 where
  pub stated : Stated
  pub texts : Texts
  pub solution : List ℕ
  pub tables : Tables
  pub choices : ℕ
  pub given : Refusal

-- an answer has the numbers of a refusal
abbrev pub gives : Answer → Refusal → Bool
gives a r = same_list (values_of a) (values_of (Refused r))

abbrev pub holds : Example → Bool
holds e = gives (checked e.stated e.texts e.solution e.tables (replicate e.choices 0)).answer e.given

-- an example of a number
abbrev pub Maker : Type 0
Maker = ℕ → Example

-- the worked example with other texts, and where the fault lies
abbrev example : (t p c s : List ℕ) → (file place : ℕ) → Maker
example t p c s file place n =
    record {
      stated = caller;
      texts = record { timetable = t; profiles = p; constraints = c };
      solution = s;
      tables = lent;
      choices = choices;
      given = refusal n file place;
    }

-- with another H, or another edition
abbrev stating : (Stated → Stated) → Maker → Maker
stating other m n =
    record { stated = other (m n).stated; texts = (m n).texts; solution = (m n).solution; tables = (m n).tables; choices = (m n).choices; given = (m n).given }

abbrev at_horizon : ℕ → Maker → Maker
at_horizon H = stating (λ s. stated H s.edition)

abbrev in_edition : ℕ → Maker → Maker
in_edition E = stating (λ s. stated s.horizon E)

-- with other room
abbrev lending : Tables → ℕ → Maker → Maker
lending t k m n = record { stated = (m n).stated; texts = (m n).texts; solution = (m n).solution; tables = t; choices = k; given = (m n).given }

-- ---- the text at fault is cut where the fault starts

abbrev timetable_cut : (before after : List ℕ) → Maker
timetable_cut before after = example (before ++ after) profiles constraints draft timetable_file (length before)

abbrev profiles_cut : (before after : List ℕ) → Maker
profiles_cut before after = example draft (before ++ after) constraints draft profiles_file (length before)

abbrev constraints_cut : (before after : List ℕ) → Maker
constraints_cut before after = example draft profiles (before ++ after) draft constraints_file (length before)

abbrev solution_cut : (before after : List ℕ) → Maker
solution_cut before after = example draft profiles constraints (before ++ after) solution_file (length before)

-- rows below the header
abbrev legs : (before after : String) → Maker
legs before after = timetable_cut (timetable_header ++ bytes before) (bytes after)

abbrev curves : (before after : String) → Maker
curves before after = profiles_cut (profiles_header ++ bytes before) (bytes after)

abbrev chosen : (before after : String) → Maker
chosen before after = solution_cut (timetable_header ++ bytes before) (bytes after)

-- constraints.json from its first byte, or from the first record of a list on
abbrev json : (before after : String) → Maker
json before after = constraints_cut (bytes before) (bytes after)

abbrev dwells : (before after : String) → Maker
dwells before after = constraints_cut (bytes "{\"dwell_time_constraints\": [" ++ bytes before) (bytes after)

abbrev turnarounds : (before after : String) → Maker
turnarounds before after = constraints_cut (bytes "{\"terminal_turnaround_constraints\": [" ++ bytes before) (bytes after)

abbrev connections : (before after : String) → Maker
connections before after = constraints_cut (bytes "{\"connection_constraints\": [" ++ bytes before) (bytes after)

abbrev subnets : (before after : String) → Maker
subnets before after = constraints_cut (bytes "{\"recuperation_subnets\": [" ++ bytes before) (bytes after)

-- ---- 1: H out of range, before all texts

abbrev horizons : List Maker
horizons =
    at_horizon (least_horizon - 1) (example draft profiles constraints draft no_file 0)
    ∷ at_horizon (most_horizon + 1) (example draft profiles constraints draft no_file 0)
    ∷ at_horizon (least_horizon - 1) (example [] [] [] [] no_file 0)
    -- 1 before 21
    ∷ at_horizon (least_horizon - 1) (in_edition 3 (example [] [] [] [] no_file 0))
    ∷ []

-- ---- 21: an edition that is not known

abbrev editions : List Maker
editions =
    in_edition 0 (example draft profiles constraints draft no_file 0)
    ∷ in_edition 3 (example draft profiles constraints draft no_file 0)
    ∷ in_edition 3 (example [] [] [] [] no_file 0)
    ∷ []

-- ---- 3: header differs

abbrev byte_order_mark : List ℕ
byte_order_mark = 239 ∷ 187 ∷ 191 ∷ []

abbrev headers : List Maker
headers =
    timetable_cut [] []
    ∷ timetable_cut [] (bytes "leg_id,train_id,track_id,start_station_id,end_station_id,nominal_departure_configuration,departure_configurations")
    ∷ timetable_cut [] (byte_order_mark ++ draft)
    ∷ profiles_cut [] (bytes "profile_id,power_consumptions\r\r\n")
    ∷ solution_cut [] profiles
    ∷ []

-- ---- 4: CSV row breaks its form

abbrev forms : List Maker
forms =
    legs "" "1,1,1,1,2,10_4_7,10_4_7 15_4_7"
    ∷ legs first_row "\n2,1,2,2,3,40_3_8,40_3_8 45_3_8\n"
    ∷ legs "1,1,1,1,2,10_4_7,10_4_7 15_4_7\n2,1,2,2,3,40_3_8,40_3_8 45_3_8\n" "\n"
    ∷ legs "" "007,1,1,1,2,10_4_7,10_4_7 15_4_7\n"
    ∷ legs "" "1,1,1,1,2,10_4_7,10_4_7  15_4_7\n"
    ∷ legs "" "1,1,1,1,2,10_4_7,10_4_7 15_4_7 \n"
    ∷ legs "" "1,1,1,1,2,10_4_7,\n"
    ∷ legs "" "1,1,1,1,2,10_4_7\n"
    ∷ legs "" "1,1,1,1,2,10_4,10_4\n"
    ∷ legs "" "1,1,1,1,2,10_4_7,10_4_7,15_4_7\n"
    ∷ legs "" "1,1,1,1,2,10_4_7,10_4_7 15_4_7\r\r\n"
    ∷ legs "" "1,1,1,1,-2,10_4_7,10_4_7 15_4_7\n"
    -- the timetable comes before the other texts
    ∷ example (timetable_header ++ bytes "1\n") [] [] [] timetable_file (length timetable_header)
    ∷ curves "" "7,\n"
    ∷ curves "" "7,0.5000\n"
    ∷ curves "" "7,5\n"
    ∷ curves "" "7,.5\n"
    ∷ curves "" "7,5.\n"
    ∷ curves "" "7,+1.0\n"
    ∷ curves "" "7,00.5\n"
    ∷ curves first_profile "8,0.3,0.0\n"
    ∷ chosen first_row "2,1,2,2,3,40_3_8,40_3_8 45_3_8"
    -- a solution is read whole before its columns are compared
    ∷ chosen "1,1,1,1,9,10_4_7,10_4_7 15_4_7\n" "2,1,2,2,3,40_3_8\n"
    ∷ []

-- ---- 5: number out of range, or departure plus travel past H

abbrev ranges : List Maker
ranges =
    legs "" "1,1,1,1,1000000000,10_4_7,10_4_7\n"
    ∷ legs "" "1,1,1,1,1234567890123456789012345678901234567890,10_4_7,10_4_7\n"
    ∷ at_horizon 4_000 (legs "" "1,1,1,1,2,10_3601_7,10_3601_7\n")
    ∷ legs "" "1,1,1,1,2,10_0_7,10_0_7\n"
    ∷ legs first_row "2,1,2,2,3,40_3_8,40_3_8 98_3_8\n"
    -- 5 before 8
    ∷ legs "" "1,1,1,1,2,97_4_7,10_4_7\n"
    ∷ curves "" "7,20.001\n"
    ∷ curves "" "7,-20.001\n"
    ∷ curves "" "1000000000,0.5\n"
    ∷ dwells "{\"min_dwell_time\": " "86401}"
    -- a run that the text's end closes is a whole token; 5 before 12
    ∷ dwells "{\"min_dwell_time\": " "86401"
    ∷ dwells "{\"first_leg_id\": " "1000000000}"
    ∷ subnets "{\"subnet_id\": " "1000000000}"
    ∷ subnets "{\"track_ids\": [1, " "1000000000]}"
    ∷ chosen "" "1,1,1,1,2,97_4_7,97_4_7\n"
    ∷ []

-- ---- 6: a count limit is passed

-- so many entries of one list
abbrev entries : ℕ → String → List ℕ
entries n s = joined space (replicate n (bytes s))

abbrev subnet : ℕ → List ℕ
subnet id = bytes "{\"subnet_id\": " ++ spelled id ++ bytes ", \"track_ids\": []}, "

abbrev eight_subnets : List ℕ
eight_subnets = flat subnet (1 ∷ 2 ∷ 3 ∷ 4 ∷ 5 ∷ 6 ∷ 7 ∷ 8 ∷ [])

abbrev counts : List Maker
counts =
    timetable_cut timetable_header (bytes "1,1,1,1,2,10_4_7," ++ entries (most_listed + 1) "10_4_7" ++ bytes "\n")
    ∷ solution_cut timetable_header (bytes "1,1,1,1,2,10_4_7," ++ entries (most_listed + 1) "10_4_7" ++ bytes "\n")
    ∷ profiles_cut profiles_header (bytes "7," ++ entries (most_sampled + 1) "0.0" ++ bytes "\n")
    ∷ constraints_cut (bytes "{\"recuperation_subnets\": [" ++ eight_subnets) (bytes "{\"zzz\": 1}")
    ∷ []

-- ---- 7: id already seen; a track listed twice in any subnets

abbrev repeats : List Maker
repeats =
    -- 7 before 8
    legs second_row "2,2,2,2,3,40_3_8,45_3_8\n"
    ∷ curves first_profile "7,0.5\n"
    ∷ subnets "{\"track_ids\": [1, 2, " "1]}"
    ∷ subnets "{\"track_ids\": [1, 2], \"subnet_id\": 1}, {\"subnet_id\": 2, \"track_ids\": [" "2]}"
    ∷ subnets "{\"track_ids\": [1, 2], \"subnet_id\": 1}, {\"subnet_id\": " "1}"
    ∷ chosen first_row "1,1,2,2,3,40_3_8,40_3_8 45_3_8\n"
    ∷ []

-- ---- 8: nominal not in its list

abbrev nominals : List Maker
nominals =
    legs "" "1,1,1,1,2,10_4_7,15_4_7\n"
    ∷ chosen first_row "2,1,2,2,3,40_3_8,45_3_8\n"
    ∷ []

-- ---- 9: JSON form broken, or a value of the wrong type

abbrev broken : List Maker
broken =
    json "" ""
    ∷ json " \n" ""
    ∷ json "{" ""
    ∷ json "" "[]"
    ∷ constraints_cut [] (byte_order_mark ++ constraints)
    ∷ constraints_cut constraints (bytes "}")
    ∷ constraints_cut constraints (bytes "\"zzz")
    -- an unfinished name is not yet unknown, and a forbidden byte is at fault at its quote, even if unclosed
    ∷ json "{\"zzz" ""
    ∷ json "{" "\"dwell\\u005ftime\": []"
    ∷ json "{" "\"zzz\n"
    -- what may not stand there
    ∷ json "{\"dwell_time_constraints\"" ", "
    ∷ json "{\"dwell_time_constraints\": " "20"
    ∷ json "{\"dwell_time_constraints\": [], " "}"
    ∷ dwells "" "1]"
    ∷ dwells "" "\"zzz"
    ∷ dwells "{\"first_leg_id\": 1, " "}"
    ∷ dwells "{\"first_leg_id\": 1 " "\"second_leg_id\": 2}"
    -- one run each
    ∷ dwells "{\"min_dwell_time\": " "-1}"
    ∷ dwells "{\"min_dwell_time\": " "1.0}"
    ∷ dwells "{\"min_dwell_time\": " "1e3}"
    ∷ dwells "{\"min_dwell_time\": " "007}"
    ∷ dwells "{\"min_dwell_time\": " "12abc}"
    ∷ dwells "{\"min_dwell_time\": " "true}"
    -- a value of the wrong type; an unclosed string is at fault at the text's end only where a string may stand
    ∷ dwells "{\"min_dwell_time\": " "\"20\"}"
    ∷ dwells "{\"min_dwell_time\": " "\"20"
    ∷ dwells "{\"min_dwell_time\": " "[20]}"
    ∷ connections "{\"connection_type\": " "1}"
    ∷ connections "{\"connection_type\": \"arr" ""
    ∷ connections "{\"connection_type\": " "\"arr\\"
    ∷ subnets "{\"track_ids\": " "1}"
    ∷ subnets "{\"track_ids\": [1, " "]}"
    -- past a count limit too
    ∷ constraints_cut (bytes "{\"recuperation_subnets\": [" ++ eight_subnets) (bytes "1]")
    -- the constraints come before the solution
    ∷ example draft profiles [] [] constraints_file 0
    ∷ []

-- ---- 10: unknown list, key or connection type

abbrev unknowns : List Maker
unknowns =
    json "{" "\"headway_constraints\": []}"
    ∷ dwells "{" "\"leg_id\": 1}"
    ∷ dwells "{" "\"min_headway_time\": 1}"
    ∷ dwells "{" "\"track_ids\": []}"
    ∷ turnarounds "{" "\"min_dwell_time\": 1}"
    ∷ in_edition table_edition (turnarounds "{" "\"min_turnaround_time\": 1}")
    ∷ connections "{\"connection_type\": " "\"arrival_to_arrival\"}"
    ∷ []

-- ---- 11: list or key repeated, or missing

abbrev missing : List Maker
missing =
    json "{" "}"
    ∷ json "{\"dwell_time_constraints\": [], \"recuperation_subnets\": []" "}"
    ∷ json "{\"dwell_time_constraints\": [], " "\"dwell_time_constraints\": []}"
    ∷ dwells "{\"first_leg_id\": 1, \"second_leg_id\": 2" "}"
    ∷ dwells "{" "}"
    ∷ dwells "{\"first_leg_id\": 1, " "\"first_leg_id\": 1}"
    ∷ []

-- ---- 12: leg or profile does not exist, in every entry of a list; 12 before 13 within a row

abbrev absent : List Maker
absent =
    legs "" "1,1,1,1,2,10_4_7,10_4_7 15_4_9\n"
    ∷ legs "" "1,1,1,1,2,10_3_7,10_3_7 15_4_9\n"
    -- before the constraints and the solution
    ∷ example draft profiles_header [] [] timetable_file (length timetable_header)
    ∷ dwells "{\"first_leg_id\": 1, \"second_leg_id\": " "3}"
    ∷ []

-- ---- 13: profile's sample count is not t

abbrev lengths : List Maker
lengths = legs first_row "2,1,2,2,3,40_3_8,40_3_8 45_4_8\n" ∷ []

-- ---- 14: solution's first five columns differ from the draft's, row by row, or the row count does

abbrev differing : List Maker
differing =
    chosen first_row "2,1,2,2,4,40_3_8,40_3_8 45_3_8\n"
    ∷ chosen first_row ""
    ∷ lending lent (3 * configuration_width) (chosen "1,1,1,1,2,10_4_7,10_4_7\n2,1,2,2,3,40_3_8,40_3_8\n" "3,1,2,2,3,40_3_8,40_3_8\n")
    ∷ []

-- ---- 15: a leg's track is in no subnet

abbrev one_track : List ℕ
one_track =
    bytes "{\"headway_time_constraints\": [], \"single_track_headway_constraints\": [], \"dwell_time_constraints\": [], "
    ++ bytes "\"terminal_turnaround_constraints\": [], \"connection_constraints\": [], "
    ++ bytes "\"recuperation_subnets\": [{\"subnet_id\": 1, \"track_ids\": [1]}]}\n"

abbrev tracks : List Maker
tracks = example draft profiles one_track draft timetable_file 145 ∷ example draft profiles one_track [] timetable_file 145 ∷ []

-- ---- 16: lent room too short, by one number of each table

abbrev rooms : List Maker
rooms =
    lending (lacking 1 0 0 0 0 0) choices (legs first_row second_row)
    ∷ lending (lacking 0 1 0 0 0 0) choices (legs first_row second_row)
    ∷ lending (lacking 0 0 1 0 0 0) choices (curves first_profile second_profile)
    ∷ lending (lacking 0 0 0 1 0 0) choices (curves first_profile second_profile)
    ∷ lending (lacking 0 0 0 0 1 0) choices (dwells "" "{\"zzz\": 1}")
    ∷ lending (lacking 0 0 0 0 0 1) choices (subnets "{\"track_ids\": [1, " "2]}")
    ∷ lending lent (choices - 1) (chosen first_row second_row)
    -- 16 before 14
    ∷ chosen "1,1,1,1,2,10_4_7,10_4_7\n2,1,2,2,3,40_3_8,40_3_8\n" "3,1,2,2,3,40_3_8,40_3_8\n"
    ∷ []

-- ---- a second solution: as the first's, 17, and 16 of the text buffer

pub record MergeExample : Type 0 where
  pub texts : Texts
  pub first : List ℕ
  pub second : List ℕ
  pub choices : ℕ
  pub text : ℕ
  pub given : Refusal

abbrev pub Merge : Type 0
Merge = List Configuration → List Configuration → List Configuration

abbrev pub merge_holds : Merge → MergeExample → Bool
merge_holds merge e =
    gives
    (merged merge caller e.texts e.first e.second lent (replicate choices 0) (replicate e.choices 0) (replicate e.text 0)).answer
    e.given

abbrev pub MergeMaker : Type 0
MergeMaker = ℕ → MergeExample

-- room for the second solution's choices and for the text, and where the fault lies
abbrev merge_example : Texts → (first second : List ℕ) → (choices text file place : ℕ) → MergeMaker
merge_example x first second c text file place n =
    record { texts = x; first = first; second = second; choices = c; text = text; given = refusal n file place }

abbrev second_cut : (before after : List ℕ) → MergeMaker
second_cut before after = merge_example worked draft (before ++ after) choices (length draft) second_file (length before)

abbrev second : (before after : String) → MergeMaker
second before after = second_cut (timetable_header ++ bytes before) (bytes after)

-- leg 2 is offered with two travel times
abbrev two_travels : List ℕ
two_travels = timetable_header ++ (bytes first_row ++ bytes "2,1,2,2,3,40_3_8,40_3_8 45_4_7\n")

abbrev travels : List MergeMaker
travels =
    merge_example (record { timetable = two_travels; profiles = profiles; constraints = constraints }) two_travels
    (timetable_header ++ (bytes first_row ++ bytes "2,1,2,2,3,45_4_7,40_3_8 45_4_7\n"))
    choices
    (length two_travels)
    second_file
    145
    ∷ []

abbrev merge_rooms : List MergeMaker
merge_rooms =
    merge_example worked draft draft (choices - 1) (length draft) second_file 145
    ∷ merge_example worked draft draft choices (length draft - 1) no_file 0
    ∷ []

-- ---- energy: 16 of the curves, a number for each second of the one subnet

abbrev curves_short : Bool
curves_short =
    gives (reported caller worked draft lent (replicate choices 0) (replicate (horizon - 1) (pos 0))).answer (refusal no_room no_file 0)

-- ---- THE TABLE: the numbers with their examples

pub record Numbered (E : Type 0) : Type 0 where
  pub number : ℕ
  pub makers : List (ℕ → E)

infix 70 ◌given_by◌
abbrev pub ◌given_by◌ : {E : Type 0} → ℕ → List (ℕ → E) → Numbered E
◌given_by◌ n ms = record { number = n; makers = ms }

abbrev pub numbers : List (Numbered Example)
numbers =
    bad_horizon given_by horizons
    ∷ bad_header given_by headers
    ∷ bad_row given_by forms
    ∷ out_of_range given_by ranges
    ∷ too_many given_by counts
    ∷ already_seen given_by repeats
    ∷ nominal_not_listed given_by nominals
    ∷ bad_json given_by broken
    ∷ unknown_name given_by unknowns
    ∷ repeated_or_missing given_by missing
    ∷ not_there given_by absent
    ∷ wrong_samples given_by lengths
    ∷ differs given_by differing
    ∷ no_subnet given_by tracks
    ∷ no_room given_by rooms
    ∷ unknown_edition given_by editions
    ∷ []

abbrev pub merge_numbers : List (Numbered MergeExample)
merge_numbers =
    bad_header given_by (second_cut [] [] ∷ [])
    ∷ bad_row given_by (second first_row "2,1,2,2,3,40_3_8,40_3_8 45_3_8" ∷ [])
    ∷ out_of_range given_by (second first_row "2,1,2,2,3,98_3_8,98_3_8\n" ∷ [])
    ∷ too_many given_by (second_cut timetable_header (bytes "1,1,1,1,2,10_4_7," ++ entries (most_listed + 1) "10_4_7" ++ bytes "\n") ∷ [])
    ∷ already_seen given_by (second first_row "1,1,2,2,3,40_3_8,40_3_8\n" ∷ [])
    ∷ nominal_not_listed given_by (second first_row "2,1,2,2,3,40_3_8,45_3_8\n" ∷ [])
    ∷ differs given_by (second first_row "2,1,2,2,4,40_3_8,40_3_8\n" ∷ second first_row "" ∷ [])
    ∷ no_room given_by merge_rooms
    ∷ unequal_travel given_by travels
    ∷ []

abbrev pub all_hold : {E : Type 0} → (E → Bool) → Numbered E → Bool
all_hold test l = every (λ m. test (m l.number)) l.makers

-- the worked example itself is accepted, with no number of room to spare
pub worked-is_accepted : (checked caller worked draft lent (replicate choices 0)).answer ≡ Accepted
unfolding computed
worked-is_accepted = refl

pub worked_is_merged : (merged earlier caller worked draft draft lent (replicate choices 0) (replicate choices 0) (replicate (length draft) 0)).answer ≡ Accepted
unfolding computed
worked_is_merged = refl

pub worked_is_reported : (reported caller worked draft lent (replicate choices 0) (replicate horizon (pos 0))).answer ≡ Accepted
unfolding computed
worked_is_reported = refl

-- every example gives its number, file and place: in a check, in both merges, in a report
pub numbers_are_given : (every (all_hold holds) numbers && (every (all_hold (merge_holds earlier)) merge_numbers && (every (all_hold (merge_holds later)) merge_numbers && curves_short))) ≡ true
unfolding computed
numbers_are_given = refl

-- ---- each case of specs/Cases.antt is among the examples; 2 is a law for every text

abbrev refusals_in : {E : Type 0} → (E → Refusal) → List (Numbered E) → List Refusal
refusals_in given lines = flat (λ l. map (λ m. given (m l.number)) l.makers) lines

abbrev shown : List Refusal → Line → Bool
shown rs l = every (λ n. eqb n too_long || any (λ r. eqb r.number n && eqb r.file l.file) rs) (l.at_start ++ l.inside)

abbrev check_shown : Bool
check_shown = every (shown (refusals_in (λ (e : Example). e.given) numbers)) check_cases

abbrev merge_shown : Bool
merge_shown = every (shown (refusals_in (λ (e : MergeExample). e.given) merge_numbers)) (room_line ∷ travel_line ∷ solution_line second_file ∷ [])

-- each number of each file has a text that gives it
pub cases_are_given : (check_shown && merge_shown) ≡ true
cases_are_given = refl
