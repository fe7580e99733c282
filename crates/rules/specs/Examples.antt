-- The examples of document 01 ("Examples to hold the definitions to"). The marked ones stand in one table with one statement, from texts to answers, and the checker
-- computes them in ../proofs/Examples.antt; then come the unmarked ones, and one for each error that document 01 says tempts.
use Rattle.std.specs.Prelude.{ℕ, ◌-◌, ◌*◌, ◌^◌, ◌≡◌, Bool, true, false, List, [], ◌∷◌, ◌++◌, replicate, length, ℤ, pos}
use Prim.Native.String.{String}
use Rattle.rules.specs.Limits.{constraint_width}
use Rattle.rules.specs.Answers.{refusal, violation, bad_horizon, bad_header, bad_row, out_of_range, unknown_name, no_subnet, no_room, unknown_edition, no_file, timetable_file, profiles_file, constraints_file, solution_file}
use Rattle.rules.specs.Bytes.{bytes, joined, comma}
use Rattle.rules.specs.Timetable.{timetable_header, configuration, in_range}
use Rattle.rules.specs.Profiles.{profiles_header}
use Rattle.rules.specs.Kinds.{not_offered, headway, dwell, turnaround, connection, table_edition, example_edition}
use Rattle.rules.specs.Stated.{stated}
use Rattle.rules.specs.Reading.{Texts}
use Rattle.rules.specs.Merge.{earlier, later}
use Rattle.rules.specs.Entries.{Tables, checked, reported, merged}
use Rattle.rules.specs.declared.stated.Stated.{Stated}
use Rattle.rules.specs.declared.sizes.Configuration.{Configuration}
use Rattle.rules.specs.declared.figures.Peaks.{Peaks}
use Rattle.rules.specs.declared.figures.Figures.{Figures}
use Rattle.rules.specs.declared.answers.Tally.{Tally}
use Rattle.rules.specs.declared.answers.Answer.{Answer}
use Rattle.rules.specs.declared.answers.Answer.TheVariants.{Accepted, Violated, Refused}

-- ---- the texts of document 01's example

-- H is 100, and the edition document 01's
abbrev pub S : Stated
S = stated 100 example_edition

abbrev pub rows : String → List ℕ
rows s = timetable_header ++ bytes s

abbrev pub draft : List ℕ
draft = rows "1,1,1,1,2,10_4_7,10_4_7 15_4_7\n2,1,2,2,3,40_3_8,40_3_8 45_3_8\n"

abbrev pub curves : String → List ℕ
curves s = profiles_header ++ bytes s

abbrev pub profiles : List ℕ
profiles = curves "7,0.5 1.0 0.25 -0.4\n8,0.3 0.0 -0.2\n"

-- a list by its name, and a document of lists
abbrev pub list : (name records : String) → List ℕ
list name records = bytes "\"" ++ bytes name ++ bytes "\": [" ++ bytes records ++ bytes "]"

abbrev pub object : List (List ℕ) → List ℕ
object lists = bytes "{" ++ joined comma lists ++ bytes "}\n"

-- headways, dwells, connections and subnets are given; the other lists are empty
abbrev pub listed : (headways dwells connections subnets : String) → List ℕ
listed headways dwells connections subnets =
    object
    (list "headway_time_constraints" headways
    ∷ list "single_track_headway_constraints" ""
    ∷ list "dwell_time_constraints" dwells
    ∷ list "terminal_turnaround_constraints" ""
    ∷ list "connection_constraints" connections
    ∷ list "recuperation_subnets" subnets
    ∷ [])

abbrev pub document : (dwells subnets : String) → List ℕ
document dwells subnets = listed "" dwells "" subnets

abbrev pub one_subnet : String
one_subnet = "{\"subnet_id\": 1, \"track_ids\": [1, 2]}"

abbrev pub two_subnets : String
two_subnets = "{\"subnet_id\": 1, \"track_ids\": [1]}, {\"subnet_id\": 2, \"track_ids\": [2]}"

abbrev pub dwell20 : List ℕ
dwell20 = document "{\"first_leg_id\": 1, \"second_leg_id\": 2, \"min_dwell_time\": 20}" one_subnet

abbrev pub dwell21 : List ℕ
dwell21 = document "{\"first_leg_id\": 1, \"second_leg_id\": 2, \"min_dwell_time\": 21}" one_subnet

abbrev pub dwell22 : List ℕ
dwell22 = document "{\"first_leg_id\": 1, \"second_leg_id\": 2, \"min_dwell_time\": 22}" one_subnet

-- leg 2 offered at 13 too, and chosen there
abbrev pub draft13 : List ℕ
draft13 = rows "1,1,1,1,2,10_4_7,10_4_7 15_4_7\n2,1,2,2,3,13_3_8,40_3_8 13_3_8\n"

abbrev pub solution15 : List ℕ
solution15 = rows "1,1,1,1,2,15_4_7,10_4_7 15_4_7\n2,1,2,2,3,40_3_8,40_3_8 45_3_8\n"

abbrev pub solution45 : List ℕ
solution45 = rows "1,1,1,1,2,10_4_7,10_4_7 15_4_7\n2,1,2,2,3,45_3_8,40_3_8 45_3_8\n"

abbrev pub both_later : List ℕ
both_later = rows "1,1,1,1,2,15_4_7,10_4_7 15_4_7\n2,1,2,2,3,45_3_8,40_3_8 45_3_8\n"

-- 12 for leg 2, listed in the solution alone
abbrev pub solution12 : List ℕ
solution12 = rows "1,1,1,1,2,10_4_7,10_4_7 15_4_7\n2,1,2,2,3,12_3_8,40_3_8 12_3_8\n"

-- ---- lent tables, with room to spare, that hold nines

abbrev pub lent_for : (constraints : ℕ) → Tables
lent_for constraints =
    record {
      legs = replicate 24 9;
      configurations = replicate 18 9;
      profiles = replicate 9 9;
      samples = replicate 9 (pos 9);
      constraints = replicate (constraints * constraint_width) 9;
      tracks = replicate 6 9;
    }

abbrev pub lent : Tables
lent = lent_for 3

abbrev pub lent_choices : List ℕ
lent_choices = replicate 9 9

abbrev pub texts : (timetable profiles constraints : List ℕ) → Texts
texts t p c = record { timetable = t; profiles = p; constraints = c }

abbrev pub answer : (timetable profiles constraints solution : List ℕ) → Answer
answer t p c s = (checked S (texts t p c) s lent lent_choices).answer

abbrev pub figures : (timetable constraints solution : List ℕ) → Figures
figures t c s = (reported S (texts t profiles c) s lent lent_choices (replicate 200 (pos 9))).figures

-- a merged text in a buffer that is just as long
abbrev pub merged_text : (merge : List Configuration → List Configuration → List Configuration) → List ℕ
merged_text merge = (merged merge S (texts draft profiles dwell20) solution15 solution45 lent lent_choices lent_choices (replicate (length draft) 0)).text

-- with room for a constraint of each kind
abbrev pub tally : (timetable constraints solution : List ℕ) → Tally
tally t c s = (checked S (texts t profiles c) s (lent_for 5) lent_choices).tally

-- ---- THE TABLE

pub data Example : Type 0 where
  answers : (timetable profiles constraints solution : List ℕ) → Answer → Example
  draws : (timetable constraints solution : List ℕ) → (before drawn lost : ℕ) (fluctuation : ℤ) (peaks : Peaks) → Example
  merges : (merge : List Configuration → List Configuration → List Configuration) → (departures : List Configuration) (text : List ℕ) → Example
  ranges : Configuration → Bool → Example
  states : Stated → (timetable constraints : List ℕ) → Answer → Example
  counts : (timetable constraints solution : List ℕ) → (kinds : List ℕ) (total : ℕ) → Example
  report_counts : (curves : ℕ) → (kinds : List ℕ) (total : ℕ) → Example
  merge_counts : (constraints first second : List ℕ) → (kinds : List ℕ) (total : ℕ) → Example

-- the choices of document 01's A and B
abbrev pub A : List Configuration
A = configuration 15 4 7 ∷ configuration 40 3 8 ∷ []

abbrev pub B : List Configuration
B = configuration 10 4 7 ∷ configuration 45 3 8 ∷ []

abbrev pub Right : Example → Type 0
Right (answers t p c s a) = answer t p c s ≡ a
Right (draws t c s before drawn lost fluctuation peaks) =
    figures t c s ≡ record { before = before; drawn = drawn; lost = lost; fluctuation = fluctuation; peaks = peaks }
Right (merges merge departures text) = (merge A B ≡ departures) × (merged_text merge ≡ text)
Right (ranges c b) = in_range 4_000 c ≡ b
Right (states stated t c a) = (checked stated (texts t profiles c) draft lent lent_choices).answer ≡ a
Right (counts t c s kinds total) = tally t c s ≡ record { kinds = kinds; total = total }
Right (report_counts n kinds total) =
    (reported S (texts draft profiles dwell20) draft lent lent_choices (replicate n (pos 9))).tally ≡ record { kinds = kinds; total = total }
Right (merge_counts c a b kinds total) =
    (merged earlier S (texts draft profiles c) a b lent lent_choices lent_choices (replicate (length draft) 0)).tally ≡ record { kinds = kinds; total = total }

-- both peaks in the only quarter
abbrev pub in_first : (before drawn : ℕ) → Peaks
in_first before drawn = record { before = record { kj = before; quarter = 0 }; drawn = record { kj = drawn; quarter = 0 } }

abbrev pub marked : List Example
marked =
    -- Nominal: accepted; before 2,050, drawn 2,050, lost 600, fluctuation 1,400, peaks 2,050
    answers draft profiles dwell20 draft Accepted
    ∷ draws draft dwell20 draft 2_050 2_050 600 (pos 1_400) (in_first 2_050 2_050)
    -- Departures 15, 40: accepted; the same with dwell 21; with dwell 22: kind 3, position 0, inequality 1, shortfall 1
    ∷ answers draft profiles dwell20 solution15 Accepted
    ∷ answers draft profiles dwell21 solution15 Accepted
    ∷ answers draft profiles dwell22 solution15 (Violated (violation dwell 0 1 1 solution_file))
    -- 12 for leg 2, listed in the solution alone: kind 0, position 1
    ∷ answers draft profiles dwell20 solution12 (Violated (violation not_offered 1 0 0 solution_file))
    -- A 15, 40 and B 10, 45: earlier 10, 40; later 15, 45. Earlier, whole: the header line and the two draft rows, each with LF
    ∷ merges earlier (configuration 10 4 7 ∷ configuration 40 3 8 ∷ []) draft
    ∷ merges later (configuration 15 4 7 ∷ configuration 45 3 8 ∷ []) both_later
    -- No dwell, leg 2 offered at 13: drawn 1,750, lost 300. Tracks in two subnets: 2,050 and 600
    ∷ draws draft13 (document "" one_subnet) draft13 2_050 1_750 300 (pos 1_200) (in_first 2_050 1_750)
    ∷ draws draft13 (document "" two_subnets) draft13 2_050 2_050 600 (pos 1_200) (in_first 2_050 2_050)
    -- `20.000` read, `20.001` refused 5
    ∷ answers draft (curves "7,0.5 1.0 0.25 20.000\n8,0.3 0.0 -0.2\n") dwell20 draft Accepted
    ∷ answers draft (curves "7,0.5 1.0 0.25 20.001\n8,0.3 0.0 -0.2\n") dwell20 draft (Refused (refusal out_of_range profiles_file 30))
    -- Travel 3,600 in range, 3,601 not
    ∷ ranges (configuration 0 3_600 7) true
    ∷ ranges (configuration 0 3_601 7) false
    ∷ []

-- ---- the unmarked ones, and what tempts

abbrev pub dwell_twice : String
dwell_twice = "{\"first_leg_id\": 1, \"second_leg_id\": 2, \"min_dwell_time\": 20}, {\"second_leg_id\": 2, \"min_dwell_time\": 27, \"first_leg_id\": 1}"

abbrev pub headway3 : String
headway3 = "{\"first_leg_id\": 1, \"second_leg_id\": 2, \"min_headway_time\": 3}"

abbrev pub headway31 : String
headway31 = "{\"first_leg_id\": 1, \"second_leg_id\": 2, \"min_headway_time\": 31}"

-- the dwells first in the file, then the headways, with the subnets between
abbrev pub other_order : List ℕ
other_order =
    object
    (list "dwell_time_constraints" dwell_twice
    ∷ list "recuperation_subnets" one_subnet
    ∷ list "headway_time_constraints" headway31
    ∷ list "connection_constraints" ""
    ∷ list "terminal_turnaround_constraints" ""
    ∷ list "single_track_headway_constraints" ""
    ∷ [])

-- 25 seconds after the arrival at 14, 29 after the departure at 10, and a type that nobody knows
abbrev pub by_arrivals : String
by_arrivals = "{\"first_leg_id\": 1, \"second_leg_id\": 2, \"min_connection_time\": 5, \"max_connection_time\": 25, \"connection_type\": \"arrival_to_departure\"}"

abbrev pub by_departures : String
by_departures = "{\"first_leg_id\": 1, \"second_leg_id\": 2, \"min_connection_time\": 5, \"max_connection_time\": 29, \"connection_type\": \"departure_to_departure\"}"

abbrev pub unknown_type : String
unknown_type = "{\"first_leg_id\": 1, \"second_leg_id\": 2, \"min_connection_time\": 5, \"max_connection_time\": 25, \"connection_type\": \"arrival_to_arrival\"}"

abbrev pub unmarked : List Example
unmarked =
    -- Type `arrival_to_arrival`: 10
    answers draft profiles (listed "" "" unknown_type one_subnet) draft (Refused (refusal unknown_name constraints_file 277))
    -- Empty timetable: 3. Track 2 in no subnet: 15, file 1, place 145
    ∷ answers [] profiles dwell20 draft (Refused (refusal bad_header timetable_file 0))
    ∷ answers draft profiles (document "" "{\"subnet_id\": 1, \"track_ids\": [1]}") draft (Refused (refusal no_subnet timetable_file 145))
    -- the first of two records holds, the second does not
    ∷ answers draft profiles (document dwell_twice one_subnet) draft (Violated (violation dwell 1 1 1 solution_file))
    -- the first list holds, a later one does not
    ∷ answers draft profiles (listed headway3 dwell_twice "" one_subnet) draft (Violated (violation dwell 1 1 1 solution_file))
    -- a headway that holds at the departures and fails at the arrivals
    ∷ answers draft13 profiles (listed headway3 "" "" one_subnet) draft13 (Violated (violation headway 0 2 1 solution_file))
    -- connections: the greatest seconds, from the arrival and from the departure
    ∷ answers draft profiles (listed "" "" by_arrivals one_subnet) draft (Violated (violation connection 0 2 1 solution_file))
    ∷ answers draft profiles (listed "" "" by_departures one_subnet) draft (Violated (violation connection 0 2 1 solution_file))
    -- the table's order, not the file's
    ∷ answers draft profiles other_order draft (Violated (violation headway 0 1 1 solution_file))
    -- room for three constraints: the fourth finds none, though it is the first of its kind
    ∷ answers draft profiles (listed headway3 dwell_twice by_arrivals one_subnet) draft (Refused (refusal no_room constraints_file 351))
    ∷ []

-- ---- quoted fields and CR LF (document 02, E1)

-- the draft as a spreadsheet writes it: every field in quotes, every line ended by CR LF
abbrev pub quoted_header : List ℕ
quoted_header =
    bytes "\"leg_id\",\"train_id\",\"track_id\",\"start_station_id\",\"end_station_id\",\"nominal_departure_configuration\",\"departure_configurations\"\r\n"

abbrev pub quoted_draft : List ℕ
quoted_draft =
    quoted_header
    ++ bytes "\"1\",\"1\",\"1\",\"1\",\"2\",\"10_4_7\",\"10_4_7 15_4_7\"\r\n\"2\",\"1\",\"2\",\"2\",\"3\",\"40_3_8\",\"40_3_8 45_3_8\"\r\n"

abbrev pub quoted_profiles : List ℕ
quoted_profiles = bytes "profile_id,\"power_consumptions\"\n\"7\",0.5 1.0 0.25 -0.4\r\n8,\"0.3 0.0 -0.2\"\n"

-- a draft whose one row is given
abbrev one_row : String → List ℕ
one_row s = quoted_header ++ bytes s

abbrev pub quotes : List Example
quotes =
    -- a draft in quotes beside a solution without, and the other way round: contents count
    answers quoted_draft quoted_profiles dwell20 draft Accepted
    ∷ answers draft profiles dwell20 quoted_draft Accepted
    -- a row's place is its first byte, the quote: 15 at the second row
    ∷ answers quoted_draft profiles (document "" "{\"subnet_id\": 1, \"track_ids\": [1]}") draft (Refused (refusal no_subnet timetable_file 175))
    -- "still 4": quotes about a part of a field, a quote in the content, a comma in it, no closing quote, an empty content
    ∷ answers (one_row "1,1,1,1,2,10_\"4\"_7,10_4_7\n") profiles dwell20 draft (Refused (refusal bad_row timetable_file 129))
    ∷ answers (one_row "\"\"1\"\",1,1,1,2,10_4_7,10_4_7\n") profiles dwell20 draft (Refused (refusal bad_row timetable_file 129))
    ∷ answers (one_row "\"1,1\",1,1,2,10_4_7,10_4_7\n") profiles dwell20 draft (Refused (refusal bad_row timetable_file 129))
    ∷ answers (one_row "1,1,1,1,2,10_4_7,\"10_4_7\n") profiles dwell20 draft (Refused (refusal bad_row timetable_file 129))
    ∷ answers (one_row "1,\"\",1,1,2,10_4_7,10_4_7\n") profiles dwell20 draft (Refused (refusal bad_row timetable_file 129))
    -- one CR and no more, just before LF and nowhere else
    ∷ answers (one_row "1,1,1,1,2,10_4_7,10_4_7\r\r\n") profiles dwell20 draft (Refused (refusal bad_row timetable_file 129))
    ∷ answers (one_row "1,1,1,1,2,10_4_7,\"10_4_7\r\"\n") profiles dwell20 draft (Refused (refusal bad_row timetable_file 129))
    ∷ answers (one_row "1,1,1,1,2,10_4_7,10_4_7\r") profiles dwell20 draft (Refused (refusal bad_row timetable_file 129))
    -- 3: one pair of quotes about the whole line; a name cut by its quotes
    ∷ answers draft (bytes "\"profile_id,power_consumptions\"\n7,0.5 1.0 0.25 -0.4\n") dwell20 draft (Refused (refusal bad_header profiles_file 0))
    ∷ answers draft (bytes "\"profile\"_id,power_consumptions\n") dwell20 draft (Refused (refusal bad_header profiles_file 0))
    ∷ []

-- ---- two editions (document 02, E4)

-- a record of kind 3 and one of kind 4, each with the keys that follow those of its legs
abbrev pub keyed : (dwell turnaround : String) → List ℕ
keyed dwell turnaround =
    object
    (list "headway_time_constraints" ""
    ∷ list "single_track_headway_constraints" ""
    ∷ (bytes "\"dwell_time_constraints\": [{\"first_leg_id\": 1, \"second_leg_id\": 2, " ++ bytes dwell ++ bytes "}]")
    ∷ (bytes "\"terminal_turnaround_constraints\": [{\"first_leg_id\": 1, \"second_leg_id\": 2, " ++ bytes turnaround ++ bytes "}]")
    ∷ list "connection_constraints" ""
    ∷ list "recuperation_subnets" one_subnet
    ∷ [])

abbrev pub by_table : Stated
by_table = stated 100 table_edition

abbrev pub by_example : Stated
by_example = stated 100 example_edition

abbrev pub editions : List Example
editions =
    -- a turnaround of 27 seconds by the edition's own key: kind 4, position 0, inequality 1, shortfall 1
    states by_table draft (keyed "\"min_dwell_time\": 20" "\"min_dwell_time\": 27") (Violated (violation turnaround 0 1 1 solution_file))
    ∷ states by_example draft (keyed "\"min_dwell_time\": 20" "\"min_turnaround_time\": 27") (Violated (violation turnaround 0 1 1 solution_file))
    -- the other edition's key is 10 at its token
    ∷ states by_table draft (keyed "\"min_dwell_time\": 20" "\"min_turnaround_time\": 27") (Refused (refusal unknown_name constraints_file 237))
    ∷ states by_example draft (keyed "\"min_dwell_time\": 20" "\"min_dwell_time\": 27") (Refused (refusal unknown_name constraints_file 237))
    -- and so it is beside the edition's own, wherever it stands
    ∷ states by_table draft (keyed "\"min_dwell_time\": 20" "\"min_turnaround_time\": 27, \"min_dwell_time\": 27") (Refused (refusal unknown_name constraints_file 237))
    ∷ states by_table draft (keyed "\"min_dwell_time\": 20" "\"min_dwell_time\": 27, \"min_turnaround_time\": 27") (Refused (refusal unknown_name constraints_file 259))
    ∷ states by_example draft (keyed "\"min_dwell_time\": 20" "\"min_turnaround_time\": 27, \"min_dwell_time\": 27") (Refused (refusal unknown_name constraints_file 264))
    ∷ states by_example draft (keyed "\"min_dwell_time\": 20" "\"min_dwell_time\": 27, \"min_turnaround_time\": 27") (Refused (refusal unknown_name constraints_file 237))
    -- kind 3 never changes
    ∷ states by_table draft (keyed "\"min_turnaround_time\": 20" "\"min_dwell_time\": 27") (Refused (refusal unknown_name constraints_file 138))
    ∷ states by_example draft (keyed "\"min_turnaround_time\": 20" "\"min_turnaround_time\": 27") (Refused (refusal unknown_name constraints_file 138))
    -- any other edition is 21, after 1 and before every text
    ∷ states (stated 100 0) [] [] (Refused (refusal unknown_edition no_file 0))
    ∷ states (stated 100 3) [] [] (Refused (refusal unknown_edition no_file 0))
    ∷ states (stated 100 (2 ^ 32 - 1)) [] [] (Refused (refusal unknown_edition no_file 0))
    ∷ states (stated 0 3) [] [] (Refused (refusal bad_horizon no_file 0))
    ∷ []

-- ---- how much was tested (document 02, E6)

-- 12 for leg 1, listed in the solution alone
abbrev pub first_at12 : List ℕ
first_at12 = rows "1,1,1,1,2,12_4_7,12_4_7 15_4_7\n2,1,2,2,3,40_3_8,40_3_8 45_3_8\n"

-- a record of each kind, all of them met by the draft's nominal departures
abbrev pub each_kind : List ℕ
each_kind =
    object
    (list "headway_time_constraints" headway3
    ∷ list "single_track_headway_constraints" "{\"first_leg_id\": 1, \"second_leg_id\": 2}"
    ∷ list "dwell_time_constraints" "{\"first_leg_id\": 1, \"second_leg_id\": 2, \"min_dwell_time\": 20}"
    ∷ list "terminal_turnaround_constraints" "{\"first_leg_id\": 1, \"second_leg_id\": 2, \"min_turnaround_time\": 20}"
    ∷ list "connection_constraints" "{\"first_leg_id\": 1, \"second_leg_id\": 2, \"min_connection_time\": 5, \"max_connection_time\": 26, \"connection_type\": \"arrival_to_departure\"}"
    ∷ list "recuperation_subnets" one_subnet
    ∷ [])

abbrev pub countings : List Example
countings =
    -- accepted: each row's choice, two for a headway and for a connection, one for each of the others
    counts draft dwell20 solution15 (2 ∷ 0 ∷ 0 ∷ 1 ∷ 0 ∷ 0 ∷ []) 3
    ∷ counts draft each_kind draft (2 ∷ 2 ∷ 1 ∷ 1 ∷ 1 ∷ 2 ∷ []) 9
    -- a choice that is not offered is counted: one in row 0, two in row 1
    ∷ counts draft each_kind first_at12 (1 ∷ 0 ∷ 0 ∷ 0 ∷ 0 ∷ 0 ∷ []) 1
    ∷ counts draft each_kind solution12 (2 ∷ 0 ∷ 0 ∷ 0 ∷ 0 ∷ 0 ∷ []) 2
    -- so is an inequality that fails: one where it is its record's first, two where it is the second
    ∷ counts draft dwell22 solution15 (2 ∷ 0 ∷ 0 ∷ 1 ∷ 0 ∷ 0 ∷ []) 3
    ∷ counts draft (document dwell_twice one_subnet) draft (2 ∷ 0 ∷ 0 ∷ 2 ∷ 0 ∷ 0 ∷ []) 4
    ∷ counts draft other_order draft (2 ∷ 1 ∷ 0 ∷ 0 ∷ 0 ∷ 0 ∷ []) 3
    ∷ counts draft13 (listed headway3 "" "" one_subnet) draft13 (2 ∷ 2 ∷ 0 ∷ 0 ∷ 0 ∷ 0 ∷ []) 4
    ∷ counts draft (listed headway3 dwell_twice "" one_subnet) draft (2 ∷ 2 ∷ 0 ∷ 2 ∷ 0 ∷ 0 ∷ []) 6
    ∷ counts draft (listed "" "" by_arrivals one_subnet) draft (2 ∷ 0 ∷ 0 ∷ 0 ∷ 0 ∷ 2 ∷ []) 4
    -- nothing is tested of no legs and no constraints, nor of files that are refused
    ∷ counts (rows "") (document "" one_subnet) (rows "") (0 ∷ 0 ∷ 0 ∷ 0 ∷ 0 ∷ 0 ∷ []) 0
    ∷ counts [] dwell20 draft (0 ∷ 0 ∷ 0 ∷ 0 ∷ 0 ∷ 0 ∷ []) 0
    -- a report has its verdict's, unless it is refused after it: a second of the curves finds no room
    ∷ report_counts 100 (2 ∷ 0 ∷ 0 ∷ 1 ∷ 0 ∷ 0 ∷ []) 3
    ∷ report_counts 99 (0 ∷ 0 ∷ 0 ∷ 0 ∷ 0 ∷ 0 ∷ []) 0
    -- a merge has that of the verdict which it ends in: the first's, the second's; a text that is written has none
    ∷ merge_counts dwell22 solution15 draft (2 ∷ 0 ∷ 0 ∷ 1 ∷ 0 ∷ 0 ∷ []) 3
    ∷ merge_counts dwell20 draft solution12 (2 ∷ 0 ∷ 0 ∷ 0 ∷ 0 ∷ 0 ∷ []) 2
    ∷ merge_counts dwell22 draft solution15 (2 ∷ 0 ∷ 0 ∷ 1 ∷ 0 ∷ 0 ∷ []) 3
    ∷ merge_counts dwell20 solution15 solution45 (0 ∷ 0 ∷ 0 ∷ 0 ∷ 0 ∷ 0 ∷ []) 0
    ∷ []
