-- The limits of document 01's "Sizes", each at its edge and one past it. Assumes nothing.
use Rattle.std.specs.Prelude.{ℕ, ◌+◌, ◌-◌, ◌/◌, ◌≡◌, refl, true, List, [], ◌∷◌, ◌++◌, replicate, length, ℤ, pos, neg_ℤ}
use Prim.Native.String.{String}
use Rattle.rules.specs.Limits.{
  most_id,
  most_travel,
  most_seconds,
  most_listed,
  most_sampled,
  most_kw,
  most_legs,
  most_configurations,
  most_profiles,
  most_samples,
  most_constraints,
  most_tracks,
}
use Rattle.rules.specs.Lists.{flat}
use Rattle.rules.specs.Answers.{out_of_range, too_many, already_seen, no_room, Judged, wrong, right, judge, timetable_file, constraints_file}
use Rattle.rules.specs.Bytes.{bytes, spelled, joined, space, comma}
use Rattle.rules.specs.Timetable.{timetable_header, configuration, row, Row, row_tests as leg_tests}
use Rattle.rules.specs.Profiles.{profiles_header, Curve, row_tests as curve_tests}
use Rattle.rules.specs.Kinds.{example_edition, headway, subnets, track_ids}
use Rattle.rules.specs.Tokens.{token}
use Rattle.rules.specs.Constraints.{document, rules_in, state, no_entry, Turn, fault, on, finish, record_opens, track_number}
use Rattle.rules.specs.Verdict.{All}
use Rattle.rules.specs.Computed.{computed}
use Rattle.rules.specs.Stated.{stated}
use Rattle.rules.specs.Entries.{checked}
use Rattle.rules.specs.Examples.{texts, list, object}
use Rattle.rules.specs.declared.tokens.Class.TheVariants.{OpenBrace, Run}
use Rattle.rules.specs.declared.tokens.Phase.TheVariants.{FirstRecord, FirstTrack}
use Rattle.rules.specs.declared.answers.Answer.{Answer}
use Rattle.rules.specs.declared.answers.Answer.TheVariants.{Accepted}
use Rattle.rules_corners.specs.Corner.{Input, input, room_for, choices_for, check, refuses, six_lists}

-- ---- counts that are too great to be written here: the definition's tests after so many rows or records

abbrev number_of : {A : Type 0} → Judged A → ℕ
number_of (wrong n) = n
number_of (right x) = 0

abbrev turn_number : Turn → ℕ
turn_number (fault n p) = n
turn_number (on st d) = 0
turn_number (finish st d) = 0

abbrev leg : (id entries : ℕ) → Row
leg id n = row id 1 1 1 2 (configuration 10 4 7) (replicate n (configuration 10 4 7))

abbrev curve : (id samples : ℕ) → Curve
curve id n = record { id = id; samples = replicate n (pos 0) }

-- the number of a leg's row after so many rows with so many entries each
abbrev leg_after : (rows each : ℕ) → Row → ℕ
leg_after n k r = number_of (judge (leg_tests 100 (λ before one. true) (replicate n (leg 1 k)) r) r)

abbrev curve_after : (rows each : ℕ) → Curve → ℕ
curve_after n k c = number_of (judge (curve_tests (most_profiles + 1) (most_samples + 1) (replicate n (curve 7 k)) c) c)

-- the number of a record's opening brace after so many constraints, where room is lent for so many
abbrev record_after : (constraints room : ℕ) → ℕ
record_after n room =
    turn_number
    (record_opens [] room 0 (state (rules_in example_edition) FirstRecord headway 0 0 0 (no_entry 0)) (document (replicate n (no_entry headway)) [] 0 []) (token OpenBrace [] 0 1))

abbrev track_after : (tracks room id : ℕ) → ℕ
track_after n room id =
    turn_number
    (track_number [] 0 room (state (rules_in example_edition) FirstTrack subnets 0 track_ids track_ids (no_entry 0))
    (document [] (replicate n (record { id = 1; subnet = 0 })) 1 []) (token Run (spelled id) 0 1))

-- ---- texts

-- a row with an id in each of its six places
abbrev leg_row : (leg train track start end profile : ℕ) → List ℕ
leg_row a b c d e p =
    let chosen = bytes "10_4_" ++ spelled p in
    joined comma (spelled a ∷ spelled b ∷ spelled c ∷ spelled d ∷ spelled e ∷ chosen ∷ chosen ∷ []) ++ bytes "\n"

-- one row
abbrev leg_is : (leg train track start end profile : ℕ) → List ℕ
leg_is a b c d e p = timetable_header ++ leg_row a b c d e p

abbrev curve_is : (id : ℕ) → (samples : List ℕ) → List ℕ
curve_is id samples = profiles_header ++ spelled id ++ bytes "," ++ samples ++ bytes "\n"

abbrev four : List ℕ
four = bytes "0.5 1.0 0.25 -0.4"

-- one subnet with one track, and a headway of a leg with itself
abbrev subnet_is : (subnet track leg : ℕ) → List ℕ
subnet_is s k leg =
    object
    (list "single_track_headway_constraints" ""
    ∷ list "dwell_time_constraints" ""
    ∷ list "terminal_turnaround_constraints" ""
    ∷ list "connection_constraints" ""
    ∷ (bytes "\"headway_time_constraints\": [{\"first_leg_id\": "
    ++ spelled leg ++ bytes ", \"second_leg_id\": " ++ spelled leg ++ bytes ", \"min_headway_time\": 0}]")
    ∷ (bytes "\"recuperation_subnets\": [{\"subnet_id\": " ++ spelled s ++ bytes ", \"track_ids\": [" ++ spelled k ++ bytes "]}]")
    ∷ [])

-- every id is n
abbrev all_ids : ℕ → Input
all_ids n = input 100 (leg_is n n n n n n) (curve_is n four) (subnet_is n n n) (leg_is n n n n n n)

-- a timetable before everything else
abbrev timetable : List ℕ → Input
timetable t = input 100 t [] [] []

abbrev past : ℕ
past = most_id + 1

-- so many entries of a list
abbrev entries : ℕ → String → List ℕ
entries n s = joined space (replicate n (bytes s))

abbrev many_listed : ℕ → List ℕ
many_listed n = timetable_header ++ bytes "1,1,1,1,2,10_4_7," ++ entries n "10_4_7" ++ bytes "\n"

-- one leg for the whole of H, with as many samples
abbrev longest : (travel : ℕ) → Input
longest t =
    let chosen = bytes "0_" ++ spelled t ++ bytes "_7" in
    let legs = timetable_header ++ bytes "1,1,1,1,2," ++ chosen ++ bytes "," ++ chosen ++ bytes "\n" in
    input t legs (curve_is 7 (entries t "0.0")) (subnet_is 1 1 1) legs

-- so many subnets, of which the first has the track
abbrev subnet_numbered : ℕ → List ℕ
subnet_numbered id = bytes ", {\"subnet_id\": " ++ spelled id ++ bytes ", \"track_ids\": []}"

abbrev eight_subnets : List ℕ
eight_subnets =
    object
    (list "headway_time_constraints" ""
    ∷ list "single_track_headway_constraints" ""
    ∷ list "dwell_time_constraints" ""
    ∷ list "terminal_turnaround_constraints" ""
    ∷ list "connection_constraints" ""
    ∷ (bytes "\"recuperation_subnets\": [{\"subnet_id\": 0, \"track_ids\": [1]}" ++ flat subnet_numbered (1 ∷ 2 ∷ 3 ∷ 4 ∷ 5 ∷ 6 ∷ 7 ∷ []) ++ bytes "]")
    ∷ [])

-- a document that is cut in two where the seconds stand
abbrev seconds : (before : String) → Input
seconds before = input 100 (leg_is 1 1 1 1 2 7) (curve_is 7 four) (bytes before ++ spelled (most_seconds + 1) ++ bytes "}]}") []

-- ---- THE TABLE

pub data Corner : Type 0 where
  answers : Input → Answer → Corner
  -- 5 where the cut is
  late : (before : String) → Corner
  -- what a profile of these samples is read as
  samples : (texts : String) → List ℤ → Corner
  -- the number that a row or a record gets, 0 where it is good
  counts : (number awaited : ℕ) → Corner

abbrev spacious : Input → Answer
spacious x = (check x (room_for 1 most_listed 1 most_sampled 1 1) (choices_for 1)).answer

-- the sample table of a reading whose H and timetable do not matter
abbrev sample_table : String → List ℤ
sample_table s =
    (checked (stated 1 example_edition) (texts timetable_header (curve_is 7 (bytes s)) (six_lists "" "" "" "" "" "")) timetable_header (room_for 0 0 1 4 0 0) []).tables.samples

abbrev pub Right : Corner → Type 0
Right (answers x a) = spacious x ≡ a
Right (late before) = spacious (seconds before) ≡ refuses out_of_range constraints_file (length (bytes before))
Right (samples s zs) = sample_table s ≡ zs
Right (counts n m) = n ≡ m

abbrev pub sizes : List Corner
sizes =
    -- "Ids 0..999,999,999": everywhere the least, everywhere the greatest
    answers (all_ids 0) Accepted
    ∷ answers (all_ids most_id) Accepted
    -- one more in each place of a row; document 01's other ids one past are in the laws' `Numbers`
    ∷ answers (timetable (leg_is past 1 1 1 2 7)) (refuses out_of_range timetable_file (length timetable_header))
    ∷ answers (timetable (leg_is 1 past 1 1 2 7)) (refuses out_of_range timetable_file (length timetable_header))
    ∷ answers (timetable (leg_is 1 1 past 1 2 7)) (refuses out_of_range timetable_file (length timetable_header))
    ∷ answers (timetable (leg_is 1 1 1 past 2 7)) (refuses out_of_range timetable_file (length timetable_header))
    ∷ answers (timetable (leg_is 1 1 1 1 2 past)) (refuses out_of_range timetable_file (length timetable_header))
    -- "Travel time 1..3,600", "samples .. 1..3,600 a profile"
    ∷ answers (longest most_travel) Accepted
    ∷ answers (longest (most_travel + 1)) (refuses out_of_range timetable_file (length timetable_header))
    -- "configurations 64 a leg": they may repeat
    ∷ answers (input 100 (many_listed most_listed) (curve_is 7 four) (subnet_is 1 1 1) (many_listed most_listed)) Accepted
    -- "subnets 8", one with no tracks among them
    ∷ answers (input 100 (leg_is 1 1 1 1 2 7) (curve_is 7 four) eight_subnets (leg_is 1 1 1 1 2 7)) Accepted
    -- "Constraint seconds 0..86,400": one more, at each key (`Records` has the edge itself)
    ∷ late "{\"headway_time_constraints\": [{\"min_headway_time\": "
    ∷ late "{\"dwell_time_constraints\": [{\"min_dwell_time\": "
    ∷ late "{\"terminal_turnaround_constraints\": [{\"min_turnaround_time\": "
    ∷ late "{\"connection_constraints\": [{\"min_connection_time\": "
    ∷ late "{\"connection_constraints\": [{\"max_connection_time\": "
    -- "A sample lies in -20.000..20.000 MW", "read as kilowatts"
    ∷ samples "20.000 -20.000 20.0 -20.00" (pos most_kw ∷ neg_ℤ (pos most_kw) ∷ pos most_kw ∷ neg_ℤ (pos most_kw) ∷ [])
    ∷ samples "19.999 -19.999 0.001 -0.001" (pos 19_999 ∷ neg_ℤ (pos 19_999) ∷ pos 1 ∷ neg_ℤ (pos 1) ∷ [])
    ∷ samples "0.0 -0.0 0.000 -0.000" (pos 0 ∷ pos 0 ∷ pos 0 ∷ pos 0 ∷ [])
    ∷ samples "0.5 0.05 0.005 -0.4" (pos 500 ∷ pos 50 ∷ pos 5 ∷ neg_ℤ (pos 400) ∷ [])
    -- "Legs 32,768": the last that may stand, and the next
    ∷ counts (leg_after (most_legs - 1) 1 (leg 2 1)) 0
    ∷ counts (leg_after most_legs 1 (leg 2 1)) too_many
    -- 6 before 7
    ∷ counts (leg_after most_legs 1 (leg 1 1)) too_many
    ∷ counts (leg_after (most_legs - 1) 1 (leg 1 1)) already_seen
    -- configurations "1,048,576 in all": 16,384 rows of 64, and one entry more
    ∷ counts (leg_after (most_configurations / most_listed - 1) most_listed (leg 2 most_listed)) 0
    ∷ counts (leg_after (most_configurations / most_listed) most_listed (leg 2 1)) too_many
    -- "profiles 16,384"
    ∷ counts (curve_after (most_profiles - 1) 1 (curve 8 1)) 0
    ∷ counts (curve_after most_profiles 1 (curve 8 1)) too_many
    -- "samples 1,048,576 in all": 291 profiles of 3,600, and 976 or 977
    ∷ counts (curve_after 291 most_sampled (curve 8 976)) 0
    ∷ counts (curve_after 291 most_sampled (curve 8 977)) too_many
    -- "constraints 65,536": 6 before 16
    ∷ counts (record_after (most_constraints - 1) most_constraints) 0
    ∷ counts (record_after most_constraints most_constraints) too_many
    ∷ counts (record_after (most_constraints - 1) (most_constraints - 1)) no_room
    -- "tracks 4,096": 6 before 7 and 16, 7 before 16
    ∷ counts (track_after (most_tracks - 1) most_tracks 2) 0
    ∷ counts (track_after most_tracks most_tracks 2) too_many
    ∷ counts (track_after most_tracks most_tracks 1) too_many
    ∷ counts (track_after (most_tracks - 1) (most_tracks - 1) 1) already_seen
    ∷ counts (track_after (most_tracks - 1) (most_tracks - 1) 2) no_room
    ∷ []

sizes_hold : All Right sizes
unfolding computed
sizes_hold = (refl, (refl, (refl, (refl, (refl, (refl, (refl, (refl, (refl, (refl, (refl, (refl, (refl, (refl, (refl, (refl, (refl, (refl, (refl, (refl, (refl, (refl, (refl, (refl, (refl, (refl, (refl, (refl, (refl, (refl, (refl, (refl, (refl, (refl, (refl, (refl, (refl, (refl, tt))))))))))))))))))))))))))))))))))))))
