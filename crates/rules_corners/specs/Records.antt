-- Inequalities met exactly and missed by a second, one leg named twice, a above b, choices that are nearly offered, records that no reading gives. Assumes nothing.
use Rattle.std.specs.Prelude.{ℕ, ◌+◌, ◌-◌, ◌≡◌, refl, false, cond, List, [], ◌∷◌, ◌++◌, map, eqb, get_or}
use Prim.Native.String.{String}
use Rattle.rules.specs.Limits.{most_seconds}
use Rattle.rules.specs.Bytes.{bytes, spelled, joined, comma}
use Rattle.rules.specs.Timetable.{configuration}
use Rattle.rules.specs.Kinds.{not_offered, headway, single_track, dwell, turnaround, connection, subnets, list_names, no_type}
use Rattle.rules.specs.Kinds.{by_arrival as arrival_type, by_departure as departure_type}
use Rattle.rules.specs.Tally.{no_tests}
use Rattle.rules.specs.Verdict.{All, test, record_tests, Finding, accepted, violated, verdict_from}
use Rattle.rules.specs.Computed.{computed}
use Rattle.rules.specs.Examples.{draft, profiles, rows, dwell20, one_subnet, list, object}
use Rattle.rules.specs.declared.answers.Answer.{Answer}
use Rattle.rules.specs.declared.answers.Answer.TheVariants.{Accepted}
use Rattle.rules_corners.specs.Corner.{input, answer_to, violates}

-- ---- records, of a kind each

pub record Listed : Type 0 where
  pub kind : ℕ
  pub text : List ℕ

abbrev member : String → ℕ → List ℕ
member key n = bytes "\"" ++ bytes key ++ bytes "\": " ++ spelled n

abbrev listed : (kind one two : ℕ) → (members : List (List ℕ)) → Listed
listed k one two members =
    record { kind = k; text = bytes "{" ++ (joined comma (member "first_leg_id" one ∷ member "second_leg_id" two ∷ members) ++ bytes "}") }

abbrev headways : (one two h : ℕ) → Listed
headways one two h = listed headway one two (member "min_headway_time" h ∷ [])

abbrev single_tracks : (one two : ℕ) → Listed
single_tracks one two = listed single_track one two []

abbrev dwells : (one two w : ℕ) → Listed
dwells one two w = listed dwell one two (member "min_dwell_time" w ∷ [])

abbrev turnarounds : (one two w : ℕ) → Listed
turnarounds one two w = listed turnaround one two (member "min_turnaround_time" w ∷ [])

abbrev by_arrival : List ℕ
by_arrival = bytes "\"connection_type\": \"arrival_to_departure\""

abbrev by_departure : List ℕ
by_departure = bytes "\"connection_type\": \"departure_to_departure\""

abbrev connections : (type : List ℕ) → (one two a b : ℕ) → Listed
connections type one two a b = listed connection one two (member "min_connection_time" a ∷ member "max_connection_time" b ∷ type ∷ [])

-- ---- documents: one record in its list, and both tracks in a subnet

abbrev list_of : Listed → (kind : ℕ) → List ℕ
list_of r k = bytes "\"" ++ get_or list_names (k - 1) [] ++ bytes "\": [" ++ cond (eqb r.kind k) r.text [] ++ bytes "]"

abbrev with : Listed → List ℕ
with r = object (list "recuperation_subnets" one_subnet ∷ map (list_of r) (headway ∷ single_track ∷ dwell ∷ turnaround ∷ connection ∷ []))

-- ---- THE TABLE

pub data Corner : Type 0 where
  -- leg 1 from 10 to 14, leg 2 from 40 to 43
  judges : Listed → Answer → Corner
  -- leg 2 from another departure
  judges_at : (departure : String) → Listed → Answer → Corner
  answers : (draft constraints solution : List ℕ) → Answer → Corner
  -- a record that the table might hold, with the least and the greatest seconds, of the same two legs
  gives : (kind type : ℕ) → Finding → Corner

abbrev leaving : String → List ℕ
leaving d =
    let chosen = bytes d ++ bytes "_3_8" in
    rows "1,1,1,1,2,10_4_7,10_4_7\n" ++ bytes "2,1,2,2,3," ++ chosen ++ bytes "," ++ chosen ++ bytes "\n"

-- at the first inequality, by a second
abbrev fails : (kind : ℕ) → Finding
fails k = violated (test k 0 1 1 false)

abbrev pub Right : Corner → Type 0
Right (judges r a) = answer_to (input 100 draft profiles (with r) draft) ≡ a
Right (judges_at d r a) = answer_to (input 100 (leaving d) profiles (with r) (leaving d)) ≡ a
Right (answers t c s a) = answer_to (input 100 t profiles c s) ≡ a
Right (gives k type v) =
    (verdict_from no_tests (record_tests not_offered 0 (configuration 10 4 7 ∷ configuration 40 3 8 ∷ []) (record { kind = k; first = 0; second = 1; low = 0; high = most_seconds; connection = type } ∷ []))).finding ≡ v

abbrev pub records : List Corner
records =
    -- headway, d1+h ≤ d2 and d1+t1+h ≤ d2+t2: leg 2 is 30 seconds later at its departure, and 29 at its arrival
    judges (headways 1 2 29) Accepted
    ∷ judges (headways 1 2 30) (violates headway 0 2 1)
    ∷ judges (headways 1 2 31) (violates headway 0 1 1)
    ∷ judges (headways 1 2 0) Accepted
    ∷ judges (headways 2 1 0) (violates headway 0 1 30)
    -- single track, d1+t1 ≤ d2: leg 1 arrives at 14
    ∷ judges_at "14" (single_tracks 1 2) Accepted
    ∷ judges_at "13" (single_tracks 1 2) (violates single_track 0 1 1)
    ∷ judges (single_tracks 2 1) (violates single_track 0 1 33)
    -- dwell and turnaround, d1+t1+w ≤ d2
    ∷ judges (dwells 1 2 26) Accepted
    ∷ judges (dwells 1 2 27) (violates dwell 0 1 1)
    ∷ judges_at "14" (dwells 1 2 0) Accepted
    ∷ judges_at "13" (dwells 1 2 0) (violates dwell 0 1 1)
    ∷ judges (turnarounds 1 2 26) Accepted
    ∷ judges (turnarounds 1 2 27) (violates turnaround 0 1 1)
    -- the greatest seconds: 14 + 86,400 - 40
    ∷ judges (dwells 1 2 most_seconds) (violates dwell 0 1 (most_seconds - 26))
    ∷ judges (connections by_arrival 1 2 0 most_seconds) Accepted
    -- connections, x+a ≤ d2 and d2 ≤ x+b: x is 14 by arrival, so that d2 is x+26; one second more, one less
    ∷ judges (connections by_arrival 1 2 26 26) Accepted
    ∷ judges (connections by_arrival 1 2 27 27) (violates connection 0 1 1)
    ∷ judges (connections by_arrival 1 2 25 25) (violates connection 0 2 1)
    ∷ judges (connections by_arrival 1 2 26 most_seconds) Accepted
    ∷ judges (connections by_arrival 1 2 0 26) Accepted
    -- x is 10 by departure, so that d2 is x+30
    ∷ judges (connections by_departure 1 2 30 30) Accepted
    ∷ judges (connections by_departure 1 2 31 31) (violates connection 0 1 1)
    ∷ judges (connections by_departure 1 2 29 29) (violates connection 0 2 1)
    ∷ judges (connections by_departure 1 2 30 most_seconds) Accepted
    ∷ judges (connections by_departure 1 2 0 30) Accepted
    -- "a may exceed b: the formulas decide": the first that fails is named, and one always fails
    ∷ judges (connections by_arrival 1 2 26 25) (violates connection 0 2 1)
    ∷ judges (connections by_arrival 1 2 27 26) (violates connection 0 1 1)
    ∷ judges (connections by_arrival 1 2 28 24) (violates connection 0 1 2)
    ∷ judges (connections by_arrival 1 2 1 0) (violates connection 0 2 26)
    ∷ judges (connections by_departure 1 2 30 29) (violates connection 0 2 1)
    ∷ judges (connections by_departure 1 2 31 30) (violates connection 0 1 1)
    ∷ judges (connections by_departure 1 2 most_seconds 0) (violates connection 0 1 (most_seconds - 30))
    -- "A record may name one leg twice": h 0 holds and h 1 fails by 1; what asks for an arrival before the departure fails by the travel time
    ∷ judges (headways 1 1 0) Accepted
    ∷ judges (headways 1 1 1) (violates headway 0 1 1)
    ∷ judges (single_tracks 1 1) (violates single_track 0 1 4)
    ∷ judges (single_tracks 2 2) (violates single_track 0 1 3)
    ∷ judges (dwells 1 1 0) (violates dwell 0 1 4)
    ∷ judges (dwells 1 1 5) (violates dwell 0 1 9)
    ∷ judges (turnarounds 2 2 0) (violates turnaround 0 1 3)
    ∷ judges (connections by_arrival 1 1 0 most_seconds) (violates connection 0 1 4)
    ∷ judges (connections by_departure 1 1 0 0) Accepted
    ∷ judges (connections by_departure 1 1 1 0) (violates connection 0 1 1)
    -- the choice, all three numbers, is in the draft's list, not in the solution's: another travel time, another profile, one that does not exist
    ∷ answers draft dwell20 (rows "1,1,1,1,2,10_4_7,10_4_7\n2,1,2,2,3,45_3_8,45_3_8\n") Accepted
    ∷ answers draft dwell20 (rows "1,1,1,1,2,10_3_7,10_3_7\n2,1,2,2,3,40_3_8,40_3_8\n") (violates not_offered 0 0 0)
    ∷ answers draft dwell20 (rows "1,1,1,1,2,10_4_8,10_4_8\n2,1,2,2,3,40_3_8,40_3_8\n") (violates not_offered 0 0 0)
    ∷ answers draft dwell20 (rows "1,1,1,1,2,10_4_7,10_4_7\n2,1,2,2,3,40_3_9,40_3_9\n") (violates not_offered 1 0 0)
    -- a choice of another leg's list is not offered to this one, and comes before every constraint
    ∷ answers draft (with (dwells 2 1 0)) (rows "1,1,1,1,2,10_4_7,10_4_7\n2,1,2,2,3,10_4_7,10_4_7\n") (violates not_offered 1 0 0)
    -- no reading gives them: what is no kind, and a connection of a type that is none of the two, cannot hold; the other kinds do not look at the type
    ∷ gives not_offered no_type (fails not_offered)
    ∷ gives subnets no_type (fails subnets)
    ∷ gives connection arrival_type accepted
    ∷ gives connection departure_type accepted
    ∷ gives connection no_type (fails connection)
    ∷ gives connection (departure_type + 1) (fails connection)
    ∷ gives dwell (departure_type + 1) accepted
    ∷ []

records_hold : All Right records
unfolding computed
records_hold = (refl, (refl, (refl, (refl, (refl, (refl, (refl, (refl, (refl, (refl, (refl, (refl, (refl, (refl, (refl, (refl, (refl, (refl, (refl, (refl, (refl, (refl, (refl, (refl, (refl, (refl, (refl, (refl, (refl, (refl, (refl, (refl, (refl, (refl, (refl, (refl, (refl, (refl, (refl, (refl, (refl, (refl, (refl, (refl, (refl, (refl, (refl, (refl, (refl, (refl, (refl, (refl, (refl, (refl, (refl, tt)))))))))))))))))))))))))))))))))))))))))))))))))))))))
