-- The earliest timetable, worked: over rows, and then over document 01's texts. The checker computes them.
use Rattle.std.specs.Prelude.{ℕ, ◌-◌, ◌≡◌, refl, List, [], ◌∷◌, replicate, length, Option, Some, None}
use Prim.Native.String.{String}
use Rattle.rules.specs.Limits.{unsigned_fill, byte_fill}
use Rattle.rules.specs.Answers.{refusal, no_solution, no_room, no_file}
use Rattle.rules.specs.Timetable.{Row, row, configuration, timetable_header}
use Rattle.rules.specs.Kinds.{headway, dwell, connection, by_departure}
use Rattle.rules.specs.Reading.{Texts}
use Rattle.rules.specs.Earliest.{earliest}
use Rattle.rules.specs.Entries.{filled_tables, Proposed, proposed}
use Rattle.rules.specs.Tally.{no_tests}
use Rattle.rules.specs.Computed.{computed}
use Rattle.rules.specs.Examples.{S, draft, profiles, dwell20, document, one_subnet, solution45, lent, texts}
use Rattle.rules.specs.declared.sizes.Configuration.{Configuration}
use Rattle.rules.specs.declared.sizes.Constraint.{Constraint}
use Rattle.rules.specs.declared.answers.Answer.TheVariants.{Refused}

-- ---- over rows: each leg is offered at two seconds with its travel time, and sooner with another

abbrev c : (d t p : ℕ) → Configuration
c = configuration

abbrev draft_rows : List Row
draft_rows =
    row 1 1 1 1 2 (c 15 4 7) (c 15 4 7 ∷ c 10 4 9 ∷ c 10 4 7 ∷ c 5 3 7 ∷ [])
    ∷ row 2 1 2 2 3 (c 40 3 8) (c 45 3 8 ∷ c 40 3 8 ∷ c 31 9 8 ∷ [])
    ∷ []

abbrev between : (first second : ℕ) → (kind low high type : ℕ) → List Constraint
between a b k low high type = record { kind = k; first = a; second = b; low = low; high = high; connection = type } ∷ []

-- leg 1 with a profile at one second, leg 2 at another
abbrev at : (d p e : ℕ) → Option (List Configuration)
at d p e = Some (c d 4 p ∷ c e 3 8 ∷ [])

-- 10 with profile 9 is listed before 10 with profile 7, which is no matter of the nominal; 5 and 31 have other travel times
free : earliest draft_rows [] ≡ at 10 9 40
unfolding computed
free = refl

-- 14 + 27 = 41: leg 2 waits for its next offer
waits : earliest draft_rows (between 0 1 dwell 27 0 0) ≡ at 10 9 45
unfolding computed
waits = refl

-- 14 + 32 = 46: there is none
never : earliest draft_rows (between 0 1 dwell 32 0 0) ≡ None
unfolding computed
never = refl

-- leg 2 leaves at most 29 seconds after leg 1: leg 1 waits
pushed : earliest draft_rows (between 0 1 connection 0 29 by_departure) ≡ at 15 7 40
unfolding computed
pushed = refl

-- a leg an hour before itself; a connection whose maximum is below its minimum
alone : earliest draft_rows (between 0 0 headway 3_600 0 0) ≡ None
unfolding computed
alone = refl

crossed : earliest draft_rows (between 0 1 connection 30 29 by_departure) ≡ None
unfolding computed
crossed = refl

-- no legs: there is always one
empty : earliest [] [] ≡ Some []
unfolding computed
empty = refl

-- ---- over texts

abbrev dwell_of : String → Texts
dwell_of records = texts draft profiles (document records one_subnet)

abbrev dwell27 : Texts
dwell27 = dwell_of "{\"first_leg_id\": 1, \"second_leg_id\": 2, \"min_dwell_time\": 27}"

abbrev dwell32 : Texts
dwell32 = dwell_of "{\"first_leg_id\": 1, \"second_leg_id\": 2, \"min_dwell_time\": 32}"

abbrev asked : Texts → (choices text : ℕ) → Proposed
asked x choices text = proposed S x lent (replicate choices 9) (replicate text 7)

abbrev only_refused : (number : ℕ) → (choices text : ℕ) → Proposed
only_refused number choices text =
    record {
      answer = Refused (refusal number no_file 0);
      tally = no_tests;
      length = 0;
      tables = filled_tables lent;
      choices = replicate choices unsigned_fill;
      text = replicate text byte_fill;
    }

-- the nominals are the earliest, and the text is the draft's
nominals : (asked (texts draft profiles dwell20) 6 (length draft)).text ≡ draft
unfolding computed
nominals = refl

-- leg 2 waits for 45
later_text : (asked dwell27 6 (length draft)).text ≡ solution45
unfolding computed
later_text = refl

-- two choices and one inequality were tested; room past the choices keeps its contents
later-tally : (asked dwell27 7 (length draft)).tally ≡ record { kinds = 2 ∷ 0 ∷ 0 ∷ 1 ∷ 0 ∷ 0 ∷ []; total = 3 }
unfolding computed
later-tally = refl

later-choices : (asked dwell27 7 (length draft)).choices ≡ 10 ∷ 4 ∷ 7 ∷ 45 ∷ 3 ∷ 8 ∷ 9 ∷ []
unfolding computed
later-choices = refl

-- 19 comes before 16, for the choices and for the text
no_solution_lem : asked dwell32 5 3 ≡ only_refused no_solution 5 3
unfolding computed
no_solution_lem = refl

short_choices : asked dwell27 5 (length draft) ≡ only_refused no_room 5 (length draft)
unfolding computed
short_choices = refl

short_text : asked dwell27 6 (length draft - 1) ≡ only_refused no_room 6 (length draft - 1)
unfolding computed
short_text = refl

-- no legs: the header alone
no_legs : (asked (texts timetable_header profiles (document "" one_subnet)) 0 (length timetable_header)).text ≡ timetable_header
unfolding computed
no_legs = refl
