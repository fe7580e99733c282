-- A lawful value, its text and its document: lists and keys in an order of their own, read by the theorem and not by computing. Assumes nothing.
use Prim.Native.Nat.{ℕ}
use mathlib.Core.Path.{◌≡◌, refl}
use mathlib.Core.Bool.{Bool, true, false, not, ◌&&◌}
use mathlib.Core.List.{List, [], ◌∷◌, ◌++◌}
use native.Mathlib.Omega.{arith}
use lib.Dec.{eqb}
use borrow.Author.Tests.{eqb-false, not-true}
use Rattle.rules.specs.Bytes.{bytes}
use Rattle.rules.specs.Lists.{any, every}
use Rattle.rules.specs.Answers.{good}
use Rattle.rules.specs.Kinds.{table_edition, example_edition, headway, single_track, dwell, turnaround, connection, subnets, first_leg, second_leg, min_headway, min_dwell, min_turnaround, min_connection, max_connection, subnet_id, by_arrival, no_type}
use Rattle.rules.specs.Constraints.{document, rules_in, constraints_of}
use Rattle.rules.proofs.Truth.{all_map}
use Rattle.rules_theorems.specs.Lists.{Distinct}
use Rattle.rules_theorems.proofs.All.{none_passes}
use Rattle.rules_theorems.proofs.DocumentWords.{and_first, and_second}
use Rattle.rules_json.specs.Value.{number, type, track_list, Value, document_of, Once, Lawful}
use Rattle.rules_json.specs.Written.{spread, pieces}
use Rattle.rules_json.proofs.Sets.{tested-among}
use Rattle.rules_json.proofs.Completeness.{spread-read}

-- ---- each of the wanted once, by computing

distinct_test : List ℕ → Bool
distinct_test [] = true
distinct_test (n ∷ ns) = not (any (eqb n) ns) && distinct_test ns

tested_distinct : (ns : List ℕ) → distinct_test ns ≡ true → Distinct (λ n. n) ns
unfolding distinct_test
tested_distinct [] h = tt
tested_distinct (n ∷ ns) h = (
  all_map (λ m. eqb n m ≡ false) (λ m. n ≡ m → ⊥) (λ m. eqb-false n m) ns
      (none_passes (eqb n) ns (not-true _ (and_first (not (any (eqb n) ns)) (distinct_test ns) h))),
  tested_distinct ns (and_second (not (any (eqb n) ns)) (distinct_test ns) h),
)

tested_once : (wanted given : List ℕ) → every (λ n. any (eqb n) wanted) given ≡ true → distinct_test given ≡ true
    → every (λ n. any (eqb n) given) wanted ≡ true → Once wanted given
tested_once wanted given known distinct present =
    record { known = tested-among wanted given known; distinct = tested_distinct given distinct; present = tested-among given wanted present }

-- ---- the value

abbrev pub legs : List ℕ
legs = 1 ∷ 2 ∷ []

abbrev pub value : Value
value =
    record {
      list = dwell;
      records =
          (number first_leg 1 ∷ number second_leg 2 ∷ number min_dwell 20 ∷ [])
          ∷ (number second_leg 2 ∷ number min_dwell 27 ∷ number first_leg 1 ∷ [])
          ∷ [];
    }
    ∷ record { list = subnets; records = (track_list (1 ∷ 2 ∷ []) ∷ number subnet_id 1 ∷ []) ∷ [] }
    ∷ record { list = headway; records = (number min_headway 31 ∷ number first_leg 1 ∷ number second_leg 2 ∷ []) ∷ [] }
    ∷ record {
      list = connection;
      records = (number first_leg 2 ∷ number second_leg 1 ∷ type by_arrival ∷ number max_connection 25 ∷ number min_connection 5 ∷ []) ∷ [];
    }
    ∷ record { list = turnaround; records = [] }
    ∷ record { list = single_track; records = [] }
    ∷ []

-- its text, with a blank before each piece
abbrev pub text : List ℕ
text =
    bytes " { \"dwell_time_constraints\" : [ { \"first_leg_id\" : 1 , \"second_leg_id\" : 2 , \"min_dwell_time\" : 20 }"
    ++ bytes " , { \"second_leg_id\" : 2 , \"min_dwell_time\" : 27 , \"first_leg_id\" : 1 } ]"
    ++ bytes " , \"recuperation_subnets\" : [ { \"track_ids\" : [ 1 , 2 ] , \"subnet_id\" : 1 } ]"
    ++ bytes " , \"headway_time_constraints\" : [ { \"min_headway_time\" : 31 , \"first_leg_id\" : 1 , \"second_leg_id\" : 2 } ]"
    ++ bytes " , \"connection_constraints\" : [ { \"first_leg_id\" : 2 , \"second_leg_id\" : 1 , \"connection_type\" : \"arrival_to_departure\""
    ++ bytes " , \"max_connection_time\" : 25 , \"min_connection_time\" : 5 } ]"
    ++ bytes " , \"terminal_turnaround_constraints\" : [ ] , \"single_track_headway_constraints\" : [ ] } "

pub its_text : spread (bytes " ") (pieces example_edition value) ≡ text
its_text = refl

-- its document: rows for legs, what a kind does not carry is 0, and the tracks with their subnet
pub its_document : document_of legs value
    ≡ document
    (record { kind = dwell; first = 0; second = 1; low = 20; high = 0; connection = no_type }
    ∷ record { kind = dwell; first = 0; second = 1; low = 27; high = 0; connection = no_type }
    ∷ record { kind = headway; first = 0; second = 1; low = 31; high = 0; connection = no_type }
    ∷ record { kind = connection; first = 1; second = 0; low = 5; high = 25; connection = by_arrival }
    ∷ [])
    (record { id = 1; subnet = 0 } ∷ record { id = 2; subnet = 0 } ∷ []) 1 (1 ∷ [])
unfolding document_of
its_document = refl

-- with room for just its records
lawful : Lawful legs 4 2 value
unfolding document_of distinct_test
lawful =
    record {
      lists = tested_once _ _ refl refl refl;
      records = (
        (
          record { keys = tested_once _ _ refl refl refl; values = (refl, (refl, (refl, tt))) },
          (record { keys = tested_once _ _ refl refl refl; values = (refl, (refl, (refl, tt))) }, tt),
        ),
        (
          (record { keys = tested_once _ _ refl refl refl; values = (refl, (refl, tt)) }, tt),
          (
            (record { keys = tested_once _ _ refl refl refl; values = (refl, (refl, (refl, tt))) }, tt),
            ((record { keys = tested_once _ _ refl refl refl; values = (refl, (refl, (refl, (refl, (refl, tt))))) }, tt), (tt, (tt, tt))),
          ),
        ),
      );
      fits = record {
        few_constraints = omega arith;
        room_for_constraints = omega arith;
        few_subnets = omega arith;
        few_tracks = omega arith;
        room_for_tracks = omega arith;
        distinct_tracks = (((λ e. absurd (omega arith)), tt), (tt, tt));
        distinct_ids = (tt, tt);
      };
    }

pub read : constraints_of legs 4 2 (rules_in example_edition) text ≡ good (document_of legs value)
read = spread-read example_edition legs 4 2 value (bytes " ") lawful refl (omega arith)

-- ---- two editions: in kind 4's records the name alone is another, and kind 3's never changes

abbrev turned : Value
turned =
    record { list = turnaround; records = (number min_turnaround 27 ∷ number first_leg 1 ∷ []) ∷ [] }
    ∷ record { list = dwell; records = (number min_dwell 20 ∷ []) ∷ [] }
    ∷ []

by_table_lem : spread [] (pieces table_edition turned)
    ≡ bytes "{\"terminal_turnaround_constraints\":[{\"min_dwell_time\":27,\"first_leg_id\":1}],\"dwell_time_constraints\":[{\"min_dwell_time\":20}]}"
by_table_lem = refl

by_example_lem : spread [] (pieces example_edition turned)
    ≡ bytes "{\"terminal_turnaround_constraints\":[{\"min_turnaround_time\":27,\"first_leg_id\":1}],\"dwell_time_constraints\":[{\"min_dwell_time\":20}]}"
by_example_lem = refl
