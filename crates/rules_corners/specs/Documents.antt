-- constraints.json: white space, commas, names, numbers and ends that the laws' `Numbers` does not have. Assumes nothing.
use Rattle.std.specs.Prelude.{ℕ, suc, ◌≡◌, refl, List, [], ◌∷◌, ◌++◌, length, take, drop}
use Prim.Native.String.{String}
use Rattle.rules.specs.Limits.{most_id, most_seconds}
use Rattle.rules.specs.Lists.{flat}
use Rattle.rules.specs.Answers.{out_of_range, already_seen, bad_json, unknown_name, repeated_or_missing, not_there, constraints_file}
use Rattle.rules.specs.Bytes.{bytes, spelled, joined, comma}
use Rattle.rules.specs.Verdict.{All}
use Rattle.rules.specs.Computed.{computed}
use Rattle.rules.specs.Examples.{draft, profiles, list}
use Rattle.rules.specs.declared.answers.Answer.{Answer}
use Rattle.rules.specs.declared.answers.Answer.TheVariants.{Accepted}
use Rattle.rules_corners.specs.Corner.{input, answer_to, refuses}

-- ---- texts

-- the names and signs of a lawful text, with a blank before each and after the last
abbrev around : List ℕ → List (List ℕ) → List ℕ
around blank pieces = flat (λ p. blank ++ p) pieces ++ blank

abbrev empty_list : String → List (List ℕ)
empty_list name = (bytes "\"" ++ bytes name ++ bytes "\"") ∷ bytes ":" ∷ bytes "[" ∷ bytes "]" ∷ bytes "," ∷ []

abbrev lawful : List (List ℕ)
lawful =
    (bytes "{" ∷ [])
    ++ empty_list "headway_time_constraints"
    ++ empty_list "single_track_headway_constraints"
    ++ empty_list "terminal_turnaround_constraints"
    ++ empty_list "connection_constraints"
    ++ (bytes "\"dwell_time_constraints\"" ∷ bytes ":" ∷ bytes "[" ∷ bytes "{" ∷ bytes "\"first_leg_id\"" ∷ bytes ":" ∷ bytes "1" ∷ bytes ","
    ∷ bytes "\"second_leg_id\"" ∷ bytes ":" ∷ bytes "2" ∷ bytes "," ∷ bytes "\"min_dwell_time\"" ∷ bytes ":" ∷ bytes "20" ∷ bytes "}" ∷ bytes "]" ∷ bytes ","
    ∷ bytes "\"recuperation_subnets\"" ∷ bytes ":" ∷ bytes "[" ∷ bytes "{" ∷ bytes "\"track_ids\"" ∷ bytes ":" ∷ bytes "[" ∷ bytes "1" ∷ bytes "," ∷ bytes "2"
    ∷ bytes "]" ∷ bytes "," ∷ bytes "\"subnet_id\"" ∷ bytes ":" ∷ bytes "1" ∷ bytes "}" ∷ bytes "]" ∷ bytes "}" ∷ [])

-- the six lists, each empty; all but one
abbrev six : List (List ℕ)
six =
    list "headway_time_constraints" ""
    ∷ list "single_track_headway_constraints" ""
    ∷ list "dwell_time_constraints" ""
    ∷ list "terminal_turnaround_constraints" ""
    ∷ list "connection_constraints" ""
    ∷ list "recuperation_subnets" ""
    ∷ []

abbrev all_but : ℕ → List ℕ
all_but k = bytes "{" ++ joined comma (take k six ++ drop (suc k) six)

abbrev all_six : List ℕ
all_six = bytes "{" ++ joined comma six

abbrev byte : ℕ → List ℕ
byte b = b ∷ []

-- where the seconds, a leg, a track and a type stand
abbrev to_seconds : List ℕ
to_seconds = bytes "{\"dwell_time_constraints\": [{\"min_dwell_time\": "

abbrev to_leg : List ℕ
to_leg = bytes "{\"dwell_time_constraints\": [{\"first_leg_id\": "

abbrev to_track : List ℕ
to_track = bytes "{\"recuperation_subnets\": [{\"track_ids\": [1, "

abbrev to_type : List ℕ
to_type = bytes "{\"connection_constraints\": [{\"connection_type\": "

abbrev to_records : List ℕ
to_records = bytes "{\"dwell_time_constraints\": ["

abbrev one_dwell : List ℕ
one_dwell = to_records ++ bytes "{\"first_leg_id\": 1, \"second_leg_id\": 2, \"min_dwell_time\": 20}"

-- ---- THE TABLE

pub data Corner : Type 0 where
  reads : (text : List ℕ) → Corner
  -- the fault starts where the text is cut
  at : (number : ℕ) → (before after : List ℕ) → Corner

abbrev answer : List ℕ → Answer
answer c = answer_to (input 100 draft profiles c draft)

abbrev pub Right : Corner → Type 0
Right (reads c) = answer c ≡ Accepted
Right (at n before after) = answer (before ++ after) ≡ refuses n constraints_file (length before)

abbrev pub documents : List Corner
documents =
    -- white space is space, tab, LF, CR, before, between and after all tokens; none is needed
    reads (around [] lawful)
    ∷ reads (around (bytes " ") lawful)
    ∷ reads (around (bytes "\t") lawful)
    ∷ reads (around (bytes "\n") lawful)
    ∷ reads (around (bytes "\r") lawful)
    ∷ reads (around (bytes " \t\r\n") lawful)
    -- other bytes are a run: a vertical tab, a form feed, a zero byte, a space that is not ASCII
    ∷ at bad_json [] (byte 11 ++ around [] lawful)
    ∷ at bad_json [] (byte 12 ++ around [] lawful)
    ∷ at bad_json (around [] lawful) (byte 0)
    ∷ at bad_json (around [] lawful ++ bytes " ") (byte 160)
    -- a missing list, whichever it is: 11 at the text's last brace. A repeated one: 11 at its second name
    ∷ at repeated_or_missing (all_but 0) (bytes "}")
    ∷ at repeated_or_missing (all_but 1) (bytes "}")
    ∷ at repeated_or_missing (all_but 2) (bytes "}")
    ∷ at repeated_or_missing (all_but 3) (bytes "}")
    ∷ at repeated_or_missing (all_but 4) (bytes "}")
    ∷ at repeated_or_missing (all_but 5) (bytes "}")
    ∷ at repeated_or_missing (all_six ++ bytes ", ") (bytes "\"recuperation_subnets\": []}")
    ∷ at repeated_or_missing (all_but 5 ++ bytes ", ") (bytes "\"connection_constraints\": []}")
    -- all six, and a seventh: 10. A name is known whole, and case matters
    ∷ at unknown_name (all_six ++ bytes ", ") (bytes "\"x\": []}")
    ∷ at unknown_name (bytes "{") (bytes "\"\": []}")
    ∷ at unknown_name (bytes "{") (bytes "\"dwell_time_constraint\": []}")
    ∷ at unknown_name (bytes "{") (bytes "\"dwell_time_constraintss\": []}")
    ∷ at unknown_name (bytes "{") (bytes "\"Dwell_time_constraints\": []}")
    ∷ at unknown_name (bytes "{") (bytes "\" dwell_time_constraints\": []}")
    -- bytes 32 and 126 may stand in a string, 31 and 127 not, nor a tab or a byte above: 9 at its quote, before 10
    ∷ at unknown_name (bytes "{") (bytes "\" ~\": []}")
    ∷ at bad_json (bytes "{") (bytes "\"" ++ byte 31 ++ bytes "\": []}")
    ∷ at bad_json (bytes "{") (bytes "\"" ++ byte 127 ++ bytes "\": []}")
    ∷ at bad_json (bytes "{") (bytes "\"dwell\ttime\": []}")
    ∷ at bad_json (bytes "{") (bytes "\"" ++ byte 195 ++ byte 188 ++ bytes "\"")
    ∷ at bad_json (bytes "{") (bytes "\"x\\\"")
    -- a comma too many, or none where one must stand
    ∷ at bad_json (one_dwell ++ bytes ", ") (bytes "]}")
    ∷ at bad_json (one_dwell ++ bytes " ") (bytes "{}]}")
    ∷ at bad_json (one_dwell ++ bytes "],") (bytes ", \"connection_constraints\": []}")
    ∷ at bad_json (one_dwell ++ bytes "] ") (bytes "\"connection_constraints\": []}")
    ∷ at bad_json to_records (bytes ",{}]}")
    ∷ at bad_json (bytes "{") (bytes ",")
    ∷ at bad_json to_track (bytes ",")
    ∷ at bad_json (to_track ++ bytes "2 ") (bytes "3]}")
    -- a text that is no object; a second one after it
    ∷ at bad_json [] (bytes "null")
    ∷ at bad_json [] (bytes "\"x\"")
    ∷ at bad_json (all_six ++ bytes "} ") (bytes "{}")
    ∷ at bad_json (all_six ++ bytes "} ") (bytes ",")
    -- "or the text's length if it ends early": at each kind of place
    ∷ at bad_json (bytes "{\"dwell_time_constraints\"") []
    ∷ at bad_json (bytes "{\"dwell_time_constraints\":") []
    ∷ at bad_json to_records []
    ∷ at bad_json (to_records ++ bytes "{ ") []
    ∷ at bad_json to_seconds []
    ∷ at bad_json one_dwell []
    ∷ at bad_json (one_dwell ++ bytes "]\n") []
    ∷ at bad_json to_track []
    ∷ at bad_json to_type []
    -- a run that the text's end closes is a whole token: good ones lead to the end, others are at fault themselves
    ∷ at bad_json (to_seconds ++ spelled most_seconds) []
    ∷ at bad_json (to_leg ++ bytes "1") []
    ∷ at not_there to_leg (spelled most_id)
    ∷ at out_of_range to_leg (bytes "1000000000")
    ∷ at bad_json to_leg (bytes "1.")
    ∷ at already_seen to_track (bytes "1")
    -- numbers: one run each, 9 at its first byte
    ∷ at bad_json to_seconds (bytes "-0}")
    ∷ at bad_json to_seconds (bytes "00}")
    ∷ at bad_json to_seconds (bytes "+1}")
    ∷ at bad_json to_seconds (bytes "0x10}")
    ∷ at bad_json to_seconds (bytes "1_000}")
    ∷ at bad_json to_seconds (bytes "null}")
    ∷ at bad_json to_seconds (bytes "{}}")
    ∷ at bad_json to_leg (bytes "-1}")
    ∷ at bad_json to_leg (bytes "1.0}")
    ∷ at bad_json to_leg (bytes "\"1\"}")
    ∷ at bad_json to_track (bytes "-1]}")
    ∷ at bad_json to_track (bytes "02]}")
    ∷ at bad_json to_track (bytes "\"2\"]}")
    ∷ at bad_json to_track (bytes "[2]]}")
    -- a number that no machine word holds is out of range, and never another
    ∷ at out_of_range to_seconds (bytes "18446744073709551616}")
    ∷ at out_of_range to_leg (bytes "4294967297}")
    ∷ at out_of_range to_track (bytes "4294967298]}")
    -- connection types are known whole: 10; with a forbidden byte 9
    ∷ at unknown_name to_type (bytes "\"\"}")
    ∷ at unknown_name to_type (bytes "\"arrival_to_departure \"}")
    ∷ at unknown_name to_type (bytes "\"Arrival_to_departure\"}")
    ∷ at unknown_name to_type (bytes "\"departure_to_arrival\"}")
    ∷ at unknown_name to_type (bytes "\"arrival_to_departur\"}")
    ∷ at bad_json to_type (bytes "\"arrival_to\tdeparture\"}")
    ∷ at bad_json to_type (bytes "null}")
    ∷ at bad_json to_type (bytes "[]}")
    -- keys: of another kind 10, even where they repeat; missing 11 at the record's brace, whichever it is; after a comma 9
    ∷ at unknown_name (bytes "{\"single_track_headway_constraints\": [{") (bytes "\"min_headway_time\": 1}")
    ∷ at unknown_name (bytes "{\"recuperation_subnets\": [{") (bytes "\"first_leg_id\": 1}")
    ∷ at repeated_or_missing (bytes "{\"recuperation_subnets\": [{\"subnet_id\": 1") (bytes "}]}")
    ∷ at repeated_or_missing (bytes "{\"recuperation_subnets\": [{\"track_ids\": []") (bytes "}]}")
    ∷ at repeated_or_missing (bytes "{\"recuperation_subnets\": [{") (bytes "}]}")
    ∷ at repeated_or_missing (bytes "{\"dwell_time_constraints\": [{\"second_leg_id\": 2, \"min_dwell_time\": 1") (bytes "}]}")
    ∷ at repeated_or_missing (bytes "{\"dwell_time_constraints\": [{\"min_dwell_time\": 1, \"first_leg_id\": 2") (bytes "}]}")
    ∷ at repeated_or_missing (bytes "{\"recuperation_subnets\": [{\"track_ids\": [], ") (bytes "\"track_ids\": []}]}")
    ∷ at bad_json (bytes "{\"recuperation_subnets\": [{\"subnet_id\": 1, ") (bytes "}]}")
    -- the first token at fault counts, not the lowest number: 10 at a name before 9 at the next token, 12 before 9
    ∷ at unknown_name (bytes "{") (bytes "\"x\", ")
    ∷ at not_there to_leg (bytes "3, ,")
    ∷ []

documents_hold : All Right documents
unfolding computed
documents_hold = (refl, (refl, (refl, (refl, (refl, (refl, (refl, (refl, (refl, (refl, (refl, (refl, (refl, (refl, (refl, (refl, (refl, (refl, (refl, (refl, (refl, (refl, (refl, (refl, (refl, (refl, (refl, (refl, (refl, (refl, (refl, (refl, (refl, (refl, (refl, (refl, (refl, (refl, (refl, (refl, (refl, (refl, (refl, (refl, (refl, (refl, (refl, (refl, (refl, (refl, (refl, (refl, (refl, (refl, (refl, (refl, (refl, (refl, (refl, (refl, (refl, (refl, (refl, (refl, (refl, (refl, (refl, (refl, (refl, (refl, (refl, (refl, (refl, (refl, (refl, (refl, (refl, (refl, (refl, (refl, (refl, (refl, (refl, (refl, (refl, (refl, (refl, (refl, (refl, (refl, (refl, (refl, (refl, tt)))))))))))))))))))))))))))))))))))))))))))))))))))))))))))))))))))))))))))))))))))))))))))))
