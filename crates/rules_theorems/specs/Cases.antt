-- "A refusal is given in these cases and no others": document 01's table of refusal numbers, file by file, for each entry.
use Rattle.std.specs.Prelude.{ℕ, Bool, ◌&&◌, ◌||◌, List, [], ◌∷◌, T, eqb}
use Rattle.rules.specs.Lists.{any}
use Rattle.rules.specs.Answers.{
  bad_horizon,
  too_long,
  bad_header,
  bad_row,
  out_of_range,
  too_many,
  already_seen,
  nominal_not_listed,
  bad_json,
  unknown_name,
  repeated_or_missing,
  not_there,
  wrong_samples,
  differs,
  no_subnet,
  no_room,
  unequal_travel,
  unknown_edition,
  no_file,
  timetable_file,
  profiles_file,
  constraints_file,
  solution_file,
  second_file,
  refusal,
}
use Rattle.rules.specs.declared.answers.Refusal.{Refusal}

-- a file's line: the numbers that fall on place 0 alone, and those that fall on the place of a row or a token
pub record Line : Type 0 where
  pub file : ℕ
  pub at_start : List ℕ
  pub inside : List ℕ

abbrev pub line : (file : ℕ) → (at_start inside : List ℕ) → Line
line file at_start inside = record { file = file; at_start = at_start; inside = inside }

abbrev pub among : ℕ → List ℕ → Bool
among n ns = any (eqb n) ns

-- a refusal stands in a table: a line has its file, its number and a place for it
pub data Case : List Line → Refusal → Type 0 where
  start : {l : Line} {ls : List Line} {n : ℕ} → T (among n l.at_start) → Case (l ∷ ls) (refusal n l.file 0)
  inside : {l : Line} {ls : List Line} {n place : ℕ} → T (among n l.inside) → Case (l ∷ ls) (refusal n l.file place)
  further : {l : Line} {ls : List Line} {r : Refusal} → Case ls r → Case (l ∷ ls) r

-- ---- the lines

-- what is stated
abbrev pub stated_line : Line
stated_line = line no_file (bad_horizon ∷ unknown_edition ∷ []) []

-- a row's own numbers, and 12, 13 and 15 over the rows
abbrev pub timetable_line : Line
timetable_line =
    line timetable_file (too_long ∷ bad_header ∷ [])
    (bad_row ∷ out_of_range ∷ too_many ∷ already_seen ∷ nominal_not_listed ∷ not_there ∷ wrong_samples ∷ no_subnet ∷ no_room ∷ [])

abbrev pub profiles_line : Line
profiles_line = line profiles_file (too_long ∷ bad_header ∷ []) (bad_row ∷ out_of_range ∷ too_many ∷ already_seen ∷ no_room ∷ [])

abbrev pub constraints_line : Line
constraints_line =
    line constraints_file (too_long ∷ [])
    (out_of_range ∷ too_many ∷ already_seen ∷ bad_json ∷ unknown_name ∷ repeated_or_missing ∷ not_there ∷ no_room ∷ [])

-- a row's own numbers, and 14; the file is 4 or 5
abbrev pub solution_line : (file : ℕ) → Line
solution_line file =
    line file (too_long ∷ bad_header ∷ []) (bad_row ∷ out_of_range ∷ too_many ∷ already_seen ∷ nominal_not_listed ∷ differs ∷ no_room ∷ [])

-- 16 of the curves, or of the text buffer
abbrev pub room_line : Line
room_line = line no_file (no_room ∷ []) []

abbrev pub travel_line : Line
travel_line = line second_file [] (unequal_travel ∷ [])

-- ---- THE TABLES

abbrev pub check_cases : List Line
check_cases = stated_line ∷ timetable_line ∷ profiles_line ∷ constraints_line ∷ solution_line solution_file ∷ []

abbrev pub report_cases : List Line
report_cases = room_line ∷ check_cases

abbrev pub merge_cases : List Line
merge_cases = room_line ∷ travel_line ∷ solution_line second_file ∷ check_cases

-- ---- a line as a test: what fits no line is no case (`case_fits` of proofs/Refusals.antt)

abbrev pub fits : Refusal → Line → Bool
fits r l = eqb r.file l.file && (among r.number l.inside || (among r.number l.at_start && eqb r.place 0))
