-- Empty files, headers alone, no legs, no subnets. Assumes nothing.
use Rattle.std.specs.Prelude.{ℕ, ◌+◌, ◌-◌, ◌≡◌, refl, List, [], ◌∷◌, ◌++◌, replicate, length, take, ℤ, pos}
use Rattle.rules.specs.Answers.{bad_header, not_there, differs, no_subnet, no_room, no_file, timetable_file, profiles_file, constraints_file, solution_file, second_file}
use Rattle.rules.specs.Bytes.{bytes}
use Rattle.rules.specs.Timetable.{timetable_header}
use Rattle.rules.specs.Profiles.{profiles_header}
use Rattle.rules.specs.Tally.{no_tests}
use Rattle.rules.specs.Verdict.{All}
use Rattle.rules.specs.Merge.{earlier, later}
use Rattle.rules.specs.Energy.{desk_of}
use Rattle.rules.specs.Entries.{no_figures, Reported, Merged}
use Rattle.rules.specs.Computed.{computed}
use Rattle.rules.specs.Examples.{draft, profiles, rows, dwell20, one_subnet}
use Rattle.rules.specs.declared.answers.Answer.{Answer}
use Rattle.rules.specs.declared.answers.Answer.TheVariants.{Accepted}
use Rattle.rules_corners.specs.Corner.{Input, input, no_room_at_all, report, answer_to, Merge, merging, refuses, six_lists}

-- ---- the texts

-- where the rows start
abbrev rows_at : ℕ
rows_at = length timetable_header

-- a header that lacks its LF
abbrev cut_header : List ℕ
cut_header = take (rows_at - 1) timetable_header

abbrev cut_profiles : List ℕ
cut_profiles = take (length profiles_header - 1) profiles_header

abbrev nothing : List ℕ
nothing = six_lists "" "" "" "" "" ""

abbrev subnet : List ℕ
subnet = six_lists "" "" "" "" "" "{\"subnet_id\": 1, \"track_ids\": []}"

-- up to the number of a leg
abbrev dwell_of : List ℕ
dwell_of = bytes "{\"dwell_time_constraints\": [{\"first_leg_id\": "

abbrev one_row : List ℕ
one_row = rows "1,1,1,1,2,10_4_7,10_4_7\n"

-- ---- THE TABLE

pub data Corner : Type 0 where
  answers : Input → Answer → Corner
  -- with no room in any table, but for so many seconds of curves
  reports : Input → (seconds : ℕ) → (curves : List ℤ) → Corner
  merges : Merge → Input → (second : List ℕ) → (room : ℕ) → Merged → Corner

-- accepted with no number in any table, nothing tested, and every figure 0
abbrev pub all_zero : List ℤ → Reported
all_zero p = record { answer = Accepted; tally = no_tests; figures = no_figures; desk = desk_of no_figures; tables = no_room_at_all; choices = []; curves = p }

abbrev pub Right : Corner → Type 0
Right (answers x a) = answer_to x ≡ a
Right (reports x n p) = report x no_room_at_all [] (replicate n (pos 9)) ≡ all_zero p
Right (merges merge x second n m) = merging merge x second no_room_at_all [] [] (replicate n 9) ≡ m

abbrev headers_alone : List ℕ → Input
headers_alone c = input 3 timetable_header profiles_header c timetable_header

abbrev empty_merge : Answer → (length : ℕ) → (text : List ℕ) → Merged
empty_merge a n s = record { answer = a; tally = no_tests; length = n; tables = no_room_at_all; choices = []; second = []; text = s }

abbrev pub empties : List Corner
empties =
    -- an empty profiles.csv, an empty solution, a header that lacks its LF: 3
    answers (input 100 draft [] dwell20 draft) (refuses bad_header profiles_file 0)
    ∷ answers (input 100 draft cut_profiles dwell20 draft) (refuses bad_header profiles_file 0)
    ∷ answers (input 100 draft profiles dwell20 []) (refuses bad_header solution_file 0)
    ∷ answers (input 100 draft profiles dwell20 cut_header) (refuses bad_header solution_file 0)
    -- all four empty: the timetable comes first. An empty line is no header
    ∷ answers (input 100 [] [] [] []) (refuses bad_header timetable_file 0)
    ∷ answers (input 100 (bytes "\n") profiles dwell20 draft) (refuses bad_header timetable_file 0)
    -- "A header with no rows is legal": no legs and no subnets need no room, and every figure is 0
    ∷ reports (headers_alone nothing) 0 []
    -- room that is not needed keeps its contents
    ∷ reports (headers_alone nothing) 2 (pos 9 ∷ pos 9 ∷ [])
    -- no legs, and a subnet with no tracks: a curve of zeros, and then what stood there
    ∷ reports (headers_alone subnet) 4 (pos 0 ∷ pos 0 ∷ pos 0 ∷ pos 9 ∷ [])
    -- no legs, and tracks that no leg uses
    ∷ answers (input 100 timetable_header profiles (six_lists "" "" "" "" "" one_subnet) timetable_header) Accepted
    -- a profile that no leg uses
    ∷ answers (input 100 timetable_header profiles nothing timetable_header) Accepted
    -- a record that names a leg where there is none: 12 at the number
    ∷ answers (input 100 timetable_header profiles_header (dwell_of ++ bytes "1}]}") timetable_header) (refuses not_there constraints_file (length dwell_of))
    -- legs and no subnets: 15 at the first row
    ∷ answers (input 100 draft profiles nothing draft) (refuses no_subnet timetable_file rows_at)
    -- legs and no profiles: 12 at the first row, before anything of the constraints
    ∷ answers (input 100 draft profiles_header [] []) (refuses not_there timetable_file rows_at)
    -- a row in the solution and none in the draft: 14 at that row. None in the solution, and two in the draft: 14 at the solution's length
    ∷ answers (input 100 timetable_header profiles_header nothing one_row) (refuses differs solution_file rows_at)
    ∷ answers (input 100 draft profiles dwell20 timetable_header) (refuses differs solution_file rows_at)
    -- two solutions with no rows merge to the header alone
    ∷ merges earlier (headers_alone nothing) timetable_header rows_at (empty_merge Accepted rows_at timetable_header)
    ∷ merges later (headers_alone nothing) timetable_header (rows_at + 1) (empty_merge Accepted rows_at (timetable_header ++ 9 ∷ []))
    -- which does not fit in no room: 16
    ∷ merges earlier (headers_alone nothing) timetable_header 0 (empty_merge (refuses no_room no_file 0) 0 [])
    ∷ merges later (headers_alone nothing) timetable_header 3 (empty_merge (refuses no_room no_file 0) 0 (0 ∷ 0 ∷ 0 ∷ []))
    -- an empty second solution, and one whose header lacks its LF
    ∷ merges earlier (headers_alone nothing) [] 1 (empty_merge (refuses bad_header second_file 0) 0 (0 ∷ []))
    ∷ merges later (headers_alone nothing) cut_header 1 (empty_merge (refuses bad_header second_file 0) 0 (0 ∷ []))
    ∷ []

empties_hold : All Right empties
unfolding computed
empties_hold = (refl, (refl, (refl, (refl, (refl, (refl, (refl, (refl, (refl, (refl, (refl, (refl, (refl, (refl, (refl, (refl, (refl, (refl, (refl, (refl, (refl, (refl, tt))))))))))))))))))))))
