-- What is left in every lent table, curve and text: after acceptance, after a violation, after a refusal. Assumes nothing.
use Rattle.std.specs.Prelude.{ℕ, ◌+◌, ◌-◌, ◌≡◌, refl, List, [], ◌∷◌, ◌++◌, replicate, length, ℤ, pos, neg_ℤ}
use Prim.Native.String.{String}
use Rattle.rules.specs.Limits.{leg_width, configuration_width, profile_width, constraint_width, track_width, unsigned_fill, signed_fill}
use Rattle.rules.specs.Answers.{violation, bad_header, bad_row, no_room, no_file, timetable_file, solution_file, second_file}
use Rattle.rules.specs.Bytes.{bytes, spelled}
use Rattle.rules.specs.Kinds.{not_offered, headway}
use Rattle.rules.specs.Tally.{no_tests}
use Rattle.rules.specs.Verdict.{All}
use Rattle.rules.specs.Energy.{desk_of}
use Rattle.rules.specs.Merge.{earlier, later}
use Rattle.rules.specs.Entries.{Tables, Checked, no_figures, Reported, Merged}
use Rattle.rules.specs.Computed.{computed}
use Rattle.rules.specs.Examples.{rows, curves, list, object, in_first}
use Rattle.rules.specs.declared.figures.Figures.{Figures}
use Rattle.rules.specs.declared.answers.Tally.{Tally}
use Rattle.rules.specs.declared.answers.Answer.{Answer}
use Rattle.rules.specs.declared.answers.Answer.TheVariants.{Accepted, Violated}
use Rattle.rules_corners.specs.Corner.{Input, input, room_for, choices_for, check, report, Merge, merging, refuses, violates}

-- ---- one leg with three entries, the nominal in its list twice; a headway of the leg with itself, which holds for h 0 alone

abbrev leg_is : (nominal : String) → List ℕ
leg_is n = rows "5,6,1,8,9," ++ bytes n ++ bytes ",0_2_7 1_2_7 1_2_7\n"

abbrev draft : List ℕ
draft = leg_is "1_2_7"

abbrev profiles : List ℕ
profiles = curves "7,0.5 -0.4\n"

abbrev constraints : (h : ℕ) → List ℕ
constraints h =
    object
    (list "single_track_headway_constraints" ""
    ∷ list "dwell_time_constraints" ""
    ∷ list "terminal_turnaround_constraints" ""
    ∷ list "connection_constraints" ""
    ∷ (bytes "\"headway_time_constraints\": [{\"first_leg_id\": 5, \"second_leg_id\": 5, \"min_headway_time\": " ++ spelled h ++ bytes "}]")
    ∷ list "recuperation_subnets" "{\"subnet_id\": 3, \"track_ids\": [1]}"
    ∷ [])

abbrev seconds : ℕ
seconds = 4

abbrev small : (h : ℕ) → (solution : List ℕ) → Input
small h s = input seconds draft profiles (constraints h) s

-- ---- lent: one record more than is needed, all nines

abbrev lent : Tables
lent = room_for 2 4 2 3 2 2

abbrev lent_choices : List ℕ
lent_choices = choices_for 2

abbrev lent_curves : List ℤ
lent_curves = replicate (seconds + 1) (pos 9)

-- ---- the tables as read, where the room past the last entry keeps its contents: five ids, first, count, and the nominal's lowest place

abbrev as_read : (h : ℕ) → Tables
as_read h =
    record {
      legs = 5 ∷ 6 ∷ 1 ∷ 8 ∷ 9 ∷ 0 ∷ 3 ∷ 1 ∷ replicate leg_width 9;
      configurations = 0 ∷ 2 ∷ 7 ∷ 1 ∷ 2 ∷ 7 ∷ 1 ∷ 2 ∷ 7 ∷ replicate configuration_width 9;
      profiles = 7 ∷ 0 ∷ 2 ∷ replicate profile_width 9;
      samples = pos 500 ∷ neg_ℤ (pos 400) ∷ pos 9 ∷ [];
      constraints = headway ∷ 0 ∷ 0 ∷ h ∷ 0 ∷ 0 ∷ replicate constraint_width 9;
      tracks = 1 ∷ 0 ∷ replicate track_width 9;
    }

abbrev choice_read : (departure : ℕ) → List ℕ
choice_read d = d ∷ 2 ∷ 7 ∷ replicate configuration_width 9

-- ---- the tables filled: every unsigned one with 4,294,967,295, every signed one with -2,147,483,648

abbrev full : Tables
full =
    record {
      legs = replicate 16 unsigned_fill;
      configurations = replicate 12 unsigned_fill;
      profiles = replicate 6 unsigned_fill;
      samples = replicate 3 signed_fill;
      constraints = replicate 12 unsigned_fill;
      tracks = replicate 4 unsigned_fill;
    }

abbrev full_choices : List ℕ
full_choices = replicate 6 unsigned_fill

abbrev full_curves : List ℤ
full_curves = replicate 5 signed_fill

-- ---- THE TABLE

pub data Corner : Type 0 where
  checks : Input → Checked → Corner
  reports : Input → (curves : List ℤ) → Reported → Corner
  merges : Merge → Input → (second : List ℕ) → (text : List ℕ) → Merged → Corner

abbrev pub Right : Corner → Type 0
Right (checks x r) = check x lent lent_choices ≡ r
Right (reports x p r) = report x lent lent_choices p ≡ r
Right (merges merge x second s r) = merging merge x second lent lent_choices lent_choices s ≡ r

abbrev checked_to : Answer → Tally → Tables → List ℕ → Checked
checked_to a n t c = record { answer = a; tally = n; tables = t; choices = c }

abbrev reported_to : Answer → Tally → Figures → Tables → List ℕ → List ℤ → Reported
reported_to a n g t c p = record { answer = a; tally = n; figures = g; desk = desk_of g; tables = t; choices = c; curves = p }

abbrev merged_to : Answer → Tally → (length : ℕ) → Tables → (choices second text : List ℕ) → Merged
merged_to a k n t c d s = record { answer = a; tally = k; length = n; tables = t; choices = c; second = d; text = s }

-- so many choices and inequalities of the headway were tested; two inequalities, where it holds
abbrev tested : (choices headways : ℕ) → Tally
tested n m = record { kinds = n ∷ m ∷ 0 ∷ 0 ∷ 0 ∷ 0 ∷ []; total = n + m }

-- a buffer of sevens
abbrev buffer : ℕ → List ℕ
buffer n = replicate n 7

-- the size of the draft, and of each merged text
abbrev size : ℕ
size = length draft

-- a choice that stands in the solution's list alone
abbrev unlisted : List ℕ
unlisted = rows "5,6,1,8,9,2_2_7,2_2_7\n"

abbrev figures_read : Figures
figures_read = record { before = 500; drawn = 500; lost = 400; fluctuation = pos 900; peaks = in_first 500 500 }

abbrev violates_second : (kind position inequality shortfall : ℕ) → Answer
violates_second k n i m = Violated (violation k n i m second_file)

abbrev pub lefts : List Corner
lefts =
    -- a check: accepted, and violated, "the tables stay as read"
    checks (small 0 draft) (checked_to Accepted (tested 1 2) (as_read 0) (choice_read 1))
    ∷ checks (small 0 (leg_is "0_2_7")) (checked_to Accepted (tested 1 2) (as_read 0) (choice_read 0))
    ∷ checks (small 1 draft) (checked_to (violates headway 0 1 1) (tested 1 1) (as_read 1) (choice_read 1))
    ∷ checks (small 0 unlisted) (checked_to (violates not_offered 0 0 0) (tested 1 0) (as_read 0) (choice_read 2))
    -- refused by the first text or by the last, every table is filled whole
    ∷ checks (input seconds [] profiles (constraints 0) draft) (checked_to (refuses bad_header timetable_file 0) no_tests full full_choices)
    ∷ checks (small 0 (draft ++ bytes "\n")) (checked_to (refuses bad_row solution_file size) no_tests full full_choices)
    -- a report: with one place of curves to spare; violated, it fills the curves and no other table, and its figures are 0
    ∷ reports (small 0 draft) lent_curves
    (reported_to Accepted (tested 1 2) figures_read (as_read 0) (choice_read 1) (pos 0 ∷ pos 500 ∷ neg_ℤ (pos 400) ∷ pos 0 ∷ pos 9 ∷ []))
    ∷ reports (small 1 draft) lent_curves (reported_to (violates headway 0 1 1) (tested 1 1) no_figures (as_read 1) (choice_read 1) full_curves)
    ∷ reports (small 0 []) lent_curves (reported_to (refuses bad_header solution_file 0) no_tests no_figures full full_choices full_curves)
    -- curves that do not fit are 16, as any refusal; only after acceptance
    ∷ reports (small 0 draft) (replicate 3 (pos 9)) (reported_to (refuses no_room no_file 0) no_tests no_figures full full_choices (replicate 3 signed_fill))
    ∷ reports (small 0 draft) [] (reported_to (refuses no_room no_file 0) no_tests no_figures full full_choices [])
    ∷ reports (small 1 draft) [] (reported_to (violates headway 0 1 1) (tested 1 1) no_figures (as_read 1) (choice_read 1) [])
    -- a merge: the text, and past it what stood there
    ∷ merges earlier (small 0 draft) (leg_is "0_2_7") (buffer (size + 2)) (merged_to Accepted no_tests size (as_read 0) (choice_read 1) (choice_read 0) (leg_is "0_2_7" ++ buffer 2))
    ∷ merges later (small 0 draft) (leg_is "0_2_7") (buffer size) (merged_to Accepted no_tests size (as_read 0) (choice_read 1) (choice_read 0) draft)
    -- violated by the first solution or by the second: the tables stay as read, the text buffer is zeroed, its size is 0
    ∷ merges earlier (small 1 draft) (leg_is "0_2_7") (buffer 2) (merged_to (violates headway 0 1 1) (tested 1 1) 0 (as_read 1) (choice_read 1) (choice_read 0) (0 ∷ 0 ∷ []))
    ∷ merges later (small 0 draft) unlisted (buffer 2) (merged_to (violates_second not_offered 0 0 0) (tested 1 0) 0 (as_read 0) (choice_read 1) (choice_read 2) (0 ∷ 0 ∷ []))
    -- refused: by the second solution, or by a buffer one byte too short
    ∷ merges later (small 1 draft) [] (buffer 2) (merged_to (refuses bad_header second_file 0) no_tests 0 full full_choices full_choices (0 ∷ 0 ∷ []))
    ∷ merges earlier (small 0 draft) draft (buffer (size - 1)) (merged_to (refuses no_room no_file 0) no_tests 0 full full_choices full_choices (replicate (size - 1) 0))
    ∷ []

lefts_hold : All Right lefts
unfolding computed
lefts_hold = (refl, (refl, (refl, (refl, (refl, (refl, (refl, (refl, (refl, (refl, (refl, (refl, (refl, (refl, (refl, (refl, (refl, (refl, tt))))))))))))))))))
