-- Merges: equal departures, 17 and its place, and the order of verdicts, 17 and 16. Assumes nothing.
use Rattle.std.specs.Prelude.{ℕ, ◌-◌, ◌≡◌, refl, List, [], ◌∷◌, ◌++◌, replicate, length}
use Prim.Native.String.{String}
use Rattle.rules.specs.Answers.{violation, bad_header, bad_row, differs, unequal_travel, no_room, no_file, solution_file, second_file}
use Rattle.rules.specs.Bytes.{bytes}
use Rattle.rules.specs.Kinds.{not_offered, dwell}
use Rattle.rules.specs.Verdict.{All}
use Rattle.rules.specs.Merge.{earlier, later}
use Rattle.rules.specs.Entries.{Merged}
use Rattle.rules.specs.Computed.{computed}
use Rattle.rules.specs.Examples.{rows, curves, document, one_subnet}
use Rattle.rules.specs.declared.answers.Answer.{Answer}
use Rattle.rules.specs.declared.answers.Answer.TheVariants.{Accepted, Violated}
use Rattle.rules_corners.specs.Corner.{Input, input, room_for, choices_for, Merge, merging, refuses, violates}

-- ---- two legs. The first is offered at 10 by two profiles, at 15, and with another travel time; the second at 40 with two travel times, and at 60

abbrev profiles : List ℕ
profiles = curves "6,0.1 0.1\n7,0.5 1.0\n8,0.3\n"

abbrev solution : (first second : String) → List ℕ
solution one two =
    rows "1,1,1,1,2,"
    ++ bytes one ++ bytes ",10_2_6 10_2_7 15_2_6 12_1_8\n" ++ bytes "2,1,2,2,3," ++ bytes two ++ bytes ",40_2_6 40_1_8 60_2_6\n"

abbrev draft : List ℕ
draft = solution "10_2_6" "40_2_6"

-- where the rows start
abbrev first_row : ℕ
first_row = length (rows "")

abbrev second_row : ℕ
second_row = length (rows "1,1,1,1,2,10_2_6,10_2_6 10_2_7 15_2_6 12_1_8\n")

-- leg 2 departs at least 25 seconds after leg 1 arrives
abbrev constraints : List ℕ
constraints = document "{\"first_leg_id\": 1, \"second_leg_id\": 2, \"min_dwell_time\": 25}" one_subnet

abbrev given : List ℕ → Input
given first = input 100 draft profiles constraints first

-- ---- THE TABLE: room is lent for a text of so many bytes, zeros

pub data Corner : Type 0 where
  writes : Merge → (first second : List ℕ) → (text : List ℕ) → Corner
  answers : Merge → (first second : List ℕ) → (room : ℕ) → Answer → Corner

abbrev merged_in : Merge → (first second : List ℕ) → ℕ → Merged
merged_in merge first second n = merging merge (given first) second (room_for 2 7 3 5 1 2) (choices_for 2) (choices_for 2) (replicate n 0)

abbrev pub Right : Corner → Type 0
Right (writes merge first second s) = (merged_in merge first second (length s)).text ≡ s
Right (answers merge first second n a) = (merged_in merge first second n).answer ≡ a

abbrev violates_second : (kind position inequality shortfall : ℕ) → Answer
violates_second k n i m = Violated (violation k n i m second_file)

-- both accepted: each leg's choice, in short
abbrev early : List ℕ
early = solution "10_2_6" "40_2_6"

abbrev by_other : List ℕ
by_other = solution "10_2_7" "40_2_6"

abbrev latest : List ℕ
latest = solution "15_2_6" "60_2_6"

-- the second leg by its other travel time
abbrev quick : List ℕ
quick = solution "10_2_6" "40_1_8"

-- 15 + 2 + 25 is 42
abbrev too_soon : List ℕ
too_soon = solution "15_2_6" "40_2_6"

-- a choice that stands in no draft
abbrev unlisted : List ℕ
unlisted = rows "1,1,1,1,2,11_2_6,11_2_6\n2,1,2,2,3,60_2_6,60_2_6\n"

abbrev size : ℕ
size = length draft

abbrev pub merges : List Corner
merges =
    -- equal departures: the earlier merge takes the first file's choice, the later the second's
    writes earlier early by_other early
    ∷ writes earlier by_other early by_other
    ∷ writes later early by_other by_other
    ∷ writes later by_other early early
    -- leg by leg: one equal, one unequal
    ∷ writes earlier by_other latest by_other
    ∷ writes later latest by_other latest
    ∷ writes earlier (solution "15_2_6" "60_2_6") (solution "10_2_7" "60_2_6") (solution "10_2_7" "60_2_6")
    -- a solution with itself
    ∷ writes earlier latest latest latest
    ∷ writes later latest latest latest
    -- the output has the draft's list, whatever the solutions list
    ∷ writes earlier (rows "1,1,1,1,2,10_2_6,10_2_6\n2,1,2,2,3,40_2_6,40_2_6 7_2_6\n") latest early
    -- 17: in the second file, at the first row whose travel times differ
    ∷ answers earlier early quick size (refuses unequal_travel second_file second_row)
    ∷ answers later quick early size (refuses unequal_travel second_file second_row)
    ∷ answers earlier early (solution "12_1_8" "40_1_8") size (refuses unequal_travel second_file first_row)
    ∷ answers earlier quick quick size Accepted
    -- 17 before 16
    ∷ answers earlier early quick 0 (refuses unequal_travel second_file second_row)
    -- 16: one byte too short, and no room
    ∷ answers earlier early by_other size Accepted
    ∷ answers earlier early by_other (size - 1) (refuses no_room no_file 0)
    ∷ answers later early by_other 0 (refuses no_room no_file 0)
    -- a violation names its file, and comes before 17 and 16: the first's before the second's
    ∷ answers earlier too_soon latest size (violates dwell 0 1 2)
    ∷ answers earlier latest too_soon size (violates_second dwell 0 1 2)
    ∷ answers later too_soon unlisted 0 (violates dwell 0 1 2)
    ∷ answers later unlisted too_soon 0 (violates not_offered 0 0 0)
    ∷ answers later latest unlisted 0 (violates_second not_offered 0 0 0)
    ∷ answers later quick too_soon 0 (violates_second dwell 0 1 2)
    -- a refusal of the second file comes before both verdicts
    ∷ answers earlier too_soon [] size (refuses bad_header second_file 0)
    ∷ answers earlier too_soon (rows "") size (refuses differs second_file first_row)
    ∷ answers earlier too_soon (draft ++ bytes "x") size (refuses bad_row second_file size)
    -- and one of the first before any of the second
    ∷ answers later (rows "") [] size (refuses differs solution_file first_row)
    ∷ []

merges_hold : All Right merges
unfolding computed
merges_hold = (refl, (refl, (refl, (refl, (refl, (refl, (refl, (refl, (refl, (refl, (refl, (refl, (refl, (refl, (refl, (refl, (refl, (refl, (refl, (refl, (refl, (refl, (refl, (refl, (refl, (refl, (refl, (refl, tt))))))))))))))))))))))))))))
