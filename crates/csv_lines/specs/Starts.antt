-- Where the row at a file and place starts; 0 where none does.
use Rattle.std.specs.Prelude.{ℕ, cond, List, eqb}
use Rattle.rules.specs.Answers.{timetable_file, solution_file}
use Rattle.rules.specs.Display.{starts_row}

abbrev pub start_in : List ℕ → (place : ℕ) → ℕ
start_in s place = cond (starts_row s place) place 0

abbrev pub start_at : (draft solution : List ℕ) → (file place : ℕ) → ℕ
start_at draft solution file place = cond (eqb file timetable_file) (start_in draft place) (cond (eqb file solution_file) (start_in solution place) 0)
