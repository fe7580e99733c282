-- The row that a refusal shows (document 01, "Display"): the one at its file and place, as a part of whichever text holds it, without its LF.
use Rattle.std.specs.Prelude.{ℕ, ◌-◌, Bool, not, cond, ◌&&◌, List, [], ltb, eqb, length, drop, get_or}
use Rattle.rules.specs.Lists.{lead}
use Rattle.rules.specs.Answers.{timetable_file, solution_file}
use Rattle.rules.specs.Bytes.{line_feed, less_return}

-- a row below the header starts just after an LF that is not the text's last byte
abbrev pub starts_row : List ℕ → ℕ → Bool
starts_row s place = ltb 0 place && (ltb place (length s) && eqb (get_or s (place - 1) 0) line_feed)

-- up to its LF, or to the text's end
abbrev pub line_of : List ℕ → List ℕ
line_of s = lead (λ b. not (eqb b line_feed)) s

-- what is shown of it: one CR just before the LF is dropped too
abbrev pub shown_of : List ℕ → List ℕ
shown_of s = cond (ltb (length (line_of s)) (length s)) (less_return (line_of s)) (line_of s)

unfoldable pub row_in : List ℕ → (place : ℕ) → List ℕ
row_in s place = cond (starts_row s place) (shown_of (drop place s)) []

unfoldable pub row_at : (draft solution : List ℕ) → (file place : ℕ) → List ℕ
row_at draft solution file place = cond (eqb file timetable_file) (row_in draft place) (cond (eqb file solution_file) (row_in solution place) [])
