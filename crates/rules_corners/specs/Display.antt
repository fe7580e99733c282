-- The row at a file and place, for display: every file, places in and past a text, lines with nothing in them. Assumes nothing.
use Rattle.std.specs.Prelude.{ℕ, ◌≡◌, refl, List, [], ◌∷◌}
use Rattle.rules.specs.Answers.{no_file, timetable_file, profiles_file, constraints_file, solution_file, second_file}
use Rattle.rules.specs.Bytes.{bytes}
use Rattle.rules.specs.Verdict.{All}
use Rattle.rules.specs.Display.{row_at}
use Rattle.rules.specs.Computed.{computed}

-- ---- texts: the header is the first line, whatever it says

-- starts at 0, 2, 5 and 6: an empty line is the third
abbrev draft : List ℕ
draft = bytes "h\nab\n\ncd\n"

-- the last row lacks its LF
abbrev solution : List ℕ
solution = bytes "head\nrow\nlast"

-- ---- THE TABLE

pub data Corner : Type 0 where
  shows : (draft solution : List ℕ) → (file place : ℕ) → (row : List ℕ) → Corner

abbrev pub Right : Corner → Type 0
Right (shows d s file place row) = row_at d s file place ≡ row

abbrev pub displays : List Corner
displays =
    -- a row of the draft, and of the solution, without its LF
    shows draft solution timetable_file 2 (bytes "ab")
    ∷ shows draft solution timetable_file 6 (bytes "cd")
    ∷ shows draft solution solution_file 5 (bytes "row")
    -- "a row without LF runs to the text's end"
    ∷ shows draft solution solution_file 9 (bytes "last")
    -- "If the file is neither 1 nor 4 .. the part is empty": the place would be good in either
    ∷ shows draft draft no_file 2 []
    ∷ shows draft draft profiles_file 2 []
    ∷ shows draft draft constraints_file 2 []
    ∷ shows draft draft second_file 2 []
    ∷ shows draft draft 6 2 []
    -- "or no row below the header starts there": the header, the middle of a row, its LF
    ∷ shows draft solution timetable_file 0 []
    ∷ shows draft solution solution_file 0 []
    ∷ shows draft solution timetable_file 1 []
    ∷ shows draft solution timetable_file 3 []
    ∷ shows draft solution timetable_file 4 []
    ∷ shows draft solution solution_file 12 []
    -- the place of an empty line, whose row has no bytes
    ∷ shows draft solution timetable_file 5 []
    -- at the text's length, after its last LF, and past it
    ∷ shows draft solution timetable_file 9 []
    ∷ shows draft solution timetable_file 10 []
    ∷ shows draft solution solution_file 13 []
    -- no text; one LF; a text that has no LF; two LF, where the second line is empty
    ∷ shows [] [] timetable_file 0 []
    ∷ shows [] [] solution_file 1 []
    ∷ shows (bytes "\n") [] timetable_file 1 []
    ∷ shows (bytes "header") [] timetable_file 3 []
    ∷ shows (bytes "\n\n") [] timetable_file 1 []
    ∷ shows (bytes "\na") [] timetable_file 1 (bytes "a")
    -- one CR just before the LF goes with it, and no other; quotes stay; a CR by itself is no line's end
    ∷ shows (bytes "h\r\na\r\nb") [] timetable_file 3 (bytes "a")
    ∷ shows (bytes "h\na\r\r\n") [] timetable_file 2 (bytes "a\r")
    ∷ shows (bytes "h\n\ra\n") [] timetable_file 2 (bytes "\ra")
    ∷ shows (bytes "h\n\r\n") [] timetable_file 2 []
    ∷ shows (bytes "h\n\r") [] timetable_file 2 (bytes "\r")
    ∷ shows [] (bytes "h\r\n\"a\",b\r\n") solution_file 3 (bytes "\"a\",b")
    ∷ shows (bytes "h\ra\rb") [] timetable_file 2 []
    ∷ []

displays_hold : All Right displays
unfolding computed
displays_hold = (refl, (refl, (refl, (refl, (refl, (refl, (refl, (refl, (refl, (refl, (refl, (refl, (refl, (refl, (refl, (refl, (refl, (refl, (refl, (refl, (refl, (refl, (refl, (refl, (refl, (refl, (refl, (refl, (refl, (refl, (refl, (refl, tt))))))))))))))))))))))))))))))))
