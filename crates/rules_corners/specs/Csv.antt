-- CSV rows: their form, the lowest number in a row, 12 to 14 over rows, where the laws' `Numbers` has no text. Assumes nothing.
use Rattle.std.specs.Prelude.{ℕ, ◌+◌, ◌≡◌, refl, List, [], ◌∷◌, ◌++◌, replicate, length}
use Prim.Native.String.{String}
use Rattle.rules.specs.Limits.{most_listed}
use Rattle.rules.specs.Answers.{bad_row, out_of_range, too_many, already_seen, nominal_not_listed, not_there, wrong_samples, differs, timetable_file, profiles_file, solution_file}
use Rattle.rules.specs.Bytes.{bytes, joined, space}
use Rattle.rules.specs.Timetable.{timetable_header}
use Rattle.rules.specs.Verdict.{All}
use Rattle.rules.specs.Computed.{computed}
use Rattle.rules.specs.Examples.{draft, profiles, rows, curves, dwell20}
use Rattle.rules.specs.declared.answers.Answer.{Answer}
use Rattle.rules.specs.declared.answers.Answer.TheVariants.{Accepted}
use Rattle.rules_corners.specs.Corner.{Input, input, room_for, choices_for, check, refuses}

-- ---- the worked example's first rows

abbrev first_row : String
first_row = "1,1,1,1,2,10_4_7,10_4_7 15_4_7\n"

abbrev first_curve : String
first_curve = "7,0.5 1.0 0.25 -0.4\n"

-- ---- THE TABLE: the fault is in the row that starts where the text is cut

pub data Corner : Type 0 where
  legs : (number : ℕ) → (before after : String) → Corner
  profile : (number : ℕ) → (before after : String) → Corner
  chosen : (number : ℕ) → (before after : String) → Corner
  -- such bytes in place of the first row
  leg_bytes : (number : ℕ) → List ℕ → Corner
  reads : (timetable profiles solution : List ℕ) → Corner

abbrev given : Input → Answer
given x = (check x (room_for 3 6 3 9 1 2) (choices_for 3)).answer

abbrev pub Right : Corner → Type 0
Right (legs n before after) = given (input 100 (rows before ++ bytes after) profiles dwell20 draft) ≡ refuses n timetable_file (length (rows before))
Right (profile n before after) = given (input 100 draft (curves before ++ bytes after) dwell20 draft) ≡ refuses n profiles_file (length (curves before))
Right (chosen n before after) = given (input 100 draft profiles dwell20 (rows before ++ bytes after)) ≡ refuses n solution_file (length (rows before))
Right (leg_bytes n bs) = given (input 100 (timetable_header ++ bs) profiles dwell20 draft) ≡ refuses n timetable_file (length timetable_header)
Right (reads t p s) = given (input 100 t p dwell20 s) ≡ Accepted

-- a row with one entry too many, by its leg and its nominal
abbrev too_many_listed : (leg nominal : String) → List ℕ
too_many_listed leg nominal =
    bytes leg ++ bytes ",1,1,1,2," ++ bytes nominal ++ bytes "," ++ joined space (replicate (most_listed + 1) (bytes "10_4_7")) ++ bytes "\n"

abbrev pub csv : List Corner
csv =
    -- 4: an LF too many just below the header; a tab, a blank, a field too many, fields with nothing in them
    legs bad_row "" "\n"
    ∷ legs bad_row "" "1\t1,1,1,2,10_4_7,10_4_7\n"
    ∷ legs bad_row "" " 1,1,1,1,2,10_4_7,10_4_7\n"
    ∷ legs bad_row "" "1,1,1,1,2,10_4_7,10_4_7,\n"
    ∷ legs bad_row "" "1,,1,1,2,10_4_7,10_4_7\n"
    ∷ legs bad_row "" ",1,1,1,2,10_4_7,10_4_7\n"
    ∷ legs bad_row "" ",,,,,,\n"
    ∷ legs bad_row "" "1,1,1,1,2,,10_4_7\n"
    ∷ legs bad_row "" "1,1,1,1,2,10_4_7, 10_4_7\n"
    ∷ legs bad_row "" "1,1,1,1,2,10_4_7 15_4_7,10_4_7 15_4_7\n"
    -- numbers: a sign, a needless zero, a point; an entry of two or four, or with one that has no digits
    ∷ legs bad_row "" "-0,1,1,1,2,10_4_7,10_4_7\n"
    ∷ legs bad_row "" "+1,1,1,1,2,10_4_7,10_4_7\n"
    ∷ legs bad_row "" "00,1,1,1,2,10_4_7,10_4_7\n"
    ∷ legs bad_row "" "1,1,1,1,2,10_4_7,10_04_7\n"
    ∷ legs bad_row "" "1,1,1,1,2,10_4_7,10.0_4_7\n"
    ∷ legs bad_row "" "1,1,1,1,2,10_4_7,10_4_7_1\n"
    ∷ legs bad_row "" "1,1,1,1,2,10_4_7,10__7\n"
    ∷ legs bad_row "" "1,1,1,1,2,10_4_7,_4_7\n"
    ∷ legs bad_row "" "1,1,1,1,2,10_4_7,10-4-7\n"
    -- bytes that are no text: a zero byte, digits of another script
    ∷ leg_bytes bad_row (0 ∷ bytes "1,1,1,1,2,10_4_7,10_4_7\n")
    ∷ leg_bytes bad_row (217 ∷ 161 ∷ bytes ",1,1,1,2,10_4_7,10_4_7\n")
    -- 5 however long a number is: it never wraps around 2^32 or 2^64
    ∷ legs out_of_range "" "1,1,1,1,2,4294967306_4_7,10_4_7\n"
    ∷ legs out_of_range "" "1,1,1,1,2,10_4294967300_7,10_4_7\n"
    ∷ legs out_of_range "" "1,1,1,1,2,10_4_4294967303,10_4_7\n"
    ∷ legs out_of_range "" "1,1,1,1,2,18446744073709551626_4_7,10_4_7\n"
    ∷ legs out_of_range "" "18446744073709551617,1,1,1,2,10_4_7,10_4_7\n"
    -- the lowest number in the row: 4 before 5, 7 and 8, 5 before 6, 7 and 8, 6 before 8
    ∷ legs bad_row "" "1,1,1,1,1000000000,97_4_7,\n"
    ∷ legs bad_row first_row "1,1,1,1,2,10_4_7,15_4_7"
    ∷ legs out_of_range first_row "1,1,1,1,2,10_4_7,15_4_7 97_4_7\n"
    ∷ leg_bytes out_of_range (too_many_listed "1000000000" "10_4_7")
    ∷ leg_bytes too_many (too_many_listed "1" "15_4_7")
    -- the first row at fault, though the next has a lower number
    ∷ legs nominal_not_listed "" "1,1,1,1,2,10_4_7,15_4_7\n\n"
    -- a row that repeats its nominal is good, and so is one whose nominal is its last entry
    ∷ reads (rows "1,1,1,1,2,15_4_7,10_4_7 10_4_7 15_4_7\n2,1,2,2,3,40_3_8,40_3_8 40_3_8\n") profiles (rows "1,1,1,1,2,15_4_7,15_4_7\n2,1,2,2,3,40_3_8,40_3_8\n")
    -- leg ids and profile ids in any order
    ∷ reads (rows "2,1,1,1,2,40_4_7,40_4_7\n1,1,2,2,3,10_3_8,10_3_8\n") (curves "8,0.3 0.0 -0.2\n7,0.5 1.0 0.25 -0.4\n") (rows "2,1,1,1,2,40_4_7,40_4_7\n1,1,2,2,3,10_3_8,10_3_8\n")
    -- profiles, 4: an id alone, nothing, an id with a sign or a needless zero; a sign alone, two signs, two points, no digit before the point, an exponent, a blank too many, no LF
    ∷ profile bad_row "" "7\n"
    ∷ profile bad_row "" "\n"
    ∷ profile bad_row "" "-7,0.5\n"
    ∷ profile bad_row "" "07,0.5\n"
    ∷ profile bad_row "" "7,-\n"
    ∷ profile bad_row "" "7,--0.5\n"
    ∷ profile bad_row "" "7,0.5.0\n"
    ∷ profile bad_row "" "7,-.5\n"
    ∷ profile bad_row "" "7,- 0.5\n"
    ∷ profile bad_row "" "7,1e1\n"
    ∷ profile bad_row "" "7,0.5e1\n"
    ∷ profile bad_row "" "7,0.-5\n"
    ∷ profile bad_row "" "7,-00.5\n"
    ∷ profile bad_row "" "7,0.5  1.0\n"
    ∷ profile bad_row "" "7, 0.5\n"
    ∷ profile bad_row "" "7,0.5 \n"
    ∷ profile bad_row "" "7,0.5 0.5"
    -- `20.0001` breaks the form before it is out of range; a great number is out of range
    ∷ profile bad_row "" "7,20.0001\n"
    ∷ profile out_of_range "" "7,20.01\n"
    ∷ profile out_of_range "" "7,21.0\n"
    ∷ profile out_of_range "" "7,-20.01\n"
    ∷ profile out_of_range "" "7,18446744073709551616.5\n"
    ∷ profile out_of_range "" "4294967303,0.5\n"
    -- 4 before 5, 5 before 7; the first row at fault
    ∷ profile bad_row "" "7,20.001 5\n"
    ∷ profile out_of_range first_curve "7,20.001\n"
    ∷ profile already_seen first_curve "7,0.5\n7\n"
    -- 12 and 13: one pass over the rows, every entry counts
    ∷ legs wrong_samples "" "1,1,1,1,2,10_4_7,10_4_7 15_3_7\n2,1,2,2,3,40_3_9,40_3_9\n"
    ∷ legs wrong_samples "" "1,1,1,1,2,10_4_7,10_4_7 15_5_7\n"
    ∷ legs not_there first_row "2,1,2,2,3,40_3_8,40_3_8 45_3_6\n"
    -- 14: each of the first five columns; two rows changed round; the columns only
    ∷ chosen differs "" "3,1,1,1,2,10_4_7,10_4_7\n2,1,2,2,3,40_3_8,40_3_8\n"
    ∷ chosen differs "" "1,2,1,1,2,10_4_7,10_4_7\n2,1,2,2,3,40_3_8,40_3_8\n"
    ∷ chosen differs "" "1,1,2,1,2,10_4_7,10_4_7\n2,1,2,2,3,40_3_8,40_3_8\n"
    ∷ chosen differs "" "1,1,1,2,2,10_4_7,10_4_7\n2,1,2,2,3,40_3_8,40_3_8\n"
    ∷ chosen differs "" "1,1,1,1,1,10_4_7,10_4_7\n2,1,2,2,3,40_3_8,40_3_8\n"
    ∷ chosen differs "" "2,1,2,2,3,40_3_8,40_3_8\n1,1,1,1,2,10_4_7,10_4_7\n"
    ∷ reads draft profiles (rows "1,1,1,1,2,15_4_7,99_1_0 15_4_7\n2,1,2,2,3,40_3_8,40_3_8\n")
    -- a row too many that differs in nothing else is 7 before it is 14
    ∷ chosen already_seen "1,1,1,1,2,10_4_7,10_4_7\n2,1,2,2,3,40_3_8,40_3_8\n" "2,1,2,2,3,40_3_8,40_3_8\n"
    ∷ []

csv_hold : All Right csv
unfolding computed
csv_hold = (refl, (refl, (refl, (refl, (refl, (refl, (refl, (refl, (refl, (refl, (refl, (refl, (refl, (refl, (refl, (refl, (refl, (refl, (refl, (refl, (refl, (refl, (refl, (refl, (refl, (refl, (refl, (refl, (refl, (refl, (refl, (refl, (refl, (refl, (refl, (refl, (refl, (refl, (refl, (refl, (refl, (refl, (refl, (refl, (refl, (refl, (refl, (refl, (refl, (refl, (refl, (refl, (refl, (refl, (refl, (refl, (refl, (refl, (refl, (refl, (refl, (refl, (refl, (refl, (refl, (refl, (refl, (refl, (refl, (refl, (refl, tt)))))))))))))))))))))))))))))))))))))))))))))))))))))))))))))))))))))))
