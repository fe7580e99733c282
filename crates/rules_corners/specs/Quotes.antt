-- Quoted fields and CR LF (document 02, E1) in every place of a line, where the worked examples have no text. Assumes nothing.
use Rattle.std.specs.Prelude.{ℕ, ◌≡◌, refl, List, [], ◌∷◌, ◌++◌, length}
use Prim.Native.String.{String}
use Rattle.rules.specs.Answers.{bad_header, bad_row, out_of_range, already_seen, nominal_not_listed, differs, timetable_file, profiles_file, solution_file}
use Rattle.rules.specs.Bytes.{bytes}
use Rattle.rules.specs.Verdict.{All}
use Rattle.rules.specs.Computed.{computed}
use Rattle.rules.specs.Examples.{draft, profiles, rows, curves, dwell20, quoted_header, quoted_draft, quoted_profiles}
use Rattle.rules.specs.declared.answers.Answer.{Answer}
use Rattle.rules.specs.declared.answers.Answer.TheVariants.{Accepted}
use Rattle.rules_corners.specs.Corner.{Input, input, room_for, choices_for, check, refuses}

-- ---- THE TABLE: the fault is in the row that starts where the text is cut; a header's is at 0

pub data Corner : Type 0 where
  legs : (number : ℕ) → (before after : String) → Corner
  profile : (number : ℕ) → (before after : String) → Corner
  -- below a header with quotes and CR LF: a place counts every byte
  chosen : (number : ℕ) → (before after : String) → Corner
  heads : (timetable : String) → Corner
  profile_heads : (profiles : String) → Corner
  reads : (timetable profiles solution : List ℕ) → Corner

abbrev given : Input → Answer
given x = (check x (room_for 3 6 3 9 1 2) (choices_for 3)).answer

abbrev pub Right : Corner → Type 0
Right (legs n before after) = given (input 100 (rows before ++ bytes after) profiles dwell20 draft) ≡ refuses n timetable_file (length (rows before))
Right (profile n before after) = given (input 100 draft (curves before ++ bytes after) dwell20 draft) ≡ refuses n profiles_file (length (curves before))
Right (chosen n before after) =
    given (input 100 draft profiles dwell20 (quoted_header ++ bytes before ++ bytes after)) ≡ refuses n solution_file (length (quoted_header ++ bytes before))
Right (heads t) = given (input 100 (bytes t) profiles dwell20 draft) ≡ refuses bad_header timetable_file 0
Right (profile_heads p) = given (input 100 draft (bytes p) dwell20 draft) ≡ refuses bad_header profiles_file 0
Right (reads t p s) = given (input 100 t p dwell20 s) ≡ Accepted

abbrev pub quoted : List Corner
quoted =
    -- read: every file in quotes; some fields of some lines; CR LF on some lines
    reads quoted_draft quoted_profiles quoted_draft
    ∷ reads (rows "\"1\",1,\"1\",1,2,\"10_4_7\",10_4_7 15_4_7\r\n2,1,2,2,3,40_3_8,\"40_3_8 45_3_8\"\n") profiles quoted_draft
    ∷ reads (bytes "leg_id,\"train_id\",track_id,start_station_id,end_station_id,nominal_departure_configuration,departure_configurations\r\n1,1,1,1,2,10_4_7,10_4_7 15_4_7\n2,1,2,2,3,40_3_8,40_3_8 45_3_8\r\n") (bytes "\"profile_id\",power_consumptions\r\n7,0.5 1.0 0.25 -0.4\n\"8\",0.3 0.0 -0.2\r\n") draft
    -- 4, quotes about a part of a field, or about two fields; a byte before or behind them
    ∷ legs bad_row "" "1,1,1,1,2,10_4_7,\"10_4_7\" \"15_4_7\"\n"
    ∷ legs bad_row "" "1,1,1,1,2,10_4_7,10_4_7 \"15_4_7\"\n"
    ∷ legs bad_row "" "1,1,1,1,2,\"10\"_4_7,10_4_7\n"
    ∷ legs bad_row "" " \"1\",1,1,1,2,10_4_7,10_4_7\n"
    ∷ legs bad_row "" "\"1\" ,1,1,1,2,10_4_7,10_4_7\n"
    ∷ legs bad_row "" "\"1\"1,1,1,1,2,10_4_7,10_4_7\n"
    ∷ legs bad_row "" "1\"1\",1,1,1,2,10_4_7,10_4_7\n"
    ∷ legs bad_row "" "\"1,1,1,1,2,10_4_7,10_4_7\"\n"
    ∷ legs bad_row "" "1,1,1,1,2,\"10_4_7,10_4_7\"\n"
    -- 4, a quote that has no partner, a doubled one, quotes and nothing else; another kind of quote
    ∷ legs bad_row "" "\"1,1,1,1,2,10_4_7,10_4_7\n"
    ∷ legs bad_row "" "1\",1,1,1,2,10_4_7,10_4_7\n"
    ∷ legs bad_row "" "\"1\"\",1,1,1,2,10_4_7,10_4_7\n"
    ∷ legs bad_row "" "\"\"1\",1,1,1,2,10_4_7,10_4_7\n"
    ∷ legs bad_row "" "\"\"\"1\"\"\",1,1,1,2,10_4_7,10_4_7\n"
    ∷ legs bad_row "" "1,1,1,1,2,10_4_7,10_4_7\"\n"
    ∷ legs bad_row "" "\"\n"
    ∷ legs bad_row "" "\"\"\n"
    ∷ legs bad_row "" "\"\",\"\",\"\",\"\",\"\",\"\",\"\"\n"
    ∷ legs bad_row "" "'1',1,1,1,2,10_4_7,10_4_7\n"
    -- 4, an LF within quotes ends the row in which they were opened; so does the text
    ∷ legs bad_row "" "\"1\n\",1,1,1,2,10_4_7,10_4_7\n"
    ∷ legs bad_row "1,1,1,1,2,10_4_7,10_4_7 15_4_7\n" "2,1,2,2,3,40_3_8,\"40_3_8\n45_3_8\"\n"
    ∷ legs bad_row "1,1,1,1,2,10_4_7,10_4_7 15_4_7\n" "2,1,2,2,3,40_3_8,\"40_3_8 45_3_8\""
    -- 4, the old form rules within quotes
    ∷ legs bad_row "" "\" 1\",1,1,1,2,10_4_7,10_4_7\n"
    ∷ legs bad_row "" "\"01\",1,1,1,2,10_4_7,10_4_7\n"
    ∷ legs bad_row "" "\"-1\",1,1,1,2,10_4_7,10_4_7\n"
    ∷ legs bad_row "" "1,1,1,1,2,10_4_7,\"10_4_7 \"\n"
    ∷ legs bad_row "" "1,1,1,1,2,\"10_4_7 15_4_7\",10_4_7 15_4_7\n"
    -- 4, a CR anywhere but once just before the LF
    ∷ legs bad_row "" "1\r,1,1,1,2,10_4_7,10_4_7\n"
    ∷ legs bad_row "" "\r1,1,1,1,2,10_4_7,10_4_7\n"
    ∷ legs bad_row "" "\"1\r\",1,1,1,2,10_4_7,10_4_7\n"
    ∷ legs bad_row "" "\"1\"\r,1,1,1,2,10_4_7,10_4_7\n"
    ∷ legs bad_row "" "1,1,1,1,2,10_4_7,10_4_7\r15_4_7\n"
    ∷ legs bad_row "" "1,1,1,1,2,10_4_7,\"10_4_7\"\r\r\n"
    ∷ legs bad_row "" "1,1,1,1,2,10_4_7,\"10_4_7\r\n"
    ∷ legs bad_row "" "1,1,1,1,2,10_4_7,\"10_4_7\"\r"
    ∷ legs bad_row "" "\r\n"
    ∷ legs bad_row "" "\r\r\n"
    -- numbers count by their contents: 5, 7, 8
    ∷ legs out_of_range "" "\"1000000000\",1,1,1,2,10_4_7,10_4_7\n"
    ∷ legs out_of_range "" "1,1,1,1,2,10_4_7,\"10_4_7 97_4_7\"\r\n"
    ∷ legs already_seen "1,1,1,1,2,10_4_7,10_4_7 15_4_7\n" "\"1\",1,2,2,3,40_3_8,40_3_8\n"
    ∷ legs already_seen "\"1\",1,1,1,2,10_4_7,10_4_7\r\n" "1,1,2,2,3,40_3_8,40_3_8\r\n"
    ∷ legs nominal_not_listed "" "1,1,1,1,2,\"10_4_7\",\"15_4_7\"\r\n"
    -- profiles
    ∷ profile bad_row "" "7,\"0.5\" 1.0\n"
    ∷ profile bad_row "" "7,0.5 \"1.0\"\n"
    ∷ profile bad_row "" "7,\"0.5\"1.0\n"
    ∷ profile bad_row "" "7,-\"0.5\"\n"
    ∷ profile bad_row "" "7,\"0.5\n"
    ∷ profile bad_row "" "7,0.5\"\n"
    ∷ profile bad_row "" "\"7,0.5\"\n"
    ∷ profile bad_row "" "7,\"\"\n"
    ∷ profile bad_row "" "\"\",0.5\n"
    ∷ profile bad_row "" "7,\"0.5 \"\n"
    ∷ profile bad_row "" "7,\"0.5\",\n"
    ∷ profile bad_row "" "7 \"0.5\"\n"
    ∷ profile bad_row "" "7\r,0.5\n"
    ∷ profile bad_row "" "7,0.5\r1.0\n"
    ∷ profile bad_row "" "7,\"0.5\r\"\n"
    ∷ profile bad_row "" "7,\"0.5\"\r\r\n"
    ∷ profile bad_row "" "7,0.5\r"
    ∷ profile bad_row "" "\r\n"
    ∷ profile bad_row "" "7,\"0.5,1.0\"\n"
    ∷ profile bad_row "" "7,\"\n0.5\"\n"
    ∷ profile out_of_range "" "\"7\",\"20.01\"\r\n"
    ∷ profile already_seen "7,\"0.5 1.0 0.25 -0.4\"\r\n" "\"7\",0.5\n"
    -- a solution below such a header: 4, 7 and 14 at the place of the row
    ∷ chosen bad_row "" "\"1\",1,1,1,2,10_4_7,10_4_7\"\r\n"
    ∷ chosen bad_row "\"1\",1,1,1,2,10_4_7,10_4_7\r\n" "2,1,2,2,3,40_3_8,40_3_8\r\r\n"
    ∷ chosen bad_row "1,1,1,1,2,10_4_7,\"10_4_7\"\n" "2,1,2,2,3,40_3_8,40_3_8\r"
    ∷ chosen already_seen "\"1\",1,1,1,2,10_4_7,10_4_7\r\n" "1,1,2,2,3,40_3_8,40_3_8\n"
    ∷ chosen differs "\"1\",1,1,1,2,10_4_7,10_4_7\r\n" "\"2\",\"2\",\"2\",\"2\",\"3\",\"40_3_8\",\"40_3_8\"\r\n"
    -- 3: a name with a quote that has no partner, with one in its middle, with quotes about two; a CR that does not end the line; no LF
    ∷ heads "\"leg_id,train_id,track_id,start_station_id,end_station_id,nominal_departure_configuration,departure_configurations\"\n"
    ∷ heads "leg_id,\"train_id,track_id,start_station_id,end_station_id,nominal_departure_configuration,departure_configurations\n"
    ∷ heads "leg_id,train\"_id\",track_id,start_station_id,end_station_id,nominal_departure_configuration,departure_configurations\n"
    ∷ heads "\"leg_id,train_id\",track_id,start_station_id,end_station_id,nominal_departure_configuration,departure_configurations\n"
    ∷ heads "leg_id,\"\"train_id\"\",track_id,start_station_id,end_station_id,nominal_departure_configuration,departure_configurations\n"
    ∷ heads "leg_id, \"train_id\",track_id,start_station_id,end_station_id,nominal_departure_configuration,departure_configurations\n"
    ∷ heads "leg_id,\"\",track_id,start_station_id,end_station_id,nominal_departure_configuration,departure_configurations\n"
    ∷ heads "leg_id\r,train_id,track_id,start_station_id,end_station_id,nominal_departure_configuration,departure_configurations\n"
    ∷ heads "leg_id,train_id,track_id,start_station_id,end_station_id,nominal_departure_configuration,departure_configurations\r\r\n"
    ∷ heads "leg_id,train_id,track_id,start_station_id,end_station_id,nominal_departure_configuration,departure_configurations\r"
    ∷ heads "\"leg_id\",\"train_id\",\"track_id\",\"start_station_id\",\"end_station_id\",\"nominal_departure_configuration\",\"departure_configurations\r\"\n"
    ∷ heads "\"leg_id\",\"train_id\",\"track_id\",\"start_station_id\",\"end_station_id\",\"nominal_departure_configuration\",\"departure_configurations\""
    ∷ heads "\r\nleg_id,train_id,track_id,start_station_id,end_station_id,nominal_departure_configuration,departure_configurations\n"
    ∷ profile_heads "\"profile_id\",power_consumptions\r"
    ∷ profile_heads "profile_id,\"power_consumptions\n\""
    ∷ profile_heads "profile_id,\"power_consumptions\"\r\r\n"
    ∷ profile_heads "profile_id\",\"power_consumptions\n"
    ∷ profile_heads "\"profile_id\"\"power_consumptions\"\n"
    ∷ profile_heads "profile_id,power_consumptions\"\n"
    ∷ profile_heads "\"profile_id\",\n"
    ∷ []

quoted_hold : All Right quoted
unfolding computed
quoted_hold = (refl, (refl, (refl, (refl, (refl, (refl, (refl, (refl, (refl, (refl, (refl, (refl, (refl, (refl, (refl, (refl, (refl, (refl, (refl, (refl, (refl, (refl, (refl, (refl, (refl, (refl, (refl, (refl, (refl, (refl, (refl, (refl, (refl, (refl, (refl, (refl, (refl, (refl, (refl, (refl, (refl, (refl, (refl, (refl, (refl, (refl, (refl, (refl, (refl, (refl, (refl, (refl, (refl, (refl, (refl, (refl, (refl, (refl, (refl, (refl, (refl, (refl, (refl, (refl, (refl, (refl, (refl, (refl, (refl, (refl, (refl, (refl, (refl, (refl, (refl, (refl, (refl, (refl, (refl, (refl, (refl, (refl, (refl, (refl, (refl, (refl, (refl, (refl, (refl, (refl, (refl, (refl, tt))))))))))))))))))))))))))))))))))))))))))))))))))))))))))))))))))))))))))))))))))))))))))))
