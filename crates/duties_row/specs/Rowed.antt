-- A row by its line: its form, its event, its faults.
use Rattle.std.specs.Prelude.{ℕ, suc, zero, min, Bool, cond, ◌&&◌, List, leb, ltb, is_some, Option, Some, None}
use Rattle.rules.specs.Answers.{Judged, wrong, right, bad_row, out_of_range, too_many, unknown_name, no_room}
use Rattle.rules.specs.Bytes.{whole_of}
use Rattle.text_read.specs.Held.{past_id}
use Rattle.rules.specs.Limits.{most_time, most_events, most_nodes}
use Rattle.rules.specs.Duties.{Event, is_name, is_course, is_known, place_in, duty_column, from_column, to_column, type_column, course_column, seq_column, start_column, end_column, start_text_column, end_text_column}
use Rattle.duties_fields.specs.Fields.{content_in, is_ten}

abbrev pub or_zero : Option ℕ → ℕ
or_zero None = 0
or_zero (Some v) = v

abbrev pub is_whole : List ℕ → Bool
is_whole s = is_some (whole_of s)

abbrev pub value_of : List ℕ → ℕ
value_of s = or_zero (whole_of s)

-- a number as it is read: past every limit it stops
abbrev pub held_in : ℕ → List ℕ → ℕ
held_in k line = min (value_of (content_in k line)) past_id

abbrev pub is_named : List ℕ → Bool
is_named line = is_name (content_in duty_column line) && (is_name (content_in from_column line) && (is_name (content_in to_column line) && is_course (content_in type_column line) (content_in course_column line)))

abbrev pub has_wholes : List ℕ → Bool
has_wholes line = is_whole (content_in seq_column line) && (is_whole (content_in start_column line) && is_whole (content_in end_column line))

abbrev pub is_row : List ℕ → Bool
is_row line = is_ten line && (is_named line && has_wholes line)

abbrev pub event_in : List ℕ → Event
event_in line =
    record {
      duty = content_in duty_column line;
      seq = value_of (content_in seq_column line);
      start = value_of (content_in start_column line);
      start_text = content_in start_text_column line;
      end = value_of (content_in end_column line);
      end_text = content_in end_text_column line;
      from = content_in from_column line;
      to = content_in to_column line;
      type = content_in type_column line;
      from_at = place_in from_column line;
      to_at = place_in to_column line;
    }

-- a number within ten days
abbrev pub is_time : List ℕ → Bool
is_time s = leb (value_of s) most_time

abbrev pub in_range : List ℕ → Bool
in_range line = is_time (content_in seq_column line) && (is_time (content_in start_column line) && is_time (content_in end_column line))

-- ---- the lowest fault, or 0: by the line alone, and by the counts

abbrev pub line_fault : List ℕ → ℕ
line_fault line = cond (is_row line) (cond (in_range line) 0 out_of_range) bad_row

abbrev pub count_fault : (line : List ℕ) (rows nodes room : ℕ) → ℕ
count_fault line rows nodes room =
    cond (ltb rows most_events && leb nodes most_nodes) (cond (is_known (content_in type_column line)) (cond (leb nodes room) 0 no_room) unknown_name) too_many

abbrev pub or_fault : ℕ → ℕ → ℕ
or_fault zero later = later
or_fault (suc n) later = suc n

abbrev pub judged_by : ℕ → Event → Judged Event
judged_by zero e = right e
judged_by (suc n) e = wrong (suc n)
