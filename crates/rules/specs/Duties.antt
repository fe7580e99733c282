-- Rolling stock duties (document 02, E13, after Table 8 of document 004): how the file is read, the six rules that its rows keep, and the balance of each node.
use Rattle.std.specs.Prelude.{ℕ, suc, ◌+◌, ◌/◌, ◌%◌, min, Bool, true, false, not, cond, ◌&&◌, ◌||◌, List, [], ◌∷◌, ◌++◌, map, leb, ltb, eqb, length, get_or, ℤ, pos, ◌-ℤ◌, Option, Some, None}
use Prim.Native.Char.{code}
use Rattle.rules.specs.Limits.{most_events, most_nodes, node_width, least_name, most_name, most_time, day_seconds, hour_seconds, minute_seconds, unsigned_fill, signed_fill}
use Rattle.rules.specs.Lists.{◌>>=◌, every, any, same_list, sum_of, over}
use Rattle.rules.specs.Answers.{Judged, wrong, judge, Test, ◌needs◌, Reading, refused, good, bad_row, out_of_range, too_many, unknown_name, no_room, duties_file, broken_rule}
use Rattle.rules.specs.Bytes.{bytes, whole_of, split_on, start_of, contents_of, digit_zero, comma, quote}
use Rattle.rules.specs.Rows.{header_of, csv_of, RowFault, or_else, place_of_row}
use Rattle.rules.specs.Entries.{filled}
use Rattle.rules.specs.declared.answers.Told.{Told}
use Rattle.rules.specs.declared.answers.Told.TheVariants.{Accepted, Broken, Refused}

-- Table 8's columns, spaces as underscores
abbrev pub duties_names : List (List ℕ)
duties_names =
    bytes "DUTY_ID"
    ∷ bytes "SEQ"
    ∷ bytes "START_TIME_SECONDS"
    ∷ bytes "START_TIME_HHMMSS"
    ∷ bytes "END_TIME_SECONDS"
    ∷ bytes "END_TIME_HHMMSS"
    ∷ bytes "START_NODE"
    ∷ bytes "END_NODE"
    ∷ bytes "EVENT_TYPE"
    ∷ bytes "TRAIN_COURSE_ID"
    ∷ []

-- as it is written
abbrev pub duties_header : List ℕ
duties_header = header_of duties_names

-- the columns, from 0
abbrev pub duty_column : ℕ
duty_column = 0

abbrev pub seq_column : ℕ
seq_column = 1

abbrev pub start_column : ℕ
start_column = 2

abbrev pub start_text_column : ℕ
start_text_column = 3

abbrev pub end_column : ℕ
end_column = 4

abbrev pub end_text_column : ℕ
end_text_column = 5

abbrev pub from_column : ℕ
from_column = 6

abbrev pub to_column : ℕ
to_column = 7

abbrev pub type_column : ℕ
type_column = 8

abbrev pub course_column : ℕ
course_column = 9

abbrev pub columns : ℕ
columns = 10

-- ---- the form of a row

-- names: 1 to 32 bytes from 33 to 126 without commas or quotes
abbrev pub first_byte : ℕ
first_byte = code "!"

abbrev pub last_byte : ℕ
last_byte = code "~"

abbrev pub in_name : ℕ → Bool
in_name b = leb first_byte b && (leb b last_byte && (not (eqb b quote) && not (eqb b comma)))

abbrev pub is_name : List ℕ → Bool
is_name s = leb least_name (length s) && (leb (length s) most_name && every in_name s)

-- the event types
abbrev pub is_train : List ℕ → Bool
is_train = same_list (bytes "TRAIN")

abbrev pub is_known : List ℕ → Bool
is_known s = is_train s || (same_list (bytes "CHANGE_END") s || same_list (bytes "SPARE") s)

-- "the course a name for TRAIN and else empty"
abbrev pub is_course : (type course : List ℕ) → Bool
is_course type course = cond (is_train type) (is_name course) (same_list [] course)

-- where the content of field k stands in its line: behind a quote
abbrev pub field_in : ℕ → List ℕ → List ℕ
field_in k line = get_or (split_on comma line) k []

abbrev pub quoted_by : List ℕ → ℕ
quoted_by [] = 0
quoted_by (b ∷ s) = cond (eqb b quote) 1 0

abbrev pub place_in : ℕ → List ℕ → ℕ
place_in k line = start_of k (split_on comma line) + quoted_by (field_in k line)

pub record Event : Type 0 where
  pub duty : List ℕ
  pub seq : ℕ
  pub start : ℕ
  pub start_text : List ℕ
  pub end : ℕ
  pub end_text : List ℕ
  pub from : List ℕ
  pub to : List ℕ
  pub type : List ℕ
  -- where its two nodes stand in its line
  pub from_at : ℕ
  pub to_at : ℕ

-- the ten contents of a line
abbrev pub ten_of : (line : List ℕ) → List (List ℕ) → Option Event
ten_of line fields =
    let field : ℕ → List ℕ = λ k. get_or fields k [] in
    cond
    (eqb (length fields) columns
    && (is_name (field duty_column) && (is_name (field from_column) && (is_name (field to_column) && is_course (field type_column) (field course_column)))))
    (whole_of (field seq_column) >>= (λ seq. whole_of (field start_column) >>= (λ start. whole_of (field end_column) >>= (λ end.
    Some
    (record {
      duty = field duty_column;
      seq = seq;
      start = start;
      start_text = field start_text_column;
      end = end;
      end_text = field end_text_column;
      from = field from_column;
      to = field to_column;
      type = field type_column;
      from_at = place_in from_column line;
      to_at = place_in to_column line;
    })))))
    None

abbrev pub form_of : List ℕ → Option Event
form_of line = contents_of line >>= ten_of line

-- ---- names in order of first sight

abbrev pub with_name : List (List ℕ) → List ℕ → List (List ℕ)
with_name names n = cond (any (same_list n) names) names (names ++ n ∷ [])

-- the nodes of rows: a row's start first
abbrev pub with_nodes : List (List ℕ) → Event → List (List ℕ)
with_nodes nodes e = with_name (with_name nodes e.from) e.to

abbrev pub nodes_from : List (List ℕ) → List Event → List (List ℕ)
nodes_from nodes [] = nodes
nodes_from nodes (e ∷ es) = nodes_from (with_nodes nodes e) es

abbrev pub nodes_of : List Event → List (List ℕ)
nodes_of = nodes_from []

-- ---- what a row of good form must keep; room is how many nodes the lent tables take

module _ (room : ℕ) where
  abbrev pub row_tests : List Event → Event → List Test
  row_tests before e =
      let nodes = length (with_nodes (nodes_of before) e) in
      out_of_range needs (leb e.seq most_time && (leb e.start most_time && leb e.end most_time))
      ∷ too_many needs (ltb (length before) most_events && leb nodes most_nodes)
      ∷ unknown_name needs is_known e.type
      ∷ no_room needs leb nodes room
      ∷ []

  abbrev pub judge_form : List Event → Option Event → Judged Event
  judge_form before None = wrong bad_row
  judge_form before (Some e) = judge (row_tests before e) e

  abbrev pub row_of : List Event → List ℕ → Judged Event
  row_of before line = judge_form before (form_of line)

  unfoldable pub events_of : List ℕ → Reading (List Event)
  events_of = csv_of duties_file row_of duties_names

-- ---- the six rules

abbrev pub later_rule : ℕ
later_rule = 1

abbrev pub stays_rule : ℕ
stays_rule = 2

abbrev pub together_rule : ℕ
together_rule = 3

abbrev pub sequence_rule : ℕ
sequence_rule = 4

abbrev pub meets_rule : ℕ
meets_rule = 5

abbrev pub texts_rule : ℕ
texts_rule = 6

-- a time as a text: `HH:MM:SS`, from the second day on with `Nd ` before it; 87,720 is `1d 00:22:00`
abbrev pub two_digits : ℕ → List ℕ
two_digits n = (digit_zero + n / 10) ∷ (digit_zero + n % 10) ∷ []

abbrev pub clock : ℕ → List ℕ
clock s = two_digits (s / hour_seconds) ++ code ":" ∷ two_digits (s / minute_seconds % minute_seconds) ++ code ":" ∷ two_digits (s % minute_seconds)

abbrev pub time_text : ℕ → List ℕ
time_text s = cond (ltb s day_seconds) (clock s) ((digit_zero + s / day_seconds) ∷ bytes "d " ++ clock (s % day_seconds))

-- a row is judged by the duties seen before it, and by the event just before it, of whatever duty
pub record Before : Type 0 where
  pub seen : List (List ℕ)
  pub last : Option Event

abbrev pub nothing_before : Before
nothing_before = record { seen = []; last = None }

abbrev pub after : Before → Event → Before
after b e = record { seen = with_name b.seen e.duty; last = Some e }

-- the event before is of the same duty
abbrev pub follows : Option Event → Event → Bool
follows None e = false
follows (Some p) e = same_list p.duty e.duty

abbrev pub seq_after : Option Event → ℕ
seq_after None = 1
seq_after (Some p) = p.seq + 1

-- it starts at the time and node at which the one before ended
abbrev pub meets : Option Event → Event → Bool
meets None e = true
meets (Some p) e = eqb e.start p.end && same_list p.to e.from

-- every event ends after it starts; only TRAIN events may end at a node other than their start; rows of one duty stand together; SEQ runs from 1;
-- each event starts at the previous one's time and node; the HHMMSS columns match the seconds
abbrev pub rules : Before → Event → List Test
rules b e =
    later_rule needs ltb e.start e.end
    ∷ stays_rule needs (is_train e.type || same_list e.from e.to)
    ∷ together_rule needs (follows b.last e || not (any (same_list e.duty) b.seen))
    ∷ sequence_rule needs eqb e.seq (cond (follows b.last e) (seq_after b.last) 1)
    ∷ meets_rule needs cond (follows b.last e) (meets b.last e) true
    ∷ texts_rule needs (same_list (time_text e.start) e.start_text && same_list (time_text e.end) e.end_text)
    ∷ []

-- the lowest that does not hold
abbrev pub lowest : List Test → Option ℕ
lowest [] = None
lowest (t ∷ ts) = cond t.holds (lowest ts) (Some t.number)

-- the first row that breaks a rule, from row n on, with its lowest rule
abbrev pub broken_from : ℕ → Before → List Event → Option RowFault
broken_from n b [] = None
broken_from n b (e ∷ es) = or_else n (lowest (rules b e)) (broken_from (suc n) (after b e) es)

abbrev pub broken : List Event → Option RowFault
broken = broken_from 0 nothing_before

-- ---- "duties ending less duties starting, per node in order of first sight". Where an event is not of the duty before it, that duty ends and its own starts

abbrev pub starts_from : Option Event → List Event → List (List ℕ)
starts_from p [] = []
starts_from p (e ∷ es) = cond (follows p e) (starts_from (Some e) es) (e.from ∷ starts_from (Some e) es)

abbrev pub end_of : Option Event → List (List ℕ) → List (List ℕ)
end_of None ends = ends
end_of (Some p) ends = p.to ∷ ends

abbrev pub ends_from : Option Event → List Event → List (List ℕ)
ends_from p [] = end_of p []
ends_from p (e ∷ es) = cond (follows p e) (ends_from (Some e) es) (end_of p (ends_from (Some e) es))

-- how often a node is among others
abbrev pub times : List ℕ → List (List ℕ) → ℕ
times n ns = sum_of (λ m. cond (same_list n m) 1 0) ns

-- what events add to a node's balance, after the event before them
abbrev pub balance_from : Option Event → List Event → List ℕ → ℤ
balance_from p es n = pos (times n (ends_from p es)) -ℤ pos (times n (starts_from p es))

abbrev pub balances : List Event → List ℤ
balances es = map (balance_from None es) (nodes_of es)

-- ---- the nodes' table: where each name first stands in the text, and how long it is

abbrev pub seen_at : List (List ℕ) → List ℕ → (place : ℕ) → List ℕ
seen_at names n place = cond (any (same_list n) names) [] (place ∷ length n ∷ [])

-- from row i on, after the nodes before
abbrev pub places_from : (text : List ℕ) → ℕ → List (List ℕ) → List Event → List ℕ
places_from text i nodes [] = []
places_from text i nodes (e ∷ es) =
    seen_at nodes e.from (place_of_row text i + e.from_at)
    ++ seen_at (with_name nodes e.from) e.to (place_of_row text i + e.to_at)
    ++ places_from text (suc i) (with_nodes nodes e) es

-- ---- the entry: both tables are filled unless the duties are accepted

pub record DutiesChecked : Type 0 where
  pub answer : Told
  pub nodes : List ℕ
  pub balance : List ℤ

module _ (text nodes : List ℕ) (balance : List ℤ) where
  abbrev pub not_accepted : Told → DutiesChecked
  not_accepted a = record { answer = a; nodes = filled unsigned_fill nodes; balance = filled signed_fill balance }

  abbrev pub duties_judged : List Event → Option RowFault → DutiesChecked
  duties_judged es None =
      record { answer = Accepted (length (nodes_of es)); nodes = over (places_from text 0 [] es) nodes; balance = over (balances es) balance }
  duties_judged es (Some f) = not_accepted (Broken (broken_rule f.row f.number (place_of_row text f.row)))

  abbrev pub duties_from : Reading (List Event) → DutiesChecked
  duties_from (refused r) = not_accepted (Refused r)
  duties_from (good es) = duties_judged es (broken es)

  -- the nodes that both tables take
  abbrev pub node_room : ℕ
  node_room = min (length nodes / node_width) (length balance)

  unfoldable pub duties_checked : DutiesChecked
  duties_checked = duties_from (events_of node_room text)
