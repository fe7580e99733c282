-- How far a text is read: what the reader and the tables hold there, in the header, in a row, and after a fault.
use Rattle.std.specs.Prelude.{None, Some, Result, ℕ, ◌+◌, ◌≤◌, ◌<◌, ◌≡◌, Bool, true, false, cond, List, leb, eqb, length, get_or, drop, replicate}
use Rattle.rules.specs.Limits.{most_text}
use Rattle.rules.specs.Answers.{timetable_file}
use Rattle.rules.specs.Bytes.{line_feed}
use Rattle.rules.specs.Timetable.{Row, timetable_names, timetable_header, judge_form}
use Rattle.csv_machine.specs.Fold.{fold}
use Rattle.csv_machine.specs.Number.{number_step}
use Rattle.csv_machine.specs.Machine.{in_header, in_row, broken, stopped}
use Rattle.timetable_row.specs.Slots.{nominal_slot, entry_slot, last_slot}
use Rattle.timetable_row.specs.declared.number.Number.{Number}
use Rattle.timetable_row.specs.declared.number.Number.TheVariants.{Empty}
use Rattle.timetable_row.specs.declared.line.Line.{Line}
use Rattle.timetable_row.specs.Digits.{most_held, is_empty}
use Rattle.csv_marks.specs.declared.Mark.{Mark}
use Rattle.csv_marks.specs.declared.Mark.TheVariants.{Bare}
use Rattle.csv_marks.specs.declared.Act.TheVariants.{Content}
use Rattle.csv_marks.specs.Turns.{marked, takes, plain_under, turned}
use Rattle.csv_header.specs.Heading.{name_at}
use Rattle.timetable.specs.declared.reader.Run.{Run}
use Rattle.timetable.specs.declared.reader.Reader.{Reader}
use Rattle.rules.specs.declared.answers.Fault.{Fault}
use Rattle.timetable.specs.declared.reader.Rows.{Rows}
use Rattle.timetable.specs.Open.{Open, Reached, open_step, open_end, reach, reached_end}
use Rattle.timetable.specs.Held.{number_held, Tables, InLine, AfterByte}
use Rattle.timetable.specs.Ended.{draft_room, AfterLine}
use Rattle.timetable.specs.Promise.{answer_of}

-- the line before the first row, whose place is not yet known
abbrev pub first_line : Line
first_line =
    record {
      fault = None;
      place = 0;
      slot = 0;
      numbers = replicate last_slot 0;
      entries = 0;
      nominal = 0;
      wide = false;
      rows = 0;
      configurations = 0;
      above = 0;
    }

abbrev pub placed_at : Line → ℕ → Line
placed_at line at =
    record {
      fault = line.fault;
      place = at;
      slot = line.slot;
      numbers = line.numbers;
      entries = line.entries;
      nominal = line.nominal;
      wide = line.wide;
      rows = line.rows;
      configurations = line.configurations;
      above = line.above;
    }

-- after the header the first row has its place
abbrev pub begun_at : Line → (head at : ℕ) → Line
begun_at line head at = cond (leb (length timetable_header) head) line (placed_at line at)

-- the reader after so many bytes, and the tables, which were lent with other contents, hold what is reached
abbrev pub Holds : (H : ℕ) (lent : Tables) (next : ℕ) → Mark → (head : ℕ) → Number → Line → (now : Tables) → Reached → Type 0
Holds H lent next mark head number line now (in_header k m) =
    (k ≡ next) × (m ≡ marked mark (name_at timetable_names head)) × (head < length timetable_header) × (number ≡ Empty) × (line ≡ first_line) × (now ≡ lent) × (H ≤ most_held)
Holds H lent next mark head number line now (in_row place n before m) =
    (o : Open) × (n ≡ next) × (m ≡ marked mark o) × (number ≡ number_held o.number) × InLine H lent line now place before o.closed o.list o.entry
    × (length timetable_header ≤ head)
Holds H lent next mark head number line now (broken k place) = (line.fault ≡ Some k) × (line.place ≡ place) × (0 < k)
Holds H lent next mark head number line now (stopped k place) = (line.fault ≡ Some k) × (line.place ≡ place) × (0 < k)

-- the machine of a draft
abbrev pub drafted : (H : ℕ) (lent : Tables) → Reached → ℕ → Reached
drafted H lent = reach H timetable_file (draft_room lent)

-- ---- a byte

-- what a byte of the contents must give: LF ends the row
abbrev pub After : (H : ℕ) (lent : Tables) (line : Line) (now : Tables) (place at : ℕ) → List Row → Open → (b : ℕ) → Type 0
After H lent line now place at before o b =
    (eqb b line_feed ≡ true → AfterLine H lent line now place at before (judge_form H (draft_room lent) before (open_end o)))
    × (eqb b line_feed ≡ false → AfterByte H lent line now place before (open_step o b))

-- what a byte that the open number does not take must give
pub record Signed (H : ℕ) (line : Line) (number : Number) (b at : ℕ) (line' : Line) (now now' : Tables) : Type 0 where
  pub signs : (lent : Tables) (place : ℕ) (before : List Row) (o : Open)
      → InLine H lent line now place before o.closed o.list o.entry → number ≡ number_held o.number → number_step o.number b ≡ None
      → After H lent line' now' place at before o b

-- nothing of the open field is read
abbrev pub field_begins : (slot entries : ℕ) → Bool
field_begins slot entries = cond (leb slot nominal_slot) true (cond (eqb slot entry_slot) (eqb entries 0) false)

abbrev pub line_begins : Line → Number → Bool
line_begins line number = cond (is_empty number) (field_begins line.slot line.entries) false

-- the mark before a byte is as it was, or taken back by one that the contents take
pub data Frees (mark : Mark) (part : List ℕ) (i : ℕ) (r : Mark) : Type 0 where
  kept : r ≡ mark → Frees mark part i r
  freed : i < length part → ((begins : Bool) → Content r ≡ turned mark (get_or part i 0) begins) → r ≡ Bare → Frees mark part i r

-- ---- parts

-- from one place of a part, in its rows, to another: what the reader holds there, and the rest of the part leads where it led before
pub record Leads (H read : ℕ) (part : List ℕ) (i : ℕ) (mark : Mark) (number : Number) (line : Line) (now : Tables) (i' : ℕ) (mark' : Mark) (number' : Number) (line' : Line) (now' : Tables) : Type 0 where
  pub leads : (lent : Tables) (reached : Reached) → Holds H lent (read + i) mark (length timetable_header) number line now reached
      → (reached' : Reached) × Holds H lent (read + i') mark' (length timetable_header) number' line' now' reached'
      × (fold (drafted H lent) reached' (drop i' part) ≡ fold (drafted H lent) reached (drop i part))

-- a place of a part from which rows follow
pub record Placed (read : ℕ) (part : List ℕ) (from : ℕ) (line : Line) : Type 0 where
  pub in_limit : read + length part ≤ most_text
  pub inside : from ≤ length part
  pub no_fault : line.fault ≡ None

-- such a place where contents may follow
pub record Opens (read : ℕ) (part : List ℕ) (from : ℕ) (line : Line) (mark : Mark) : Type 0 where
  pub placed : Placed read part from line
  pub open_mark : takes mark ≡ true

-- plain bytes and whole ids in quotes from a place on, to a fault or to the part's end: where none are passed, a byte that is not plain stands there
pub record Ran (H : ℕ) (line : Line) (number : Number) (mark : Mark) (read : ℕ) (part : List ℕ) (from : ℕ) (r : Run) (now now' : Tables) : Type 0 where
  pub onward : from ≤ r.next
  pub inside : r.next ≤ length part
  pub clear : r.next < length part → r.line.fault ≡ None
  pub halts : r.next < length part → r.next ≡ from → plain_under mark (get_or part r.next 0) ≡ false
  pub runs : Leads H read part from mark number line now r.next mark r.number r.line now'

-- the rest of a part from a place on, in its rows
pub record Lined (H : ℕ) (line : Line) (number : Number) (mark : Mark) (read : ℕ) (part : List ℕ) (from : ℕ) (reader : Reader) (now now' : Tables) : Type 0 where
  pub ran_to : reader.read ≡ read + length part
  pub head_whole : reader.head ≡ length timetable_header
  pub lines : Leads H read part from mark number line now (length part) reader.mark reader.number reader.line now'

-- a reader and the tables hold what is reached
abbrev pub Stands : (H : ℕ) (lent : Tables) → Reader → (now : Tables) → Reached → Type 0
Stands H lent reader now reached = Holds H lent reader.read reader.mark reader.head reader.number reader.line now reached

-- a whole part
pub record Fed (H : ℕ) (reader : Reader) (part : List ℕ) (reader' : Reader) (now now' : Tables) : Type 0 where
  pub fed_to : reader'.read ≡ reader.read + length part
  pub feeds : (lent : Tables) (reached : Reached) → Stands H lent reader now reached → Stands H lent reader' now' (fold (drafted H lent) reached part)

-- ---- the end of a text

-- the reader's answer at the end of a text
pub record Finished (reader : Reader) (answer : Result Rows Fault) : Type 0 where
  pub finishes : (H : ℕ) (lent now : Tables) (reached : Reached) → Stands H lent reader now reached
      → answer ≡ answer_of (reached_end H timetable_file (draft_room lent) reached)
