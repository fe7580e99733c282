-- Whole entries of a list at once, and whole ids in quotes: what the reader holds after them.
use Rattle.std.specs.Prelude.{None, ℕ, ◌≤◌, ◌≡◌, true, List, length}
use Rattle.timetable_row.specs.declared.number.Number.{Number}
use Rattle.timetable_row.specs.declared.number.Number.TheVariants.{Empty}
use Rattle.timetable_row.specs.declared.line.Line.{Line}
use Rattle.csv_marks.specs.declared.Mark.{Mark}
use Rattle.csv_marks.specs.Turns.{takes}
use Rattle.timetable.specs.declared.entries.Listed.{Listed}
use Rattle.timetable.specs.Held.{tables}
use Rattle.timetable.specs.Text.{Leads}

-- a place of a part in a row that has no fault
pub record Begun (part : List ℕ) (from : ℕ) (line : Line) : Type 0 where
  pub within : from ≤ length part
  pub clear : line.fault ≡ None

-- from a place of a part, where no number is open, to another such place
pub record Lists (H : ℕ) (line : Line) (part : List ℕ) (from : ℕ) (r : Listed) (table table' : List ℕ) : Type 0 where
  pub forward : from ≤ r.next
  pub inside : r.next ≤ length part
  pub clear : r.line.fault ≡ None
  pub listed : (read : ℕ) (mark : Mark) (legs : List ℕ) → takes mark ≡ true
      → Leads H read part from mark Empty line (tables legs table) r.next mark Empty r.line (tables legs table')

-- from a place of a part to another in the same row, with the same mark and open number; nothing is stored
pub record Passes (line : Line) (number : Number) (mark : Mark) (part : List ℕ) (from : ℕ) (r : Listed) : Type 0 where
  pub forward : from ≤ r.next
  pub inside : r.next ≤ length part
  pub clear : r.line.fault ≡ None
  pub passed : (H read : ℕ) (legs table : List ℕ) → Leads H read part from mark number line (tables legs table) r.next mark number r.line (tables legs table)
