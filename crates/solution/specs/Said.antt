-- What a line says, read by itself: that it breaks a row's form, or the row's numbers as they are held and what the tests of a row need.
use Rattle.std.specs.Prelude.{Some, None, ℕ, suc, ◌≤◌, min, ◌≡◌, Bool, true, ◌&&◌, List, [], leb, ltb, length, Option}
use Rattle.rules.specs.Limits.{most_horizon, most_text, most_id, most_listed}
use Rattle.rules.specs.Lists.{every}
use Rattle.rules.specs.Answers.{bad_row}
use Rattle.rules.specs.Bytes.{line_feed}
use Rattle.rules.specs.Timetable.{Row, ids_of, in_range, offers}
use Rattle.rules.specs.Verdict.{All}
use Rattle.timetable_row.specs.declared.line.Line.{Line}
use Rattle.timetable_row.specs.declared.number.Number.{Number}
use Rattle.timetable.specs.Held.{number_held, Tables, tables, InLine}
use Rattle.timetable.specs.Open.{Open, open_end}
use Rattle.timetable_row.specs.Slots.{nominal_of, held_ids}
use Rattle.timetable_row.specs.RowOver.{range_holds}

-- a line of a text that is not too long, under a horizon
pub record Alone (H : ℕ) (line : List ℕ) : Type 0 where
  pub horizon : H ≤ most_horizon
  pub unbroken : All (λ b. b ≡ line_feed → ⊥) line
  pub short : length line ≤ most_text

abbrev pub range_of : (H : ℕ) → Row → Bool
range_of H r = every (λ id. leb id most_id) (ids_of r) && (in_range H r.nominal && every (in_range H) r.list)

pub record Said (H : ℕ) (r : Row) (line : Line) : Type 0 where
  pub going : line.fault ≡ None
  pub range_is : range_holds H line ≡ range_of H r
  pub entries_are : line.entries ≡ min (length r.list) (suc most_listed)
  pub listed_is : range_of H r ≡ true → length r.list ≤ most_listed → ltb line.nominal line.entries ≡ offers r.list r.nominal
  pub ids_are : range_of H r ≡ true → held_ids line.numbers ≡ ids_of r
  pub nominal_is : range_of H r ≡ true → nominal_of line.numbers ≡ r.nominal

abbrev pub SaidOf : (H : ℕ) → Option Row → Line → Type 0
SaidOf H None line = line.fault ≡ Some bad_row
SaidOf H (Some r) line = Said H r line

-- what the end of a line must give, from what is held of an open row
pub record RowClosed (H : ℕ) (line : Line) (number : Number) (entries : List ℕ) (line' : Line) : Type 0 where
  pub closes : (lent : Tables) (legs : List ℕ) (place : ℕ) (o : Open) → InLine H lent line (tables legs entries) place [] o.closed o.list o.entry → number ≡ number_held o.number
      → SaidOf H (open_end o) line'
