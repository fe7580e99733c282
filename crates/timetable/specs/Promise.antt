-- What is promised of a draft that is read: the answer always, and the tables where it is good.
use Rattle.std.specs.Prelude.{Result, Ok, Err, ℕ, ◌/◌, ◌≡◌, List, length}
use Rattle.rules.specs.Limits.{leg_width, configuration_width}
use Rattle.rules.specs.Lists.{flat, over}
use Rattle.rules.specs.Answers.{Reading, refused, good}
use Rattle.rules.specs.Timetable.{Row, listed, legs_of, leg_numbers, configurations_of, configuration_numbers, timetable_of}
use Rattle.rules.specs.declared.answers.Fault.{Fault}
use Rattle.timetable_row.specs.Faults.{fault_at}
use Rattle.timetable.specs.declared.reader.Rows.{Rows}
use Rattle.timetable.specs.Held.{Tables}

-- the rows and configurations, or the first fault
abbrev pub answer_of : Reading (List Row) → Result Rows Fault
answer_of (refused r) = Err (fault_at r.number r.place)
answer_of (good rows) = Ok (record { rows = length rows; configurations = listed rows })

-- the tables of rows, over what the lent tables held
pub record Filled (lent : Tables) (rows : List Row) (now : Tables) : Type 0 where
  pub legs_filled : now.legs ≡ over (flat leg_numbers (legs_of rows)) lent.legs
  pub configurations_filled : now.configurations ≡ over (flat configuration_numbers (configurations_of rows)) lent.configurations

abbrev pub Tabled : Tables → Reading (List Row) → Tables → Type 0
Tabled lent (refused r) now = Unit {0}
Tabled lent (good rows) now = Filled lent rows now

-- a draft's text is read: the answer always, and the tables where it is good
pub record ReadAs (H : ℕ) (text : List ℕ) (lent : Tables) (answer : Result Rows Fault) (now : Tables) : Type 0 where
  pub answers : answer ≡ answer_of (timetable_of H (length lent.legs / leg_width) (length lent.configurations / configuration_width) text)
  pub fills : Tabled lent (timetable_of H (length lent.legs / leg_width) (length lent.configurations / configuration_width) text) now
