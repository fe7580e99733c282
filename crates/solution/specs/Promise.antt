-- What is promised of a solution that is read against a draft's leg table: the answer always, and the choices where it is good.
use Rattle.std.specs.Prelude.{Result, Ok, Err, ℕ, ◌≤◌, ◌≡◌, List, length}
use Rattle.rules.specs.Limits.{most_horizon, leg_width}
use Rattle.rules.specs.Lists.{flat, over}
use Rattle.rules.specs.Answers.{Reading, refused, good}
use Rattle.rules.specs.Timetable.{Row, legs_of, leg_numbers, configuration_numbers}
use Rattle.rules.specs.Reading.{Files, choices_read}
use Rattle.rules.specs.declared.sizes.Configuration.{Configuration}
use Rattle.tables_ids.specs.Column.{Apart}
use Rattle.rules.specs.declared.answers.Fault.{Fault}
use Rattle.timetable_row.specs.Faults.{fault_at}

-- a horizon that is not too long, and a table of so many legs, no two of the same id
pub record Able (H : ℕ) (legs : List ℕ) (n : ℕ) : Type 0 where
  pub horizon : H ≤ most_horizon
  pub legs_there : Apart leg_width n legs

-- the leg table holds these rows at its front
pub record HoldsRows (legs : List ℕ) (n : ℕ) (rows : List Row) : Type 0 where
  pub many : n ≡ length rows
  pub front : legs ≡ over (flat leg_numbers (legs_of rows)) legs

abbrev pub choices_answer : Reading (List Configuration) → Result ℕ Fault
choices_answer (refused r) = Err (fault_at r.number r.place)
choices_answer (good cs) = Ok (length cs)

-- a solution's text is read, whichever file it is: the answer always, and the choices where it is good
pub record ChoicesRead (H : ℕ) (text legs : List ℕ) (n : ℕ) (lent : List ℕ) (answer : Result ℕ Fault) (choices : List ℕ) : Type 0 where
  pub answers : (files : Files) (file : ℕ) → HoldsRows legs n files.rows → answer ≡ choices_answer (choices_read H files file (length lent) text)
  pub chooses : (files : Files) (file : ℕ) → HoldsRows legs n files.rows → (cs : List Configuration) → choices_read H files file (length lent) text ≡ good cs
      → choices ≡ over (flat configuration_numbers cs) lent
