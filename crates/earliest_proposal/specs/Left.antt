-- What the reading of the files leaves, as the search asks for it: n rows and m records, as the readers count them, and three of the tables.
use Rattle.std.specs.Prelude.{ℕ, ◌≡◌, List, length, Option}
use Rattle.rules.specs.Answers.{good}
use Rattle.rules.specs.Constraints.{ordered}
use Rattle.rules.specs.Reading.{Texts, Files, files_of}
use Rattle.rules.specs.Earliest.{earliest}
use Rattle.rules.specs.Entries.{Tables, rooms_of, written_tables}
use Rattle.rules.specs.declared.stated.Stated.{Stated}
use Rattle.rules.specs.declared.sizes.Configuration.{Configuration}

pub record Left (n m : ℕ) (legs configurations constraints : List ℕ) : Type 0 where
  pub stated : Stated
  pub texts : Texts
  pub lent : Tables
  pub files : Files
  pub read : files_of stated texts (rooms_of lent) ≡ good files
  pub rows_many : length files.rows ≡ n
  pub records_many : length files.document.constraints ≡ m
  pub legs_are_lem : legs ≡ (written_tables files lent).legs
  pub configurations_are_lem : configurations ≡ (written_tables files lent).configurations
  pub constraints_are : constraints ≡ (written_tables files lent).constraints

-- the earliest timetable of files
abbrev pub earliest_of : Files → Option (List Configuration)
earliest_of f = earliest f.rows (ordered f.document.constraints)
