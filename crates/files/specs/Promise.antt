-- What is promised of the files that are read: the answer always, and the tables where nothing is refused.
use Rattle.std.specs.Prelude.{◌≡◌, Result}
use Rattle.rules.specs.Answers.{good}
use Rattle.rules.specs.Reading.{Texts, Files, files_of}
use Rattle.rules.specs.Entries.{Tables, rooms_of, written_tables}
use Rattle.rules.specs.declared.stated.Stated.{Stated}
use Rattle.tables_lent.specs.Filing.{filed_of}
use Rattle.rules.specs.declared.answers.Refusal.{Refusal}
use Rattle.tables_lent.specs.declared.Counts.{Counts}

pub record FilesRead (S : Stated) (x : Texts) (t : Tables) (answer : Result Counts Refusal) (t' : Tables) : Type 0 where
  pub answers : answer ≡ filed_of (files_of S x (rooms_of t))
  pub writes : (f : Files) → files_of S x (rooms_of t) ≡ good f → t' ≡ written_tables f t
