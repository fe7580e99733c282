-- "A refusal is given in these cases and no others" (document 01): what the texts must write to be read, said without a reader.
use Rattle.std.specs.Prelude.{ℕ, List}
use Rattle.rules.specs.Reading.{Rooms, Texts, Files}
use Rattle.rules.specs.Entries.{Whole}
use Rattle.rules.specs.declared.stated.Stated.{Stated}
use Rattle.rules_theorems.specs.Files.{Saying, GoodFiles, GoodChoices}
use Rattle.rules_json.specs.Written.{Writing}

-- a text of constraints.json, in the stated edition
abbrev pub WrittenIn : Saying
WrittenIn S = Writing S.edition

-- H in range and the edition known; the three texts write lawful rows, profiles and values that have room; each offered profile exists with t samples; each leg's track is in a subnet
abbrev pub WrittenFiles : Stated → Texts → Rooms → Files → Type 0
WrittenFiles = GoodFiles WrittenIn

-- and with a solution
pub record WrittenWhole (S : Stated) (x : Texts) (s : List ℕ) (room : Rooms) (choices : ℕ) (w : Whole) : Type 0 where
  pub files : WrittenFiles S x room w.files
  pub solution : GoodChoices S.horizon w.files choices s w.choices
