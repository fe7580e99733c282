-- What the reading of the files answers.
use Rattle.std.specs.Prelude.{length, Result, Ok, Err}
use Rattle.rules.specs.Answers.{Reading, refused, good}
use Rattle.rules.specs.Timetable.{listed}
use Rattle.rules.specs.Profiles.{sampled}
use Rattle.rules.specs.Reading.{Files}
use Rattle.tables_lent.specs.declared.Counts.{Counts}
use Rattle.rules.specs.declared.answers.Refusal.{Refusal}

-- the entries of the tables, and the subnets
abbrev pub counts_of : Files → Counts
counts_of f =
    record {
      legs = length f.rows;
      configurations = listed f.rows;
      profiles = length f.curves;
      samples = sampled f.curves;
      constraints = length f.document.constraints;
      tracks = length f.document.tracks;
      subnets = f.document.opened;
    }

-- the refusal, or the counts of what was read
abbrev pub filed_by : {A : Type 0} → (A → Counts) → Reading A → Result Counts Refusal
filed_by counts (refused r) = Err r
filed_by counts (good x) = Ok (counts x)

abbrev pub filed_of : Reading Files → Result Counts Refusal
filed_of = filed_by counts_of
