-- What is promised of files and a solution that are read and judged: the answer and the tally always, and the tables where nothing is refused.
use Rattle.std.specs.Prelude.{ℕ, ◌≡◌, Some, List, length}
use Rattle.rules.specs.Answers.{good}
use Rattle.rules.specs.Reading.{Texts}
use Rattle.rules.specs.Tally.{no_tests}
use Rattle.rules.specs.Entries.{Tables, Whole, rooms_of, written_tables, written_choices, all_read, checked}
use Rattle.rules.specs.declared.stated.Stated.{Stated}
use Rattle.tables_lent.specs.declared.Counts.{Counts}
use Rattle.tables_lent.specs.Filing.{counts_of}
use Rattle.rules.specs.declared.answers.Refusal.{Refusal}
use Rattle.rules.specs.declared.answers.Ruling.{Ruling}
use Rattle.rules.specs.declared.answers.Answer.TheVariants.{Refused}
use Rattle.checker_judge.specs.declared.Judged.{Judged}

-- a refusal counts nothing
pub record Stopped (x : Refusal) (r : Judged) : Type 0 where
  pub answer : r.answer ≡ Refused x
  pub tally : r.tally ≡ no_tests

abbrev pub judged_as : Ruling → Counts → Judged
judged_as v counts = record { answer = v.answer; tally = v.tally; counts = Some counts }

pub record ReadAndJudged (S : Stated) (x : Texts) (solution : List ℕ) (t : Tables) (c : List ℕ) (r : Judged) (t' : Tables) (c' : List ℕ) : Type 0 where
  pub answers : r.answer ≡ (checked S x solution t c).answer
  pub tallies : r.tally ≡ (checked S x solution t c).tally
  pub writes : (w : Whole) → all_read S x solution (rooms_of t) (length c) ≡ good w
      → (t' ≡ written_tables w.files t) × (c' ≡ written_choices w.choices c) × (r.counts ≡ Some (counts_of w.files))
