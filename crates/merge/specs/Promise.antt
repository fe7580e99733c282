-- What is promised of two solutions that are read and merged: the answer, the tally and the length always; the tables where nothing is refused, and the text where the
-- merge is accepted. What stands in a table or in the text otherwise is not promised here: the entry fills it.
use Rattle.std.specs.Prelude.{ℕ, ◌≡◌, false, List}
use Rattle.rules.specs.Answers.{is_refusal}
use Rattle.rules.specs.Reading.{Texts}
use Rattle.rules.specs.Merge.{merge_of}
use Rattle.rules.specs.Entries.{Tables, merged}
use Rattle.rules.specs.declared.stated.Stated.{Stated}
use Rattle.rules.specs.declared.outcomes.Merged.{Merged}
use Rattle.rules.specs.declared.outcomes.Direction.{Direction}
use Rattle.merge.specs.Left.{Solved}

-- the texts; the tables t, the choice tables c and d and the text buffer w as they were lent; and as they are left
pub record MergeRead (direction : Direction) (S : Stated) (x : Texts) (first second : List ℕ) (t : Tables) (c d w : List ℕ) (r : Merged) (t' : Tables) (c' d' w' : List ℕ) : Type 0 where
  pub solved : Solved (merged (merge_of direction) S x first second t c d w) r c' d' w'
  pub writes : is_refusal r.answer ≡ false → t' ≡ (merged (merge_of direction) S x first second t c d w).tables
