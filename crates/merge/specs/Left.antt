-- What the reading of the files and of two solutions leaves, and what is merged out of it.
use Rattle.std.specs.Prelude.{ℕ, ◌≡◌, true, false, List, length}
use Rattle.rules.specs.Answers.{is_refusal, is_accepted}
use Rattle.rules.specs.Merge.{unequal_from, merge_of}
use Rattle.rules.specs.Tally.{no_tests}
use Rattle.rules.specs.Entries.{written_tables, verdict_of, Both, merge_travel, merge_first, merge_from}
use Rattle.rules.specs.Entries as entries
use Rattle.rules.specs.declared.answers.Answer.{Answer}
use Rattle.rules.specs.declared.answers.Ruling.{Ruling}
use Rattle.rules.specs.declared.outcomes.Merged.{Merged}
use Rattle.rules.specs.declared.outcomes.Direction.{Direction}
use Rattle.tables_lent.specs.declared.Counts.{Counts}
use Rattle.solution_verdict.specs.Left.{Left, Judgeable}
use Rattle.merge_order.specs.Both.{BothChosen, solutions_read}

-- what it gives back of a text of n bytes, which counts nothing; short of acceptance no byte is written
abbrev pub written_as : Answer → (n : ℕ) → Merged
written_as a n = record { answer = a; tally = no_tests; length = n }

abbrev pub not_written : Answer → Merged
not_written a = written_as a 0

-- and of a verdict that ends it
abbrev pub violated_as : Ruling → Merged
violated_as r = record { answer = r.answer; tally = r.tally; length = 0 }

-- the answer, the tally and the length always, and the text where the merge is accepted
pub record Made (o : entries.Merged) (r : Merged) (text : List ℕ) : Type 0 where
  pub answer : r.answer ≡ o.answer
  pub tally : r.tally ≡ o.tally
  pub length : r.length ≡ o.length
  pub puts : is_accepted r.answer ≡ true → text ≡ o.text

-- ---- two solutions that were read, and the last two tables hold their choices; second is the text of the second

pub record Mergeable (counts : Counts) (second legs configurations choices second_choices : List ℕ) : Type 0 where
  pub H : ℕ
  pub left : Left H counts
  pub legs_are_lem : legs ≡ (written_tables left.files left.lent).legs
  pub configurations_are_lem : configurations ≡ (written_tables left.files left.lent).configurations
  pub first : List ℕ
  pub lent : List ℕ
  pub lent_second : List ℕ
  pub both : BothChosen H left.files first second lent lent_second choices second_choices

-- for verdicts, with the constraints
pub record Disputable (counts : Counts) (second legs configurations constraints choices second_choices : List ℕ) : Type 0 where
  pub mergeable : Mergeable counts second legs configurations choices second_choices
  pub constraints_are : constraints ≡ (written_tables mergeable.left.files mergeable.left.lent).constraints

module _ {counts : Counts} {second legs configurations choices second_choices : List ℕ} (k : Mergeable counts second legs configurations choices second_choices) where
  abbrev pub both_of : Both
  both_of = record { files = k.left.files; first = k.both.a; second = k.both.b }

  -- 17, 16 and the text
  abbrev pub merged_equal : Direction → (text : List ℕ) → entries.Merged
  merged_equal d text = merge_travel k.left.lent k.lent k.lent_second text second (merge_of d) (unequal_from 0 k.both.a k.both.b) both_of

  -- after both verdicts
  abbrev pub merged_judged : Direction → (text : List ℕ) → entries.Merged
  merged_judged d text = merge_first k.left.lent k.lent k.lent_second text second (merge_of d) (verdict_of k.left.files k.both.a).finding (verdict_of k.left.files k.both.a).tally both_of

abbrev pub Writes : Direction → Counts → (second legs configurations choices second_choices text : List ℕ) → Merged → (text' : List ℕ) → Type 0
Writes d counts second legs configurations choices second_choices text r text' =
    (k : Mergeable counts second legs configurations choices second_choices) → Made (merged_equal k d text) r text'

abbrev pub Judges : Direction → Counts → (second legs configurations constraints choices second_choices text : List ℕ) → Merged → (text' : List ℕ) → Type 0
Judges d counts second legs configurations constraints choices second_choices text r text' =
    (k : Disputable counts second legs configurations constraints choices second_choices) → Made (merged_judged k.mergeable d text) r text'

-- ---- the solutions themselves, over files that were read

-- and the choice tables, where nothing is refused
pub record Solved (o : entries.Merged) (r : Merged) (choices second text : List ℕ) : Type 0 where
  pub made : Made o r text
  pub chooses : is_refusal r.answer ≡ false → (choices ≡ o.choices) × (second ≡ o.second)

-- c, d: the choice tables as they were lent
abbrev pub Solves : (H : ℕ) → Direction → Counts → (first second legs configurations constraints c d text : List ℕ) → Merged → (c' d' text' : List ℕ) → Type 0
Solves H direction counts first second legs configurations constraints c d text r c' d' text' =
    (k : Judgeable H counts legs configurations constraints)
    → Solved (merge_from k.left.lent c d text second (merge_of direction) (solutions_read H k.left.files first second (length c) (length d))) r c' d' text'
