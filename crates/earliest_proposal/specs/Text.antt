-- The proposal's text, and the tail of the entry as a whole.
use Rattle.std.specs.Prelude.{ℕ, ◌≤◌, ◌<◌, ◌≡◌, true, List, leb, length, Some}
use Rattle.rules.specs.Answers.{is_accepted}
use Rattle.rules.specs.Lists.{over}
use Rattle.rules.specs.Merge.{chosen, text_of}
use Rattle.rules.specs.Entries.{written_choices, propose_found}
use Rattle.rules.specs.Entries as entries
use Rattle.rules.specs.declared.sizes.Configuration.{Configuration}
use Rattle.rules.specs.declared.answers.Ruling.{Ruling}
use Rattle.rules.specs.declared.outcomes.Proposed.{Proposed}
use Rattle.text_write.specs.Written.{last_place}
use Rattle.earliest_proposal.specs.Left.{Left, earliest_of}

-- the tables as they were read, and the proposal in its own
pub record Writable (n m : ℕ) (legs configurations constraints choices : List ℕ) : Type 0 where
  pub left : Left n m legs configurations constraints
  pub x : List Configuration
  pub found : earliest_of left.files ≡ Some x
  pub lent : List ℕ
  pub choices_are : choices ≡ written_choices x lent

-- w, and how long it is, whether it fits or not
pub record TextOf (w text : List ℕ) (r : ℕ) (text' : List ℕ) : Type 0 where
  pub fits : (most : ℕ) → most < last_place → leb r most ≡ leb (length w) most
  pub puts : length text < last_place → r ≤ length text → (r ≡ length w) × (text' ≡ over w text)

abbrev pub Writes : (n m : ℕ) → (legs configurations constraints choices text : List ℕ) → ℕ → (text' : List ℕ) → Type 0
Writes n m legs configurations constraints choices text r text' =
    (k : Writable n m legs configurations constraints choices) → TextOf (text_of (chosen k.left.files.rows k.x)) text r text'

-- ---- what is given back: a ruling, and how many bytes were written

abbrev pub proposed_as : Ruling → (n : ℕ) → Proposed
proposed_as r n = record { answer = r.answer; tally = r.tally; length = n }

-- the answer, the tally and the length always; the tables and the text where it is accepted
pub record Made (o : entries.Proposed) (legs : List ℕ) (r : Proposed) (legs' choices' text' : List ℕ) : Type 0 where
  pub answer : r.answer ≡ o.answer
  pub tally : r.tally ≡ o.tally
  pub length : r.length ≡ o.length
  pub puts : is_accepted r.answer ≡ true → (legs' ≡ legs) × (choices' ≡ o.choices) × (text' ≡ o.text)

abbrev pub Makes : (n m : ℕ) → (legs configurations constraints choices text : List ℕ) → Proposed → (legs' choices' text' : List ℕ) → Type 0
Makes n m legs configurations constraints choices text r legs' choices' text' =
    (k : Left n m legs configurations constraints) → Made (propose_found k.lent choices text (earliest_of k.files) k.files) legs r legs' choices' text'
