-- "For all inputs, refusals among them": an answer is one of three; and of what was lent, only how much it is can count.
use Rattle.std.specs.Prelude.{ℕ, ◌≡◌, List, ◌⊎◌, length, ℤ}
use Rattle.rules.specs.Reading.{Texts}
use Rattle.rules.specs.Entries.{Tables, rooms_of, Checked, checked, Reported, reported, Merged, merged}
use Rattle.rules.specs.declared.stated.Stated.{Stated}
use Rattle.rules.specs.declared.sizes.Configuration.{Configuration}
use Rattle.rules.specs.declared.answers.Refusal.{Refusal}
use Rattle.rules.specs.declared.answers.Violation.{Violation}
use Rattle.rules.specs.declared.answers.Answer.{Answer}
use Rattle.rules.specs.declared.answers.Answer.TheVariants.{Accepted, Violated, Refused}

-- accepted, or violated at an inequality, or refused
abbrev pub Outcome : Answer → Type 0
Outcome a = (a ≡ Accepted) ⊎ (((v : Violation) × (a ≡ Violated v)) ⊎ ((r : Refusal) × (a ≡ Refused r)))

-- the lent tables hold the same, table by table
pub record SameTables (a b : Tables) : Type 0 where
  pub legs : a.legs ≡ b.legs
  pub configurations : a.configurations ≡ b.configurations
  pub profiles : a.profiles ≡ b.profiles
  pub samples : a.samples ≡ b.samples
  pub constraints : a.constraints ≡ b.constraints
  pub tracks : a.tracks ≡ b.tracks

-- ---- "Every public entry judges its own input"

-- two lendings of as much room, whatever they hold
pub record SameRoom (t t' : Tables) (c c' : List ℕ) : Type 0 where
  pub tables : rooms_of t ≡ rooms_of t'
  pub choices : length c ≡ length c'

pub record SameCheck (a b : Checked) : Type 0 where
  pub answer : a.answer ≡ b.answer
  pub tally : a.tally ≡ b.tally

pub record SameReport (a b : Reported) : Type 0 where
  pub answer : a.answer ≡ b.answer
  pub tally : a.tally ≡ b.tally
  pub figures : a.figures ≡ b.figures
  pub desk : a.desk ≡ b.desk

pub record SameMerge (a b : Merged) : Type 0 where
  pub answer : a.answer ≡ b.answer
  pub tally : a.tally ≡ b.tally
  pub length : a.length ≡ b.length

module _ (S : Stated) (x : Texts) (s : List ℕ) where
  abbrev pub ChecksOwnInput : Type 0
  ChecksOwnInput = (t t' : Tables) (c c' : List ℕ) → SameRoom t t' c c' → SameCheck (checked S x s t c) (checked S x s t' c')

  abbrev pub ReportsOwnInput : Type 0
  ReportsOwnInput =
      (t t' : Tables) (c c' : List ℕ) (p p' : List ℤ) → SameRoom t t' c c' → length p ≡ length p' → SameReport (reported S x s t c p) (reported S x s t' c' p')

  -- by whatever rule it chooses
  abbrev pub MergesOwnInput : (merge : List Configuration → List Configuration → List Configuration) → (second : List ℕ) → Type 0
  MergesOwnInput merge s₂ =
      (t t' : Tables) (c c' d d' text text' : List ℕ) → SameRoom t t' c c' → length d ≡ length d' → length text ≡ length text'
      → SameMerge (merged merge S x s s₂ t c d text) (merged merge S x s s₂ t' c' d' text')
