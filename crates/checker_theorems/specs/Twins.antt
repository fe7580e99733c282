-- TWINS, about the entries (document 02, E4): where files read in one edition, their twins in another give equal answers, tables, figures and merged texts.
-- It holds of any outcomes that keep the promises, of calls to which the same was lent.
use Rattle.std.specs.Prelude.{ℕ, ◌≡◌, List}
use Rattle.rules.specs.Answers.{good}
use Rattle.rules.specs.Reading.{Texts, Files, files_of}
use Rattle.rules.specs.Entries.{Tables, rooms_of}
use Rattle.rules.specs.declared.stated.Stated.{Stated}
use Rattle.rules.specs.declared.outcomes.Direction.{Direction}
use Rattle.rules_json.specs.Twins.{TwinTexts}
use Rattle.checker_theorems.specs.Demands.{CheckOutcome, EnergyOutcome, MergeOutcome}

-- x reads by S in this room, and y is its twin by R
pub record Twinned (S R : Stated) (x y : Texts) (t : Tables) : Type 0 where
  pub files : Files
  pub read : files_of S x (rooms_of t) ≡ good files
  pub twins : TwinTexts S R x y (rooms_of t) files

module _ (S R : Stated) (x y : Texts) where
  abbrev pub CheckTwins : (solution : List ℕ) → CheckOutcome S x solution → CheckOutcome R y solution → Type 0
  CheckTwins solution o p =
      p.lent ≡ o.lent → p.lent_choices ≡ o.lent_choices → Twinned S R x y o.lent
      → (p.result ≡ o.result) × (p.tables ≡ o.tables) × (p.choices ≡ o.choices)

  abbrev pub EnergyTwins : (solution : List ℕ) → EnergyOutcome S x solution → EnergyOutcome R y solution → Type 0
  EnergyTwins solution o p =
      p.lent ≡ o.lent → p.lent_choices ≡ o.lent_choices → p.lent_curves ≡ o.lent_curves → Twinned S R x y o.lent
      → (p.result ≡ o.result) × (p.tables ≡ o.tables) × (p.choices ≡ o.choices) × (p.curves ≡ o.curves)

  abbrev pub MergeTwins : (direction : Direction) (a b : List ℕ) → MergeOutcome direction S x a b → MergeOutcome direction R y a b → Type 0
  MergeTwins direction a b o p =
      p.lent ≡ o.lent → p.lent_choices ≡ o.lent_choices → p.lent_second ≡ o.lent_second → p.lent_text ≡ o.lent_text → Twinned S R x y o.lent
      → (p.result ≡ o.result) × (p.tables ≡ o.tables) × (p.choices ≡ o.choices) × (p.second ≡ o.second) × (p.text ≡ o.text)
