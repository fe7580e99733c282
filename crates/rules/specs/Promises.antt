-- What each entry promises for every input: what it gives back, and all that it leaves where something was lent, is what `Entries` says. A promise has an equation
-- for each of these, by the same name here, in `Entries` and in the code (src/outcomes.rt), so that an input has one outcome. An answer's values are document 01's.
use Rattle.std.specs.Prelude.{ℕ, ◌≡◌, List, ℤ}
use Rattle.rules.specs.Answers.{values_of, told_values}
use Rattle.rules.specs.Reading.{Texts}
use Rattle.rules.specs.Merge.{merge_of}
use Rattle.rules.specs.Entries.{Tables, checked, reported, merged, proposed}
use Rattle.rules.specs.Duties.{duties_checked}
use Rattle.rules.specs.declared.stated.Stated.{Stated}
use Rattle.rules.specs.declared.outcomes.Checked.{Checked}
use Rattle.rules.specs.declared.outcomes.Report.{Report}
use Rattle.rules.specs.declared.outcomes.Merged.{Merged}
use Rattle.rules.specs.declared.outcomes.Direction.{Direction}
use Rattle.rules.specs.declared.outcomes.Proposed.{Proposed}
use Rattle.rules.specs.declared.outcomes.Duties.{Duties}

-- In each: what is stated, S, the files' texts x, and the solution, or two of them, a and b; as they were lent, the tables t and the choices c, with the curves p, or with the second
-- choices d and the text's buffer w; what is given back, r; and what was lent, as it is left, with a '.

-- `check`
pub record Checks (S : Stated) (x : Texts) (solution : List ℕ) (t : Tables) (c : List ℕ) (r : Checked) (t' : Tables) (c' : List ℕ) : Type 0 where
  pub answer : r.answer ≡ (checked S x solution t c).answer
  pub values : values_of r.answer ≡ values_of (checked S x solution t c).answer
  pub tally : r.tally ≡ (checked S x solution t c).tally
  pub tables : t' ≡ (checked S x solution t c).tables
  pub choices : c' ≡ (checked S x solution t c).choices

-- `energy`
pub record Reports (S : Stated) (x : Texts) (solution : List ℕ) (t : Tables) (c : List ℕ) (p : List ℤ) (r : Report) (t' : Tables) (c' : List ℕ) (p' : List ℤ) : Type 0 where
  pub answer : r.answer ≡ (reported S x solution t c p).answer
  pub values : values_of r.answer ≡ values_of (reported S x solution t c p).answer
  pub tally : r.tally ≡ (reported S x solution t c p).tally
  pub figures : r.figures ≡ (reported S x solution t c p).figures
  pub desk : r.desk ≡ (reported S x solution t c p).desk
  pub tables : t' ≡ (reported S x solution t c p).tables
  pub choices : c' ≡ (reported S x solution t c p).choices
  pub curves : p' ≡ (reported S x solution t c p).curves

-- `merge`, in either direction
pub record Merges (direction : Direction) (S : Stated) (x : Texts) (a b : List ℕ) (t : Tables) (c d w : List ℕ) (r : Merged) (t' : Tables) (c' d' w' : List ℕ) : Type 0 where
  pub answer : r.answer ≡ (merged (merge_of direction) S x a b t c d w).answer
  pub values : values_of r.answer ≡ values_of (merged (merge_of direction) S x a b t c d w).answer
  pub tally : r.tally ≡ (merged (merge_of direction) S x a b t c d w).tally
  pub length : r.length ≡ (merged (merge_of direction) S x a b t c d w).length
  pub tables : t' ≡ (merged (merge_of direction) S x a b t c d w).tables
  pub choices : c' ≡ (merged (merge_of direction) S x a b t c d w).choices
  pub second : d' ≡ (merged (merge_of direction) S x a b t c d w).second
  pub text : w' ≡ (merged (merge_of direction) S x a b t c d w).text

-- `earliest`
pub record Proposes (S : Stated) (x : Texts) (t : Tables) (c w : List ℕ) (r : Proposed) (t' : Tables) (c' w' : List ℕ) : Type 0 where
  pub answer : r.answer ≡ (proposed S x t c w).answer
  pub values : values_of r.answer ≡ values_of (proposed S x t c w).answer
  pub tally : r.tally ≡ (proposed S x t c w).tally
  pub length : r.length ≡ (proposed S x t c w).length
  pub tables : t' ≡ (proposed S x t c w).tables
  pub choices : c' ≡ (proposed S x t c w).choices
  pub text : w' ≡ (proposed S x t c w).text

-- `check_duties`: the text; the nodes n and the balance z as they were lent
pub record ChecksDuties (text n : List ℕ) (z : List ℤ) (r : Duties) (n' : List ℕ) (z' : List ℤ) : Type 0 where
  pub answer : r.answer ≡ (duties_checked text n z).answer
  pub values : told_values r.answer ≡ told_values (duties_checked text n z).answer
  pub nodes : n' ≡ (duties_checked text n z).nodes
  pub balance : z' ≡ (duties_checked text n z).balance
