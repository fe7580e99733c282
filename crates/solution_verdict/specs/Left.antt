-- What the reading of the files leaves, and what a solution's reading and its verdict promise over it.
use Rattle.std.specs.Prelude.{ℕ, ◌≡◌, List, length, Result, Ok, Err}
use Rattle.rules.specs.Answers.{Reading, refused, good}
use Rattle.rules.specs.Reading.{Texts, Files, files_of, choices_read}
use Rattle.rules.specs.Verdict.{ruling}
use Rattle.rules.specs.Entries.{Tables, rooms_of, written_tables, written_choices, verdict_of}
use Rattle.rules.specs.declared.stated.Stated.{Stated}
use Rattle.rules.specs.declared.sizes.Configuration.{Configuration}
use Rattle.rules.specs.declared.answers.Ruling.{Ruling}
use Rattle.tables_lent.specs.declared.Counts.{Counts}
use Rattle.tables_lent.specs.Filing.{counts_of}
use Rattle.rules.specs.declared.answers.Refusal.{Refusal}

-- counts by value, and tables of which a tail takes those that it needs; of what was stated, H alone counts from here on
pub record Left (H : ℕ) (counts : Counts) : Type 0 where
  pub stated : Stated
  pub at : stated.horizon ≡ H
  pub texts : Texts
  pub lent : Tables
  pub files : Files
  pub read : files_of stated texts (rooms_of lent) ≡ good files
  pub counted : counts ≡ counts_of files

-- ---- choosing

-- the legs, for a solution to be read against
pub record Choosable (H : ℕ) (counts : Counts) (legs : List ℕ) : Type 0 where
  pub left : Left H counts
  pub legs_are_lem : legs ≡ (written_tables left.files left.lent).legs

abbrev pub chosen_of : Reading (List Configuration) → Result (Unit {0}) Refusal
chosen_of (refused r) = Err r
chosen_of (good cs) = (Ok tt)

pub record Chooses (H file : ℕ) (counts : Counts) (text legs lent : List ℕ) (answer : Result (Unit {0}) Refusal) (choices : List ℕ) : Type 0 where
  pub answers : (k : Choosable H counts legs) → answer ≡ chosen_of (choices_read H k.left.files file (length lent) text)
  pub chooses : (k : Choosable H counts legs) (cs : List Configuration) → choices_read H k.left.files file (length lent) text ≡ good cs → choices ≡ written_choices cs lent

-- ---- judging

-- the tables that a verdict is given over
pub record Judgeable (H : ℕ) (counts : Counts) (legs configurations constraints : List ℕ) : Type 0 where
  pub left : Left H counts
  pub legs_are_lem : legs ≡ (written_tables left.files left.lent).legs
  pub configurations_are_lem : configurations ≡ (written_tables left.files left.lent).configurations
  pub constraints_are : constraints ≡ (written_tables left.files left.lent).constraints

-- and the choices, from whichever text they were read
pub record Ready (counts : Counts) (legs configurations constraints choices : List ℕ) : Type 0 where
  pub H : ℕ
  pub tables : Judgeable H counts legs configurations constraints
  pub file : ℕ
  pub room : ℕ
  pub text : List ℕ
  pub lent : List ℕ
  pub chosen : List Configuration
  pub read : choices_read H tables.left.files file room text ≡ good chosen
  pub choices_are : choices ≡ written_choices chosen lent

abbrev pub Judges : Counts → (legs configurations constraints choices : List ℕ) → (file : ℕ) → Ruling → Type 0
Judges counts legs configurations constraints choices file r =
    (k : Ready counts legs configurations constraints choices) → r ≡ ruling file (verdict_of k.tables.left.files k.chosen)
