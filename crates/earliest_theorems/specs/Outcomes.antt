-- An outcome of `earliest`: what was lent, what it gave back, and what was lent, as it is left; and what it is held to.
use Rattle.std.specs.Prelude.{ℕ, ◌≡◌, List, ◌↔◌, ◌⊎◌, length, take}
use Rattle.rules.specs.Limits.{unsigned_fill, byte_fill}
use Rattle.rules.specs.Answers.{refusal, no_solution, no_file, good}
use Rattle.rules.specs.Timetable.{choices_of}
use Rattle.rules.specs.Constraints.{ordered}
use Rattle.rules.specs.Reading.{Texts, Files, files_of}
use Rattle.rules.specs.Tally.{no_tests}
use Rattle.rules.specs.Merge.{SameTravel, chosen, text_of}
use Rattle.rules.specs.Entries.{Tables, rooms_of, filled, filled_tables, written_tables, written_choices, verdict_of, all_read, checked}
use Rattle.rules.specs.Promises.{Proposes}
use Rattle.rules.specs.declared.stated.Stated.{Stated}
use Rattle.rules.specs.declared.sizes.Configuration.{Configuration}
use Rattle.rules.specs.declared.answers.Answer.TheVariants.{Accepted, Refused}
use Rattle.rules.specs.declared.outcomes.Proposed.{Proposed}
use Rattle.rules_theorems.specs.Demands.{IsRefused}
use Rattle.earliest_theorems.specs.Statement.{NoLater, Earliest}

pub record Outcome (S : Stated) (x : Texts) : Type 0 where
  pub lent : Tables
  pub lent_choices : List ℕ
  pub lent_text : List ℕ
  pub result : Proposed
  pub tables : Tables
  pub choices : List ℕ
  pub text : List ℕ
  pub keeps : Proposes S x lent lent_choices lent_text result tables choices text

-- a text that `check` accepts, in whatever room was lent to it: f and y are what the texts say, and y has the nominal travel times
pub record AcceptedText (S : Stated) (x : Texts) (f : Files) (y : List Configuration) : Type 0 where
  pub text : List ℕ
  pub lent : Tables
  pub lent_choices : List ℕ
  pub read : all_read S x text (rooms_of lent) (length lent_choices) ≡ good (record { files = f; choices = y })
  pub accepted : (checked S x text lent lent_choices).answer ≡ Accepted
  pub travels : SameTravel (choices_of f.rows) y

module _ {S : Stated} {x : Texts} (k : Outcome S x) where
  -- DEMAND 1: accepted, or a refusal that fills all; no violation comes out
  pub record Ends : Type 0 where
    pub one_of_two : (k.result.answer ≡ Accepted) ⊎ IsRefused k.result.answer
    pub no_tests_lem : IsRefused k.result.answer → k.result.tally ≡ no_tests
    pub no_length : IsRefused k.result.answer → k.result.length ≡ 0
    pub tables_emptied : IsRefused k.result.answer → k.tables ≡ filled_tables k.lent
    pub choices_emptied : IsRefused k.result.answer → k.choices ≡ filled unsigned_fill k.lent_choices
    pub text_emptied : IsRefused k.result.answer → k.text ≡ filled byte_fill k.lent_text

  -- ACCEPTED: f is what the files say, y the proposal
  pub record ProposedTo (f : Files) (y : List Configuration) : Type 0 where
    pub files_read : files_of S x (rooms_of k.lent) ≡ good f
    pub earliest : Earliest f.rows (ordered f.document.constraints) y
    pub tally : k.result.tally ≡ (verdict_of f y).tally
    pub tables : k.tables ≡ written_tables f k.lent
    pub choices : k.choices ≡ written_choices y k.lent_choices
    -- the text is the draft's rows with the proposal's choices
    pub written : take k.result.length k.text ≡ text_of (chosen f.rows y)
    -- `check` accepts it
    pub checks : (checked S x (take k.result.length k.text) k.lent k.lent_choices).answer ≡ Accepted
    -- no text that `check` accepts, with the nominal travel times, has a leg leaving sooner
    pub none_sooner : (g : Files) (z : List Configuration) → AcceptedText S x g z → NoLater y z

  -- 19, once the files are read: "exactly when no accepted solution with those travel times exists"
  abbrev pub NineteenExactly : Files → Type 0
  NineteenExactly f = (k.result.answer ≡ Refused (refusal no_solution no_file 0)) ↔ ((y : List Configuration) → AcceptedText S x f y → ⊥)
