-- The proposal: what the search finds, and how it is ruled on.
use Rattle.std.specs.Prelude.{ℕ, ◌*◌, ◌/◌, ◌≤◌, ◌≡◌, Bool, true, false, cond, List, leb, length, Option, Some, None}
use Rattle.rules.specs.Limits.{configuration_width}
use Rattle.rules.specs.Answers.{refusal, no_solution, no_room, no_file, is_accepted}
use Rattle.rules.specs.Reading.{Files}
use Rattle.rules.specs.Tally.{no_tests}
use Rattle.rules.specs.Entries.{written_choices, verdict_of}
use Rattle.rules.specs.declared.sizes.Configuration.{Configuration}
use Rattle.rules.specs.declared.answers.Ruling.{Ruling}
use Rattle.rules.specs.declared.answers.Answer.TheVariants.{Accepted, Refused}
use Rattle.earliest_search.specs.Searching.{chosen_in, Moved}
use Rattle.earliest_proposal.specs.Left.{Left, earliest_of}

-- ---- the search

-- the earliest timetable, or that there is none
pub record FoundOf (f : Files) (n : ℕ) (legs configurations : List ℕ) (r : Bool) (legs' : List ℕ) : Type 0 where
  pub found : r ≡ true → (earliest_of f ≡ Some (chosen_in n legs' configurations)) × Moved n legs legs'
  pub never : r ≡ false → earliest_of f ≡ None

abbrev pub Finds : (n m : ℕ) → (legs configurations constraints : List ℕ) → Bool → (legs' : List ℕ) → Type 0
Finds n m legs configurations constraints r legs' = (k : Left n m legs configurations constraints) → FoundOf k.files n legs configurations r legs'

-- ---- the rulings

abbrev pub refused_as : (number : ℕ) → Ruling
refused_as number = record { answer = Refused (refusal number no_file 0); tally = no_tests }

abbrev pub accepted_as : Files → List Configuration → Ruling
accepted_as f x = record { answer = Accepted; tally = (verdict_of f x).tally }

-- 19, 16 for the choices, or accepted
abbrev pub ruling_of : Files → Option (List Configuration) → (room : ℕ) → Ruling
ruling_of f None room = refused_as no_solution
ruling_of f (Some x) room = cond (leb (length x) (room / configuration_width)) (accepted_as f x) (refused_as no_room)

-- ---- after the search has found

pub record Settleable (n m : ℕ) (legs configurations constraints choices : List ℕ) : Type 0 where
  pub before : List ℕ
  pub left : Left n m before configurations constraints
  pub found : earliest_of left.files ≡ Some (chosen_in n legs configurations)
  pub moved : Moved n before legs
  pub room : n * configuration_width ≤ length choices

-- the leg table as it was read, and the proposal at the choice table's front
pub record SettledOf (f : Files) (before : List ℕ) (x : List Configuration) (choices : List ℕ) (r : Ruling) (legs' choices' : List ℕ) : Type 0 where
  pub ruled : r ≡ accepted_as f x
  pub legs_back : legs' ≡ before
  pub choices_put : choices' ≡ written_choices x choices

abbrev pub Settles : (n m : ℕ) → (legs configurations constraints choices : List ℕ) → Ruling → (legs' choices' : List ℕ) → Type 0
Settles n m legs configurations constraints choices r legs' choices' =
    (z : Settleable n m legs configurations constraints choices) → SettledOf z.left.files z.before (chosen_in n legs configurations) choices r legs' choices'

-- ---- both

-- the proposal, and both tables
pub record Put (f : Files) (legs choices legs' choices' : List ℕ) : Type 0 where
  pub x : List Configuration
  pub found : earliest_of f ≡ Some x
  pub legs_back : legs' ≡ legs
  pub choices_put : choices' ≡ written_choices x choices

pub record DecidedOf (f : Files) (legs choices : List ℕ) (r : Ruling) (legs' choices' : List ℕ) : Type 0 where
  pub ruled : r ≡ ruling_of f (earliest_of f) (length choices)
  pub puts : is_accepted r.answer ≡ true → Put f legs choices legs' choices'

abbrev pub Decides : (n m : ℕ) → (legs configurations constraints choices : List ℕ) → Ruling → (legs' choices' : List ℕ) → Type 0
Decides n m legs configurations constraints choices r legs' choices' =
    (k : Left n m legs configurations constraints) → DecidedOf k.files legs choices r legs' choices'
