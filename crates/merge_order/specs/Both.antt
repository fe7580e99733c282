-- Two solutions over files that were read: what reading both promises, and judging both.
use Rattle.std.specs.Prelude.{ℕ, ◌≡◌, List, length, Result, Ok, Err}
use Rattle.rules.specs.Answers.{Reading, refused, good, ◌>>=◌, solution_file, second_file}
use Rattle.rules.specs.Reading.{Files, choices_read}
use Rattle.rules.specs.Verdict.{ruling}
use Rattle.rules.specs.Entries.{written_choices, verdict_of, Both}
use Rattle.rules.specs.declared.sizes.Configuration.{Configuration}
use Rattle.rules.specs.declared.answers.Refusal.{Refusal}
use Rattle.rules.specs.declared.answers.Ruling.{Ruling}
use Rattle.tables_lent.specs.declared.Counts.{Counts}
use Rattle.solution_verdict.specs.Left.{Choosable, Ready}
use Rattle.merge_order.specs.Order.{first_ruling}

-- ---- choosing

abbrev pub solutions_read : (H : ℕ) → Files → (first second : List ℕ) → (choices second_choices : ℕ) → Reading Both
solutions_read H files first second choices second_choices = do
  a ← choices_read H files solution_file choices first
  b ← choices_read H files second_file second_choices second
  good (record { files = files; first = a; second = b })

-- both were read, and stand over the choice tables c and d as they were lent
pub record BothChosen (H : ℕ) (files : Files) (first second c d c' d' : List ℕ) : Type 0 where
  pub a : List Configuration
  pub b : List Configuration
  pub a_read : choices_read H files solution_file (length c) first ≡ good a
  pub b_read : choices_read H files second_file (length d) second ≡ good b
  pub choices_are : c' ≡ written_choices a c
  pub second_are : d' ≡ written_choices b d

pub record ChoosesBoth (H : ℕ) (counts : Counts) (first second legs c d : List ℕ) (answer : Result (Unit {0}) Refusal) (c' d' : List ℕ) : Type 0 where
  pub refuses : (k : Choosable H counts legs) (x : Refusal) → answer ≡ Err x → solutions_read H k.left.files first second (length c) (length d) ≡ refused x
  pub chooses : (k : Choosable H counts legs) → answer ≡ (Ok tt) → BothChosen H k.left.files first second c d c' d'

-- ---- judging

pub record BothReady (counts : Counts) (legs configurations constraints choices second_choices : List ℕ) : Type 0 where
  pub first : Ready counts legs configurations constraints choices
  pub second : Ready counts legs configurations constraints second_choices

-- the verdict of one, in its file
abbrev pub verdict_in : {counts : Counts} {legs configurations constraints choices : List ℕ} → (file : ℕ) → Ready counts legs configurations constraints choices → Ruling
verdict_in file k = ruling file (verdict_of k.tables.left.files k.chosen)

abbrev pub JudgesBoth : Counts → (legs configurations constraints choices second_choices : List ℕ) → Ruling → Type 0
JudgesBoth counts legs configurations constraints choices second_choices r =
    (k : BothReady counts legs configurations constraints choices second_choices) → r ≡ first_ruling (verdict_in solution_file k.first) (verdict_in second_file k.second)
