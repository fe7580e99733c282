-- What is told of rolling stock duties (document 02, E13): a code, then the values of its case, then 0s, and no tests; and what stands at the places that include/wagontulip.h has names for.
use Rattle.std.specs.Prelude.{ℕ, List, ◌∷◌, get_or}
use Rattle.rules.specs.Answers.{told_values}
use Rattle.rules.specs.declared.answers.Told.{Told}
use Rattle.rules.specs.declared.answers.Told.TheVariants.{Accepted, Broken, Refused}
use Rattle.rules.specs.declared.answers.BrokenRule.{BrokenRule}
use Rattle.rules.specs.declared.answers.Refusal.{Refusal}
use Rattle.rules.specs.declared.outcomes.Duties.{Duties}
use Rattle.exports_numbers.specs.Numbers.{accepted_code, refused_code, untested}

-- a row that breaks a rule has a code of its own
abbrev pub broken_code : ℕ
broken_code = 4

abbrev pub code_of : Told → ℕ
code_of (Accepted nodes) = accepted_code
code_of (Broken b) = broken_code
code_of (Refused r) = refused_code

abbrev pub told_numbers : Told → List ℕ
told_numbers a = untested (code_of a ∷ told_values a)

abbrev pub duties_numbers : Duties → List ℕ
duties_numbers r = told_numbers r.answer

-- ---- the values of each case, read back by name

module _ (numbers : List ℕ) where
  abbrev at : (place : ℕ) → ℕ
  at place = get_or numbers place 0

  abbrev pub nodes_at : ℕ
  nodes_at = at 1

  abbrev pub broken_at : BrokenRule
  broken_at = record { row = at 1; rule = at 2; place = at 3 }

  abbrev pub duties_refusal_at : Refusal
  duties_refusal_at = record { number = at 1; file = at 2; place = at 3 }
