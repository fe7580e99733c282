-- The values of each answer about the duties are read back at their places, and its case by the code. Assumes nothing.
use Prim.Native.Nat.{ℕ}
use mathlib.Core.Path.{◌≡◌, refl, ap}
use mathlib.Core.List.{List}
use native.Mathlib.Omega.{arith}
use lib.ListN.{get_or}
use Rattle.rules.specs.Lists.{over}
use Rattle.rules.specs.declared.answers.Told.{Told}
use Rattle.rules.specs.declared.answers.Told.TheVariants.{Accepted, Broken, Refused}
use Rattle.rules.specs.declared.answers.BrokenRule.{BrokenRule}
use Rattle.rules.specs.declared.answers.Refusal.{Refusal}
use Rattle.exports_numbers.specs.Duties.{told_numbers, nodes_at, broken_at, duties_refusal_at}

pub nodes_read : (nodes : ℕ) → nodes_at (told_numbers (Accepted nodes)) ≡ nodes
unfolding over
nodes_read nodes = refl

pub broken-read : (b : BrokenRule) → broken_at (told_numbers (Broken b)) ≡ b
unfolding over
broken-read b = refl

pub duties_refusal-read : (f : Refusal) → duties_refusal_at (told_numbers (Refused f)) ≡ f
unfolding over
duties_refusal-read f = refl

-- so no two answers have the same numbers
abbrev code_at : List ℕ → ℕ
code_at l = get_or l 0 0

pub told_by_numbers : (a b : Told) → told_numbers a ≡ told_numbers b → a ≡ b
unfolding over
told_by_numbers (Accepted m) (Accepted n) e = ap (λ (l : List ℕ). Accepted (nodes_at l)) e
told_by_numbers (Broken b) (Broken d) e = ap (λ (l : List ℕ). Broken (broken_at l)) e
told_by_numbers (Refused r) (Refused s) e = ap (λ (l : List ℕ). Refused (duties_refusal_at l)) e
told_by_numbers (Accepted m) (Broken b) e = absurd (omega (arith, ap code_at e))
told_by_numbers (Accepted m) (Refused r) e = absurd (omega (arith, ap code_at e))
told_by_numbers (Broken b) (Accepted n) e = absurd (omega (arith, ap code_at e))
told_by_numbers (Broken b) (Refused r) e = absurd (omega (arith, ap code_at e))
told_by_numbers (Refused r) (Accepted n) e = absurd (omega (arith, ap code_at e))
told_by_numbers (Refused r) (Broken b) e = absurd (omega (arith, ap code_at e))
