-- An answer that is a refusal is one of the numbered ones. Assumes nothing.
use Prim.Native.Nat.{ℕ}
use mathlib.Core.Path.{◌≡◌, refl}
use mathlib.Core.Bool.{true}
use native.Mathlib.Omega.{arith}
use Rattle.rules.specs.Answers.{is_refusal}
use Rattle.rules.specs.declared.answers.Answer.{Answer}
use Rattle.rules.specs.declared.answers.Answer.TheVariants.{Accepted, Violated, Refused}
use Rattle.rules_theorems.specs.Demands.{IsRefused}

pub is_refused : (a : Answer) → is_refusal a ≡ true → IsRefused a
is_refused Accepted e = let z : ◌≡◌ {A = ℕ} 0 1 = cc in absurd (omega arith)
is_refused (Violated v) e = let z : ◌≡◌ {A = ℕ} 0 1 = cc in absurd (omega arith)
is_refused (Refused r) e = (r, refl)
