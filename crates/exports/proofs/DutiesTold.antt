-- Rolling stock duties for C: the numbers told are those of the definition's answer, and any two outcomes that keep the promise coincide. Assumes nothing.
use Prim.Native.Nat.{ℕ}
use mathlib.Core.Path.{◌≡◌, refl, sym, ap, ◌∙◌}
use mathlib.Core.List.{List}
use lib.IntN.{ℤ}
use Rattle.rules.specs.Duties.{duties_checked}
use Rattle.rules.specs.Promises.{ChecksDuties}
use Rattle.duties_theorems.specs.Outcomes.{Outcome}
use Rattle.duties_theorems.proofs.Outcomes.{one_outcome}
use Rattle.exports_numbers.specs.Duties.{told_numbers, duties_numbers}
use Rattle.exports_numbers.specs.Exported.{Exported}

module _ (text n : List ℕ) (z : List ℤ) where
  abbrev Told : (numbers nodes : List ℕ) (balance : List ℤ) → Type 0
  Told numbers nodes balance = Exported (λ r. ChecksDuties text n z r nodes balance) duties_numbers numbers

  pub duties_tells : {m n' : List ℕ} {z' : List ℤ} → Told m n' z' → m ≡ told_numbers (duties_checked text n z).answer
  duties_tells e = e.tells ∙ ap told_numbers e.keeps.answer

  abbrev outcome : {m n' : List ℕ} {z' : List ℤ} → Told m n' z' → Outcome text
  outcome {m} {n'} {z'} e = record { lent_nodes = n; lent_balance = z; result = e.outcome; nodes = n'; balance = z'; keeps = e.keeps }

  pub duties_export_unique : {m₁ m₂ n₁ n₂ : List ℕ} {z₁ z₂ : List ℤ} → Told m₁ n₁ z₁ → Told m₂ n₂ z₂ → (m₁ ≡ m₂) × (n₁ ≡ n₂) × (z₁ ≡ z₂)
  duties_export_unique a b =
      let one = one_outcome (outcome a) (outcome b) refl refl in
      (a.tells ∙ ap duties_numbers one.0 ∙ sym b.tells, one.1, one.2)
