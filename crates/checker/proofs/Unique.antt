-- Every input has one outcome: any two that keep an entry's promise coincide. Assumes nothing.
use Prim.Native.Nat.{ℕ}
use mathlib.Core.Path.{◌≡◌, sym, ◌∙◌}
use mathlib.Core.List.{List}
use lib.IntN.{ℤ}
use Rattle.rules.specs.Reading.{Texts}
use Rattle.rules.specs.Entries.{Tables}
use Rattle.rules.specs.Promises.{Checks, Reports, Merges}
use Rattle.rules.specs.declared.stated.Stated.{Stated}
use Rattle.rules.specs.declared.outcomes.Checked.{Checked}
use Rattle.rules.specs.declared.outcomes.Report.{Report}
use Rattle.rules.specs.declared.outcomes.Merged.{Merged}
use Rattle.rules.specs.declared.outcomes.Direction.{Direction}

module _ (S : Stated) (x : Texts) (s : List ℕ) (t : Tables) (c : List ℕ) where
  pub check_unique : {r₁ r₂ : Checked} {t₁ t₂ : Tables} {c₁ c₂ : List ℕ} → Checks S x s t c r₁ t₁ c₁ → Checks S x s t c r₂ t₂ c₂
      → (r₁ ≡ r₂) × (t₁ ≡ t₂) × (c₁ ≡ c₂)
  check_unique p q = (λ j. record { answer = (p.answer ∙ sym q.answer) j; tally = (p.tally ∙ sym q.tally) j }, p.tables ∙ sym q.tables, p.choices ∙ sym q.choices)

  pub energy_unique : {p : List ℤ} {r₁ r₂ : Report} {t₁ t₂ : Tables} {c₁ c₂ : List ℕ} {p₁ p₂ : List ℤ} → Reports S x s t c p r₁ t₁ c₁ p₁ → Reports S x s t c p r₂ t₂ c₂ p₂
      → (r₁ ≡ r₂) × (t₁ ≡ t₂) × (c₁ ≡ c₂) × (p₁ ≡ p₂)
  energy_unique p q = (
    λ j.
        record {
          answer = (p.answer ∙ sym q.answer) j;
          tally = (p.tally ∙ sym q.tally) j;
          figures = (p.figures ∙ sym q.figures) j;
          desk = (p.desk ∙ sym q.desk) j;
        },
    p.tables ∙ sym q.tables,
    p.choices ∙ sym q.choices,
    p.curves ∙ sym q.curves,
  )

-- a merge too, in either direction
module _ (direction : Direction) (S : Stated) (x : Texts) (a b : List ℕ) (t : Tables) (c d w : List ℕ) where
  pub merge_unique : {r₁ r₂ : Merged} {t₁ t₂ : Tables} {c₁ c₂ d₁ d₂ w₁ w₂ : List ℕ} → Merges direction S x a b t c d w r₁ t₁ c₁ d₁ w₁
      → Merges direction S x a b t c d w r₂ t₂ c₂ d₂ w₂ → (r₁ ≡ r₂) × (t₁ ≡ t₂) × (c₁ ≡ c₂) × (d₁ ≡ d₂) × (w₁ ≡ w₂)
  merge_unique p q = (
    λ j. record { answer = (p.answer ∙ sym q.answer) j; tally = (p.tally ∙ sym q.tally) j; length = (p.length ∙ sym q.length) j },
    p.tables ∙ sym q.tables,
    p.choices ∙ sym q.choices,
    p.second ∙ sym q.second,
    p.text ∙ sym q.text,
  )
