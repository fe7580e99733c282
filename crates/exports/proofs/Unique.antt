-- Every input has one outcome for C too: any two that keep an export's promise coincide. Assumes nothing.
use Prim.Native.Nat.{ℕ}
use mathlib.Core.Path.{◌≡◌, sym, ap, ◌∙◌}
use mathlib.Core.List.{List}
use lib.IntN.{ℤ}
use lib.ListN.{length}
use Rattle.rules.specs.Reading.{Texts}
use Rattle.rules.specs.Display.{row_at}
use Rattle.rules.specs.Entries.{Tables}
use Rattle.rules.specs.Promises.{Checks, Reports, Merges}
use Rattle.rules.specs.declared.stated.Stated.{Stated}
use Rattle.rules.specs.declared.outcomes.Direction.{Direction}
use Rattle.checker.proofs.Unique.{check_unique, energy_unique, merge_unique}
use Rattle.exports_numbers.specs.Numbers.{check_numbers, report_numbers, merge_numbers, row_numbers}
use Rattle.exports_numbers.specs.Exported.{Exported}
use Rattle.csv_lines.specs.Starts.{start_at}

-- one outcome gives one list of numbers
one_told : {R : Type 0} {P Q : R → Type 0} {f : R → List ℕ} {n₁ n₂ : List ℕ} (a : Exported P f n₁) (b : Exported Q f n₂) → a.outcome ≡ b.outcome → n₁ ≡ n₂
one_told {f = f} a b same = a.tells ∙ ap f same ∙ sym b.tells

module _ (S : Stated) (x : Texts) (s : List ℕ) (t : Tables) (c : List ℕ) where
  pub check_export_unique : {n₁ n₂ : List ℕ} {t₁ t₂ : Tables} {c₁ c₂ : List ℕ} → Exported (λ r. Checks S x s t c r t₁ c₁) check_numbers n₁
      → Exported (λ r. Checks S x s t c r t₂ c₂) check_numbers n₂ → (n₁ ≡ n₂) × (t₁ ≡ t₂) × (c₁ ≡ c₂)
  check_export_unique a b = let one = check_unique S x s t c a.keeps b.keeps in (one_told a b one.0, one.1, one.2)

  pub energy_export_unique : {p : List ℤ} {n₁ n₂ : List ℕ} {t₁ t₂ : Tables} {c₁ c₂ : List ℕ} {p₁ p₂ : List ℤ} → Exported (λ r. Reports S x s t c p r t₁ c₁ p₁) report_numbers n₁
      → Exported (λ r. Reports S x s t c p r t₂ c₂ p₂) report_numbers n₂ → (n₁ ≡ n₂) × (t₁ ≡ t₂) × (c₁ ≡ c₂) × (p₁ ≡ p₂)
  energy_export_unique a b = let one = energy_unique S x s t c a.keeps b.keeps in (one_told a b one.0, one.1, one.2, one.3)

module _ (direction : Direction) (S : Stated) (x : Texts) (a b : List ℕ) (t : Tables) (c d w : List ℕ) where
  pub merge_export_unique : {n₁ n₂ : List ℕ} {t₁ t₂ : Tables} {c₁ c₂ d₁ d₂ w₁ w₂ : List ℕ} → Exported (λ r. Merges direction S x a b t c d w r t₁ c₁ d₁ w₁) merge_numbers n₁
      → Exported (λ r. Merges direction S x a b t c d w r t₂ c₂ d₂ w₂) merge_numbers n₂ → (n₁ ≡ n₂) × (t₁ ≡ t₂) × (c₁ ≡ c₂) × (d₁ ≡ d₂) × (w₁ ≡ w₂)
  merge_export_unique p q = let one = merge_unique direction S x a b t c d w p.keeps q.keeps in (one_told p q one.0, one.1, one.2, one.3, one.4)

module _ (draft solution : List ℕ) (file place : ℕ) where
  abbrev told : List ℕ
  told = row_numbers (start_at draft solution file place) (length (row_at draft solution file place))

  pub row_export_unique : {n₁ n₂ : List ℕ} → n₁ ≡ told → n₂ ≡ told → n₁ ≡ n₂
  row_export_unique a b = a ∙ sym b
