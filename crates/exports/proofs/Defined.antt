-- The numbers that an export tells are those of the definition's answer. Assumes nothing.
use Prim.Native.Nat.{ℕ}
use mathlib.Core.Path.{◌≡◌, ◌∙◌}
use mathlib.Core.List.{List}
use lib.IntN.{ℤ}
use Rattle.rules.specs.Reading.{Texts}
use Rattle.rules.specs.Merge.{merge_of}
use Rattle.rules.specs.Entries.{Tables, Checked, Reported, Merged, checked, reported, merged}
use Rattle.rules.specs.Promises.{Checks, Reports, Merges}
use Rattle.rules.specs.declared.stated.Stated.{Stated}
use Rattle.rules.specs.declared.outcomes.Direction.{Direction}
use Rattle.exports_numbers.specs.Numbers.{check_numbers, report_numbers, merge_numbers}
use Rattle.exports_numbers.specs.Exported.{Exported}

-- what the definition's outcomes are in numbers
abbrev pub checked_numbers : Checked → List ℕ
checked_numbers r = check_numbers (record { answer = r.answer; tally = r.tally })

abbrev pub reported_numbers : Reported → List ℕ
reported_numbers r = report_numbers (record { answer = r.answer; tally = r.tally; figures = r.figures; desk = r.desk })

abbrev pub merged_numbers : Merged → List ℕ
merged_numbers r = merge_numbers (record { answer = r.answer; tally = r.tally; length = r.length })

module _ (S : Stated) (x : Texts) (s : List ℕ) (t : Tables) (c : List ℕ) where
  pub check_tells : {n : List ℕ} {t' : Tables} {c' : List ℕ} → Exported (λ r. Checks S x s t c r t' c') check_numbers n
      → n ≡ checked_numbers (checked S x s t c)
  check_tells e = e.tells ∙ (λ j. check_numbers (record { answer = e.keeps.answer j; tally = e.keeps.tally j }))

  pub energy_tells : (p : List ℤ) {n : List ℕ} {t' : Tables} {c' : List ℕ} {p' : List ℤ} → Exported (λ r. Reports S x s t c p r t' c' p') report_numbers n
      → n ≡ reported_numbers (reported S x s t c p)
  energy_tells p e =
      e.tells
      ∙ (λ j. report_numbers (record { answer = e.keeps.answer j; tally = e.keeps.tally j; figures = e.keeps.figures j; desk = e.keeps.desk j }))

module _ (direction : Direction) (S : Stated) (x : Texts) (a b : List ℕ) (t : Tables) (c d w : List ℕ) where
  pub merge_tells : {n : List ℕ} {t' : Tables} {c' d' w' : List ℕ} → Exported (λ r. Merges direction S x a b t c d w r t' c' d' w') merge_numbers n
      → n ≡ merged_numbers (merged (merge_of direction) S x a b t c d w)
  merge_tells e = e.tells ∙ (λ j. merge_numbers (record { answer = e.keeps.answer j; tally = e.keeps.tally j; length = e.keeps.length j }))
