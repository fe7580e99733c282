-- The rows of a merge, row by row. Assumes nothing.
use Prim.Native.Nat.{ℕ, suc}
use mathlib.Core.Path.{◌≡◌, ap, sym, ◌∙◌}
use mathlib.Core.List.{List, [], ◌∷◌, ◌++◌, append-nil}
use Rattle.rules.specs.Lists.{flat}
use Rattle.rules.specs.Timetable.{Row}
use Rattle.rules.specs.Energy.{tabulate}
use Rattle.rules.specs.Merge.{zipped, spelled_row, chooser}
use Rattle.rules.specs.declared.sizes.Configuration.{Configuration}
use Rattle.rules.specs.declared.sizes.Leg.{Leg}
use Rattle.rules.specs.declared.outcomes.Direction.{Direction}
use Rattle.rules.proofs.Lists.{tabulate-more, flat_append}
use Rattle.rules_theorems.proofs.Tabulate.{tabulate-zipped}
use Rattle.tables_views.specs.View.{leg_at, configuration_at}
use Rattle.timetable_writer.specs.Rows.{row_of}
use Rattle.merge_text.specs.Merges.{merged_in, rows_text}

-- one entry more
flat-more : {A : Type 0} (f : A → List ℕ) (n : ℕ) (g : ℕ → A) → flat f (tabulate (suc n) g) ≡ flat f (tabulate n g) ++ f (g n)
flat-more f n g =
    ap (flat f) (tabulate-more n g) ∙ flat_append f (tabulate n g) (g n ∷ []) ∙ ap (λ (r : List ℕ). flat f (tabulate n g) ++ r) (append-nil (f (g n)))

module _ (d : Direction) (legs configurations first second : List ℕ) where
  -- row i of the merge
  abbrev pub merged_at : ℕ → Row
  merged_at i = row_of configurations (leg_at legs i) (chooser d (configuration_at first i) (configuration_at second i))

  -- the text of the first i rows
  abbrev pub merged_text : ℕ → List ℕ
  merged_text i = rows_text (tabulate i merged_at)

  pub merged_all : (n : ℕ) → merged_text n ≡ rows_text (merged_in d n legs configurations first second)
  merged_all n =
      ap rows_text
      (sym (tabulate-zipped (row_of configurations) n (leg_at legs) (λ i. chooser d (configuration_at first i) (configuration_at second i)))
      ∙ ap (zipped (row_of configurations) (tabulate n (leg_at legs)))
      (sym (tabulate-zipped (chooser d) n (configuration_at first) (configuration_at second))))

  pub merged-more : (i : ℕ) {l : Leg} {a b c : Configuration} → l ≡ leg_at legs i → a ≡ configuration_at first i → b ≡ configuration_at second i
      → c ≡ chooser d a b → merged_text (suc i) ≡ merged_text i ++ spelled_row (row_of configurations l c)
  merged-more i hl ha hb hc = rw (hc, hl, ha, hb) (flat-more spelled_row i merged_at)
