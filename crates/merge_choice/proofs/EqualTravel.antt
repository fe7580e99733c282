-- 17 over two tables of choices: the first row, from the loop's row on, whose travel times are unequal. Assumes nothing.
use Prim.Native.Nat.{ℕ, ◌+◌, ◌≤◌, ◌<◌}
use mathlib.Core.Path.{◌≡◌, ap, sym, ◌∙◌}
use mathlib.Core.List.{List}
use native.Mathlib.Numerals.{add-one}
use lib.ListN.{drop}
use borrow.Author.Tests.{eq-eqb, ne_eqb}
use Rattle.rules.specs.Merge.{unequal_from}
use Rattle.rules.specs.declared.sizes.Configuration.{Configuration}
use Rattle.tables_views.specs.View.{configuration_at, configurations_in}
use Rattle.tables_views.proofs.Tabulated.{tabulate_from, tabulate-past}
use Rattle.std.specs.Prelude.{Option, Some, None}

abbrev travel_of : Configuration → ℕ
travel_of c = c.travel

module _ (n : ℕ) (first second : List ℕ) where
  -- 17 from row i on
  abbrev pub unequal_after : ℕ → Option ℕ
  unequal_after i = unequal_from i (drop i (configurations_in n first)) (drop i (configurations_in n second))

  pub unequal_here : (i : ℕ) {a b : Configuration} → i < n → a ≡ configuration_at first i → b ≡ configuration_at second i → (a.travel ≡ b.travel → ⊥)
      → unequal_after i ≡ Some i
  unequal_here i h ha hb ne =
      let k : (configuration_at first i).travel ≡ (configuration_at second i).travel → ⊥ = λ e. ne (ap travel_of ha ∙ e ∙ sym (ap travel_of hb)) in
      rw (tabulate_from n (configuration_at first) i h, tabulate_from n (configuration_at second) i h, ne_eqb (configuration_at first i).travel (configuration_at second i).travel k)

  pub unequal_later : (i : ℕ) {a b : Configuration} → i < n → a ≡ configuration_at first i → b ≡ configuration_at second i → a.travel ≡ b.travel
      → unequal_after (i + 1) ≡ unequal_after i
  unequal_later i h ha hb e =
      let k : (configuration_at first i).travel ≡ (configuration_at second i).travel = sym (ap travel_of ha) ∙ e ∙ ap travel_of hb in
      rw (add-one i, tabulate_from n (configuration_at first) i h, tabulate_from n (configuration_at second) i h, eq-eqb (configuration_at first i).travel (configuration_at second i).travel k)

  pub unequal_none : (i : ℕ) → n ≤ i → unequal_after i ≡ None
  unequal_none i h = rw (tabulate-past n (configuration_at first) i h)
