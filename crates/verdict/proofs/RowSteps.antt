-- One step of the walk over a row's list, and of the walk over the rows, in the terms of the code. Assumes nothing.
use Prim.Native.Nat.{ℕ, suc, ◌+◌, ◌≤◌, ◌<◌}
use native.Mathlib.Numerals.{add-one}
use mathlib.Core.Path.{◌≡◌, sym, ap, ap₂, ◌∙◌}
use mathlib.Core.Bool.{Bool, true, false, cond, ◌||◌}
use mathlib.Core.List.{List}
use lib.ListN.{drop}
use Rattle.rules.specs.Tally.{counted}
use Rattle.rules.specs.Energy.{tabulate}
use Rattle.rules.specs.Kinds.{not_offered}
use Rattle.rules.specs.Timetable.{same, offers}
use Rattle.rules.specs.Verdict.{row_test, row_tests, violated, Verdict, found, verdict_from, answer_of, ruling}
use Rattle.rules.specs.declared.sizes.Configuration.{Configuration}
use Rattle.rules.specs.declared.answers.Tally.{Tally}
use Rattle.rules.specs.declared.answers.Answer.{Answer}
use Rattle.rules.specs.declared.answers.Answer.TheVariants.{Accepted}
use Rattle.tables_views.specs.View.{configuration_at, list_in, offers_in, configurations_in}
use Rattle.tables_views.proofs.Tabulated.{tabulate_from, tabulate-past}

-- ---- a row's list, of count offers from the first on: what is left of it from offer j on

module _ (table : List ℕ) (first count : ℕ) (choice : Configuration) where
  abbrev offer_at : ℕ → Configuration
  offer_at j = configuration_at table (first + j)

  abbrev pub offers_left : ℕ → Bool
  offers_left j = offers (drop j (tabulate count offer_at)) choice

  -- all is whether the whole list offers the choice
  module _ (all : Bool) (j : ℕ) (left : all ≡ offers_left j) where
    pub none_found : count ≤ j → false ≡ all
    none_found h = sym (left ∙ ap (λ list. offers list choice) (tabulate-past count offer_at j h))

    -- x is the offer that was read, b whether it is the choice
    module _ (h : j < count) (x : Configuration) (ex : x ≡ offer_at j) (b : Bool) (eb : b ≡ same choice x) where
      next_offer : all ≡ b || offers_left (suc j)
      next_offer =
          left
          ∙ ap (λ list. offers list choice) (tabulate_from count offer_at j h)
          ∙ ap (λ y. same choice y || offers_left (suc j)) (sym ex)
          ∙ ap (λ a. a || offers_left (suc j)) (sym eb)

      pub offer_found : b ≡ true → true ≡ all
      offer_found e = sym (next_offer ∙ ap (λ a. a || offers_left (suc j)) e)

      pub offer_differs : b ≡ false → all ≡ offers_left (j + 1)
      offer_differs e = next_offer ∙ ap (λ a. a || offers_left (suc j)) e ∙ ap offers_left (sym (add-one j))

-- ---- n rows: what is left of them from row i on, after the tests that a tally counts

module _ (n : ℕ) (legs configurations choices : List ℕ) where
  abbrev pub rows_left : Tally → ℕ → Verdict
  rows_left t i = verdict_from t (row_tests i (drop i (offers_in n legs configurations)) (drop i (configurations_in n choices)))

  -- v is the verdict of all rows
  module _ (v : Verdict) (t : Tally) (i : ℕ) (left : v ≡ rows_left t i) where
    pub rows-passed : (file : ℕ) (a : Answer) → a ≡ Accepted → n ≤ i → record { answer = a; tally = t } ≡ ruling file v
    rows-passed file a ea h =
        ap (λ (x : Answer). record { answer = x; tally = t }) ea
        ∙ sym
        (ap (ruling file)
        (left ∙ ap₂ (λ os cs. verdict_from t (row_tests i os cs)) (tabulate-past n (list_in legs configurations) i h) (tabulate-past n (configuration_at choices) i h)))

    -- b is whether the row's list offers its choice, u the tally with it
    module _ (h : i < n) (b : Bool) (eb : b ≡ offers (list_in legs configurations i) (configuration_at choices i)) (u : Tally) (eu : u ≡ counted not_offered 1 t) where
      abbrev after : Bool → Verdict
      after a = cond a (rows_left (counted not_offered 1 t) (suc i)) (found (violated (row_test i a)) (counted not_offered 1 t))

      next_row : v ≡ after b
      next_row =
          left
          ∙ ap₂ (λ os cs. verdict_from t (row_tests i os cs)) (tabulate_from n (list_in legs configurations) i h) (tabulate_from n (configuration_at choices) i h)
          ∙ ap after (sym eb)

      pub row_passes : b ≡ true → v ≡ rows_left u (i + 1)
      row_passes e = next_row ∙ ap after e ∙ ap₂ rows_left (sym eu) (sym (add-one i))

      -- r is the violation that was made of it
      pub row-fails : b ≡ false → (file : ℕ) (r : Answer) → r ≡ answer_of file (violated (row_test i false))
          → record { answer = r; tally = u } ≡ ruling file v
      row-fails e file r er =
          ap₂ (λ (x : Answer) (y : Tally). record { answer = x; tally = y }) er eu ∙ sym (ap (ruling file) (next_row ∙ ap after e))
