-- The search's state in the leg table: its last number packs the nominal's place and that of the choice, and storing one is setting one choice. Assumes nothing.
use Prim.Native.Nat.{ℕ, ◌+◌, ◌*◌, ◌/◌, ◌%◌, ◌≤◌, ◌<◌}
use native.Mathlib.Omega.{arith}
use mathlib.Core.Path.{◌≡◌, refl, sym, ap₂, ◌∙◌}
use mathlib.Core.Logic.{◌≢◌}
use mathlib.Core.Bool.{Bool, true, false}
use mathlib.Core.List.{List}
use lib.Dec.{eqb}
use lib.ListN.{length, get_or, set, length-set}
use lib.Seq.{ext_get_or, get_or-set_same, get_or-set_other}
use borrow.Author.Tests.{eqb-true, eqb-false}
use Rattle.rules.specs.Limits.{leg_width, most_listed}
use Rattle.rules.specs.Energy.{tabulate}
use Rattle.rules.specs.Verdict.{no_choice}
use Rattle.rules.specs.declared.sizes.Configuration.{Configuration}
use Rattle.rules.proofs.Lists.{tabulate-length, tabulate-at}
use Rattle.tables_views.specs.View.{entry_at, configuration_at}
use Rattle.earliest_offer.specs.Offer.{last_at, packed, chosen_at}

pub unpacked : (n p : ℕ) → n < most_listed → (packed n p / most_listed ≡ p) × (packed n p % most_listed ≡ n)
unpacked n p h = (omega arith, omega arith)

abbrev chosen_in : (n : ℕ) → (legs configurations : List ℕ) → List Configuration
chosen_in n legs configurations = tabulate n (chosen_at legs configurations)

module _ (n : ℕ) (legs configurations : List ℕ) (i v : ℕ) (h : i < n) (room : leg_width * n ≤ length legs) where
  abbrev after : List ℕ
  after = set legs (last_at i) v

  other : (j k : ℕ) → leg_width * j + k ≢ last_at i → entry_at leg_width after j k ≡ entry_at leg_width legs j k
  other j k d = get_or-set_other legs (last_at i) (leg_width * j + k) v 0 d

  stored : entry_at leg_width after i 7 ≡ v
  stored = get_or-set_same legs (last_at i) v 0 (omega arith)

  at_row : (j : ℕ) → j < n → (b : Bool) → eqb j i ≡ b → chosen_at after configurations j ≡ get_or (set (chosen_in n legs configurations) i (configuration_at configurations (entry_at leg_width legs i 5 + v / most_listed))) j no_choice
  at_row j l true e =
      rw (eqb-true j i e)
      (ap₂ (λ f p. configuration_at configurations (f + p / most_listed)) (other i 5 (λ q. omega arith)) stored
      ∙ sym (get_or-set_same (chosen_in n legs configurations) i _ no_choice (rw (tabulate-length n (chosen_at legs configurations)) h)))
  at_row j l false e =
      let d : j ≢ i = eqb-false j i e in
      ap₂ (λ f p. configuration_at configurations (f + p / most_listed)) (other j 5 (λ q. omega arith)) (other j 7 (λ q. d (omega arith)))
      ∙ sym (get_or-set_other (chosen_in n legs configurations) i j _ no_choice d ∙ tabulate-at n (chosen_at legs configurations) no_choice j l)

  -- STORING IS SETTING
  pub view-set : chosen_in n after configurations ≡ set (chosen_in n legs configurations) i (configuration_at configurations (entry_at leg_width legs i 5 + v / most_listed))
  view-set =
      ext_get_or no_choice (chosen_in n after configurations) (set (chosen_in n legs configurations) i (configuration_at configurations (entry_at leg_width legs i 5 + v / most_listed)))
      (tabulate-length n (chosen_at after configurations) ∙ sym (length-set (chosen_in n legs configurations) i _ ∙ tabulate-length n (chosen_at legs configurations)))
      (λ j l. let k : j < n = rw (← tabulate-length n (chosen_at after configurations)) l in
      tabulate-at n (chosen_at after configurations) no_choice j k ∙ at_row j k (eqb j i) refl)
