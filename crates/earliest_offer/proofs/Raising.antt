-- A row moved on, in the terms of the code. Assumes nothing.
use Prim.Native.Nat.{ℕ, ◌+◌, ◌*◌, ◌%◌, ◌≤◌, ◌<◌, ◌^◌}
use native.Mathlib.Omega.{arith}
use mathlib.Core.Path.{◌≡◌, refl, sym, ap, ap₂, ◌∙◌, subst}
use mathlib.Core.Bool.{true, false, true≢false}
use mathlib.Core.List.{List}
use lib.ListN.{set}
use Rattle.std.specs.Prelude.{Option, Some, None}
use Rattle.rules.specs.Limits.{most_listed}
use Rattle.rules.specs.Earliest.{soonest}
use Rattle.rules.specs.declared.sizes.Configuration.{Configuration}
use Rattle.rules.specs.declared.sizes.Leg.{Leg}
use Rattle.tables_views.specs.View.{leg_at}
use Rattle.earliest_offer.specs.Offer.{timed_part, offer_at, last_at, packed, Sought, chosen_of, chosen_at, next_of, Raisable, Raised}

pub chosen-read : (legs configurations : List ℕ) (row : ℕ) (leg : Leg) → leg ≡ leg_at legs row → (x : Configuration) → x ≡ chosen_of configurations leg
    → x ≡ chosen_at legs configurations row
chosen-read legs configurations row leg el x ex = ex ∙ ap (chosen_of configurations) el

module _ (legs configurations : List ℕ) (row by : ℕ) (k : Raisable legs configurations row by) (leg : Leg) (el : leg ≡ leg_at legs row)
    (x : Configuration) (ex : x ≡ chosen_of configurations leg) where
  present_is : x ≡ chosen_at legs configurations row
  present_is = chosen-read legs configurations row leg el x ex

  pub least_fits : x.departure + by < 2 ^ 32
  least_fits = rw present_is k.early

  module _ (r : Option ℕ) (s : Sought configurations leg x.travel (x.departure + by) r) where
    found_is : soonest (x.departure + by) (timed_part configurations x.travel leg) ≡ next_of legs configurations row by
    found_is = ap₂ (λ (y : Configuration) (l : Leg). soonest (y.departure + by) (timed_part configurations y.travel l)) present_is el

    pub none-raised : r ≡ None → Raised legs configurations row by false legs
    none-raised e = record { none_left = λ q. (sym found_is ∙ s.missing e, refl); one_left = λ q. absurd (true≢false (sym q)) }

    module _ (place : ℕ) (e : r ≡ Some place) where
      low : place < most_listed
      low = let c : leg.count ≤ most_listed = rw el k.few in omega (arith, (s.found place e).0)

      pub place_small : place < 2 ^ 32
      place_small = let l : place < most_listed = low in omega arith

      pub place_fits : most_listed * place < 2 ^ 32
      place_fits = let l : place < most_listed = low in omega arith

      pub pack_fits : leg.nominal % most_listed + most_listed * place < 2 ^ 32
      pack_fits = let l : place < most_listed = low in omega arith

      pub raised_to : (legs' : List ℕ) → legs' ≡ set legs (last_at row) (packed (leg.nominal % most_listed) place) → Raised legs configurations row by true legs'
      raised_to legs' q =
          record {
            none_left = λ q. absurd (true≢false q);
            one_left = λ z.
                record {
                  place = place;
                  listed = subst (λ (l : Leg). place < l.count) el (s.found place e).0;
                  next = sym found_is ∙ (s.found place e).1 ∙ ap (λ (l : Leg). Some (offer_at configurations l place)) el;
                  stores = q ∙ ap (λ (l : Leg). set legs (last_at row) (packed (l.nominal % most_listed) place)) el;
                };
          }
