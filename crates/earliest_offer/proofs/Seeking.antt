-- One step of the walk over a leg's list from its end, in the terms of the code. Assumes nothing.
use Prim.Native.Nat.{ℕ, suc, ◌+◌, ◌-◌, ◌≤◌, ◌<◌}
use native.Mathlib.Omega.{arith}
use mathlib.Core.Path.{◌≡◌, refl, sym, ap, ap₂, ◌∙◌}
use mathlib.Core.Logic.{◌≢◌}
use mathlib.Core.Bool.{Bool, true, false, cond, true≢false}
use mathlib.Core.List.{List, ◌∷◌}
use lib.Dec.{leb}
use lib.ListN.{drop}
use borrow.Author.Tests.{eq-eqb, ne_eqb, le-leb, lt-leb, leb-true}
use Rattle.rules.specs.Energy.{tabulate}
use Rattle.rules.specs.Earliest.{timed_of, sooner_than, soonest}
use Rattle.rules.specs.declared.sizes.Configuration.{Configuration}
use Rattle.rules.specs.declared.sizes.Leg.{Leg}
use Rattle.tables_views.specs.View.{configuration_at}
use Rattle.tables_views.proofs.Tabulated.{tabulate_from, tabulate-past}
use Rattle.std.specs.Prelude.{Option, Some, None, IsTrue, MatchOption, ◌↔◌}
use Rattle.earliest_offer.specs.declared.Best.{Best}
use Rattle.earliest_offer.specs.Offer.{Sought}

module _ (table : List ℕ) (first count travel least : ℕ) where
  abbrev at : ℕ → Configuration
  at j = configuration_at table (first + j)

  -- of the offers from j on
  abbrev pub best_from : ℕ → Option Configuration
  best_from j = soonest least (timed_of travel (drop j (tabulate count at)))

  pub record Seeking (best : Option Best) (j : ℕ) : Type 0 where
    pub within : j ≤ count
    pub found : (b : Best) → best ≡ Some b → (b.place < count) × (best_from j ≡ Some (at b.place)) × (b.departure ≡ (at b.place).departure)
    pub missing : best ≡ None → best_from j ≡ None

  pub seeking_begins : Seeking None count
  seeking_begins =
      record {
        within = omega arith;
        found = λ b e. (cc);
        missing = λ e. ap (λ l. soonest least (timed_of travel l)) (tabulate-past count at count (omega arith));
      }

  module _ (best : Option Best) (j : ℕ) (s : Seeking best j) (h : 0 < j) (x : Configuration) (ex : x ≡ at (j - 1)) where
    -- the offer before those looked at
    next : best_from (j - 1) ≡ soonest least (timed_of travel (x ∷ drop j (tabulate count at)))
    next =
        let lt : j - 1 < count = omega (arith, s.within) in
        let e : suc (j - 1) ≡ j = omega arith in
        ap (λ l. soonest least (timed_of travel l)) (tabulate_from count at (j - 1) lt ∙ ap₂ (λ (y : Configuration) i. y ∷ drop i (tabulate count at)) (sym ex) e)

    same : best_from (j - 1) ≡ best_from j → Seeking best (j - 1)
    same e =
        record {
          within = omega (arith, s.within);
          found = λ b q. let f = s.found b q in (f.0, e ∙ f.1, f.2);
          missing = λ q. e ∙ s.missing q;
        }

    pub other_travel : x.travel ≢ travel → Seeking best (j - 1)
    other_travel k = same (next ∙ ap (λ b. soonest least (cond b (x ∷ timed_of travel (drop j (tabulate count at))) (timed_of travel (drop j (tabulate count at))))) (ne_eqb x.travel travel k))

    module _ (t : x.travel ≡ travel) where
      here : best_from (j - 1) ≡ cond (leb least x.departure) (sooner_than x (best_from j)) (best_from j)
      here = next ∙ ap (λ b. soonest least (cond b (x ∷ timed_of travel (drop j (tabulate count at))) (timed_of travel (drop j (tabulate count at))))) (eq-eqb x.travel travel t)

      pub too_soon_lem : x.departure < least → Seeking best (j - 1)
      too_soon_lem k = same (here ∙ ap (λ b. cond b (sooner_than x (best_from j)) (best_from j)) (lt-leb least x.departure k))

      module _ (k : least ≤ x.departure) where
        taken : best_from (j - 1) ≡ sooner_than x (best_from j)
        taken = here ∙ ap (λ b. cond b (sooner_than x (best_from j)) (best_from j)) (le-leb least x.departure k)

        mine : best_from (j - 1) ≡ Some x → Seeking (Some (record { place = j - 1; departure = x.departure })) (j - 1)
        mine e =
            record {
              within = omega (arith, s.within);
              found = λ b q.
                  let one : record { place = j - 1; departure = x.departure } ≡ b = cc in
                  rw (← one) (omega (arith, s.within), e ∙ ap Some ex, ap (λ (y : Configuration). y.departure) ex);
              missing = λ q. (cc);
            }

        -- b says whether it is the soonest so far
        module _ (b : Bool) (sooner : MatchOption best (IsTrue b) (λ o. IsTrue b ↔ (x.departure ≤ o.departure))) where
          pub sooner-found : b ≡ true → Seeking (Some (record { place = j - 1; departure = x.departure })) (j - 1)
          sooner-found q = go best refl sooner
            where
              go : (o : Option Best) → best ≡ o → MatchOption o (IsTrue b) (λ a. IsTrue b ↔ (x.departure ≤ a.departure))
                  → Seeking (Some (record { place = j - 1; departure = x.departure })) (j - 1)
              go None e k = mine (taken ∙ ap (sooner_than x) (s.missing e))
              go (Some a) e k =
                  let f = s.found a e in
                  mine (taken ∙ ap (sooner_than x) f.1 ∙ ap (λ t. Some (cond t x (at a.place))) (le-leb x.departure (at a.place).departure (rw (← f.2) (k.0 q))))

          pub later-passed : b ≡ false → Seeking best (j - 1)
          later-passed q = go best refl sooner
            where
              go : (o : Option Best) → best ≡ o → MatchOption o (IsTrue b) (λ a. IsTrue b ↔ (x.departure ≤ a.departure)) → Seeking best (j - 1)
              go None e k = absurd (true≢false (sym k ∙ q))
              go (Some a) e k =
                  let f = s.found a e in
                  let later : leb x.departure (at a.place).departure ≡ false = rw (← f.2) (not_soon (leb x.departure a.departure) refl) in
                  same (taken ∙ ap (sooner_than x) f.1 ∙ ap (λ t. Some (cond t x (at a.place))) later ∙ sym f.1)
                where
                  not_soon : (t : Bool) → leb x.departure a.departure ≡ t → leb x.departure a.departure ≡ false
                  not_soon false z = z
                  not_soon true z = absurd (true≢false (sym (k.1 (leb-true x.departure a.departure z)) ∙ q))

-- all of them looked at
module _ (table : List ℕ) (leg : Leg) (travel least : ℕ) (best : Option Best) (j : ℕ) (s : Seeking table leg.first leg.count travel least best j) (h : j ≤ 0) where
  whole : best_from table leg.first leg.count travel least j ≡ best_from table leg.first leg.count travel least 0
  whole = let e : j ≡ 0 = omega arith in ap (best_from table leg.first leg.count travel least) e

  pub seeking_some : (b : Best) → best ≡ Some b → Sought table leg travel least (Some b.place)
  seeking_some b e =
      let f = s.found b e in
      record {
        found = λ k q.
            let same : b.place ≡ k = cc in
            rw (← same) (f.0, sym whole ∙ f.1);
        missing = λ q. (cc);
      }
