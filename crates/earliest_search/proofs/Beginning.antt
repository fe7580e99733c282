-- The first choices: each row's soonest offer, which is there, since the nominal is listed. Assumes nothing.
use Prim.Native.Nat.{ℕ, zero, suc, ◌+◌, ◌*◌, ◌/◌, ◌%◌, ◌≤◌, ◌<◌, ◌^◌}
use native.Mathlib.Omega.{arith}
use native.Mathlib.Nat.{le_of_suc-le-suc, not-suc-le-zero}
use mathlib.Core.Path.{◌≡◌, refl, sym, ap, ap₂, ◌∙◌, subst}
use mathlib.Core.Logic.{◌≢◌}
use mathlib.Core.Bool.{Bool, true, false}
use mathlib.Core.List.{List}
use lib.Dec.{T, eqb}
use lib.ListN.{length, get_or, set, length-set}
use lib.Seq.{get_or-set_same, get_or-set_other}
use borrow.Author.Tests.{eqb-true, eqb-false}
use Rattle.std.specs.Prelude.{Option, Some, None, is_some}
use Rattle.rules.specs.Limits.{leg_width, most_listed}
use Rattle.rules.specs.Energy.{tabulate}
use Rattle.rules.specs.Timetable.{same, offers}
use Rattle.rules.specs.Earliest.{timed_of, soonest}
use Rattle.rules.specs.declared.sizes.Configuration.{Configuration}
use Rattle.rules.specs.declared.sizes.Leg.{Leg}
use Rattle.tables_views.specs.View.{entry_at, as_leg, configuration_at, leg_at, part_of}
use Rattle.earliest_theorems.specs.Search.{Picked}
use Rattle.earliest_theorems.proofs.Soonest.{or_left, or_right, same_refl, picked}
use Rattle.earliest_theorems.proofs.Proposed.{timed_in_lem}
use Rattle.earliest_offer.specs.Offer.{offer_at, Sought, last_at, packed, chosen_at}
use Rattle.earliest_offer.proofs.Packed.{unpacked}
use Rattle.earliest_search.specs.Starting.{own_offers, Nominal, First, Startable, Started, Readable, Begun}

offers-at : (n : ℕ) (f : ℕ → Configuration) (j : ℕ) → j < n → T (offers (tabulate n f) (f j))
offers-at zero f j h = absurd (not-suc-le-zero h)
offers-at (suc n) f zero h = or_left (same (f 0) (f 0)) (offers (tabulate n (λ i. f (suc i))) (f 0)) (same_refl (f 0))
offers-at (suc n) f (suc j) h = or_right (same (f (suc j)) (f 0)) (offers (tabulate n (λ i. f (suc i))) (f (suc j))) (offers-at n (λ i. f (suc i)) j (le_of_suc-le-suc h))

-- THE NOMINAL IS THERE: so there is a soonest offer
module _ (configurations : List ℕ) (l : Leg) (k : Nominal l) (x : Configuration) (ex : x ≡ offer_at configurations l l.nominal)
    (r : Option ℕ) (s : Sought configurations l x.travel 0 r) where
  abbrev list : List Configuration
  list = part_of (configuration_at configurations) l

  nominal_offered : T (offers (timed_of x.travel list) x)
  nominal_offered =
      (timed_in_lem x.travel x list).1
      (subst (λ (y : Configuration). T (offers list y)) (sym ex) (offers-at l.count (offer_at configurations l) l.nominal k.listed), refl)

  pub first_there : is_some r ≡ true
  first_there = go r refl
    where
      go : (o : Option ℕ) → r ≡ o → is_some o ≡ true
      go None e = absurd (subst (Picked 0 (timed_of x.travel list)) (s.missing e) (picked 0 (timed_of x.travel list)) x nominal_offered (omega arith))
      go (Some place) e = refl

  pub first_is : (place : ℕ) → r ≡ Some place → First configurations l place
  first_is place e =
      record {
        within = (s.found place e).0;
        soonest_is = ap (λ (y : Configuration). soonest 0 (timed_of y.travel list)) (sym ex) ∙ (s.found place e).1;
      }

-- ---- one row

module _ (legs configurations : List ℕ) (row : ℕ) (k : Startable legs row) (leg : Leg) (el : leg ≡ leg_at legs row) where
  pub start_nominal : Nominal leg
  start_nominal = rw el k.nominal

  module _ (place : ℕ) (f : First configurations leg place) where
    pub start_product : most_listed * place < 2 ^ 32
    start_product = let c : leg.count ≤ most_listed = start_nominal.few in omega (arith, f.within)

    pub start-sum : leg.nominal + most_listed * place < 2 ^ 32
    start-sum = let c : leg.count ≤ most_listed = start_nominal.few in omega (arith, f.within, start_nominal.listed)

    pub started : (legs' : List ℕ) → legs' ≡ set legs (last_at row) (packed leg.nominal place) → Started legs configurations row legs'
    started legs' e =
        record {
          place = place;
          first = subst (λ (l : Leg). First configurations l place) el f;
          stores = e ∙ ap (λ (l : Leg). set legs (last_at row) (packed l.nominal place)) el;
        }

-- ---- all rows

pub leg-same : (f g : ℕ → ℕ) → ((k : ℕ) → k < 8 → f k ≡ g k) → as_leg f ≡ as_leg g
leg-same f g e =
    λ j.
    record {
      id = e 0 (omega arith) j;
      train = e 1 (omega arith) j;
      track = e 2 (omega arith) j;
      start = e 3 (omega arith) j;
      end = e 4 (omega arith) j;
      first = e 5 (omega arith) j;
      count = e 6 (omega arith) j;
      nominal = e 7 (omega arith) j;
    }

module _ (n : ℕ) (legs₀ configurations : List ℕ) where
  -- the first i rows have their choices
  pub record Beginning (i : ℕ) (legs : List ℕ) : Type 0 where
    pub within : i ≤ n
    pub long : length legs ≡ length legs₀
    pub same : (p : ℕ) → ((j : ℕ) → j < i → p ≢ last_at j) → get_or legs p 0 ≡ get_or legs₀ p 0
    pub places : (j : ℕ) → j < i → get_or legs (last_at j) 0 % most_listed ≡ get_or legs₀ (last_at j) 0
    pub soonests : (j : ℕ) → j < i → soonest 0 (own_offers configurations (leg_at legs₀ j)) ≡ Some (chosen_at legs configurations j)

  module _ (k : Readable n legs₀) (i : ℕ) (legs : List ℕ) (b : Beginning i legs) where
    pub begin_ends : n ≤ i → Begun n legs₀ configurations legs
    begin_ends h =
        record {
          long = b.long;
          same = λ p d. b.same p (λ j l. d j (omega (arith, b.within)));
          places = λ j l. b.places j (omega arith);
          soonests = λ j l. b.soonests j (omega arith);
        }

    module _ (h : i < n) where
      leg_here : leg_at legs i ≡ leg_at legs₀ i
      leg_here = leg-same (entry_at leg_width legs i) (entry_at leg_width legs₀ i) (λ q l. b.same (leg_width * i + q) (λ j m e. omega arith))

      pub begin_row : Startable legs i
      begin_row = record { there = omega (arith, k.wide, b.long); nominal = rw leg_here (k.nominals i h) }

      module _ (legs' : List ℕ) (s : Started legs configurations i legs') where
        abbrev full : ℕ
        full = packed (leg_at legs i).nominal s.place

        small : (leg_at legs i).nominal < most_listed
        small = let c : (leg_at legs i).count ≤ most_listed = begin_row.nominal.few in omega (arith, begin_row.nominal.listed)

        u : (packed (leg_at legs i).nominal s.place / most_listed ≡ s.place) × (packed (leg_at legs i).nominal s.place % most_listed ≡ (leg_at legs i).nominal)
        u = unpacked (leg_at legs i).nominal s.place small

        stored : get_or legs' (last_at i) 0 ≡ full
        stored = rw s.stores (get_or-set_same legs (last_at i) full 0 begin_row.there)

        other : (p : ℕ) → p ≢ last_at i → get_or legs' p 0 ≡ get_or legs p 0
        other p d = rw s.stores (get_or-set_other legs (last_at i) p full 0 d)

        place_at : (j : ℕ) → j < i + 1 → (t : Bool) → eqb j i ≡ t → get_or legs' (last_at j) 0 % most_listed ≡ get_or legs₀ (last_at j) 0
        place_at j l true e =
            rw (eqb-true j i e) (ap (λ (v : ℕ). v % most_listed) stored ∙ u.1 ∙ ap (λ (g : Leg). g.nominal) leg_here)
        place_at j l false e =
            let d : j ≢ i = eqb-false j i e in
            ap (λ (v : ℕ). v % most_listed) (other (last_at j) (λ q. d (omega arith))) ∙ b.places j (omega arith)

        soonest-at : (j : ℕ) → j < i + 1 → (t : Bool) → eqb j i ≡ t → soonest 0 (own_offers configurations (leg_at legs₀ j)) ≡ Some (chosen_at legs' configurations j)
        soonest-at j l true e =
            rw (eqb-true j i e)
            (ap (λ (g : Leg). soonest 0 (own_offers configurations g)) (sym leg_here)
            ∙ s.first.soonest_is
            ∙ sym (ap₂ (λ (f : ℕ) (p : ℕ). Some (configuration_at configurations (f + p))) (other (leg_width * i + 5) (λ q. omega arith))
            (ap (λ (v : ℕ). v / most_listed) stored ∙ u.0)))
        soonest-at j l false e =
            let d : j ≢ i = eqb-false j i e in
            b.soonests j (omega arith)
            ∙ sym (ap₂ (λ (f : ℕ) (v : ℕ). Some (configuration_at configurations (f + v / most_listed))) (other (leg_width * j + 5) (λ q. omega arith))
            (other (last_at j) (λ q. d (omega arith))))

        pub begin_on : Beginning (i + 1) legs'
        begin_on =
            record {
              within = omega arith;
              long = ap length s.stores ∙ length-set legs (last_at i) full ∙ b.long;
              same = λ p d. other p (d i (omega arith)) ∙ b.same p (λ j l. d j (omega arith));
              places = λ j l. place_at j l (eqb j i) refl;
              soonests = λ j l. soonest-at j l (eqb j i) refl;
            }
