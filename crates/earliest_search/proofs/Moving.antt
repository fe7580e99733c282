-- Tables that differ in the choices alone have the same rows and offers. Assumes nothing.
use Prim.Native.Nat.{ℕ, zero, suc, ◌+◌, ◌*◌, ◌%◌, ◌≤◌, ◌<◌}
use native.Mathlib.Omega.{arith}
use native.Mathlib.Nat.{le_of_suc-le-suc, not-suc-le-zero}
use mathlib.Core.Path.{◌≡◌, refl, sym, ap, ap₂, ◌∙◌, subst}
use mathlib.Core.Logic.{◌≢◌}
use mathlib.Core.Bool.{Bool, true, false}
use mathlib.Core.List.{List, ◌∷◌}
use lib.Dec.{eqb}
use lib.ListN.{length, get_or, set, length-set}
use lib.Seq.{get_or-set_same, get_or-set_other}
use borrow.Author.Tests.{eqb-true, eqb-false}
use Rattle.rules.specs.Limits.{leg_width, most_listed}
use Rattle.rules.specs.Energy.{tabulate}
use Rattle.rules.specs.Verdict.{All}
use Rattle.rules.specs.Earliest.{timed_of}
use Rattle.rules.specs.declared.sizes.Configuration.{Configuration}
use Rattle.tables_views.specs.View.{entry_at, configuration_at, list_in}
use Rattle.earliest_offer.specs.Offer.{last_at}
use Rattle.verdict.specs.Within.{Timely}
use Rattle.earliest_search.specs.Searching.{timed_at, timed_in, Moved, Based}

-- equal values within n give equal lists
pub tabulate_within : {A : Type 0} (n : ℕ) (f g : ℕ → A) → ((i : ℕ) → i < n → f i ≡ g i) → tabulate n f ≡ tabulate n g
tabulate_within zero f g h = refl
tabulate_within (suc n) f g h = ap₂ ◌∷◌ (h 0 (omega arith)) (tabulate_within n (λ i. f (suc i)) (λ i. g (suc i)) (λ i l. h (suc i) (omega arith)))

pub tabulate-every : {A : Type 0} (P : A → Type 0) (n : ℕ) (f : ℕ → A) → ((i : ℕ) → i < n → P (f i)) → All P (tabulate n f)
tabulate-every P zero f h = tt
tabulate-every P (suc n) f h = (h 0 (omega arith), tabulate-every P n (λ i. f (suc i)) (λ i l. h (suc i) (omega arith)))

pub every_tabulated : {A : Type 0} (P : A → Type 0) (n : ℕ) (f : ℕ → A) → All P (tabulate n f) → (i : ℕ) → i < n → P (f i)
every_tabulated P zero f h i l = absurd (not-suc-le-zero l)
every_tabulated P (suc n) f h zero l = h.0
every_tabulated P (suc n) f h (suc i) l = every_tabulated P n (λ j. f (suc j)) h.1 i (le_of_suc-le-suc l)

pub moved_refl : (n : ℕ) (legs : List ℕ) → Moved n legs legs
moved_refl n legs = record { long = refl; same = λ p d. refl; places = λ i l. refl }

pub moved_then : (n : ℕ) (a b c : List ℕ) → Moved n a b → Moved n b c → Moved n a c
moved_then n a b c h k =
    record {
      long = k.long ∙ h.long;
      same = λ p d. k.same p d ∙ h.same p d;
      places = λ i l. k.places i l ∙ h.places i l;
    }

-- one choice stored
pub moved_set : (n : ℕ) (legs : List ℕ) (r v : ℕ) → leg_width * n ≤ length legs → r < n → v % most_listed ≡ get_or legs (last_at r) 0 % most_listed
    → Moved n legs (set legs (last_at r) v)
moved_set n legs r v room h e =
    record {
      long = length-set legs (last_at r) v;
      same = λ p d. get_or-set_other legs (last_at r) p v 0 (d r h);
      places = λ i l. at i (eqb i r) refl;
    }
  where
    at : (i : ℕ) (b : Bool) → eqb i r ≡ b → get_or (set legs (last_at r) v) (last_at i) 0 % most_listed ≡ get_or legs (last_at i) 0 % most_listed
    at i true q = rw (eqb-true i r q) (ap (λ (k : ℕ). k % most_listed) (get_or-set_same legs (last_at r) v 0 (omega arith)) ∙ e)
    at i false q =
        let d : i ≢ r = eqb-false i r q in
        ap (λ (k : ℕ). k % most_listed) (get_or-set_other legs (last_at r) (last_at i) v 0 (λ w. d (omega arith)))

module _ (n : ℕ) (a b : List ℕ) (h : Moved n a b) where
  -- all numbers of an entry but the last
  pub numbers_stay : (i k : ℕ) → k < 7 → entry_at leg_width b i k ≡ entry_at leg_width a i k
  numbers_stay i k l = h.same (leg_width * i + k) (λ j m e. omega arith)

  pub list_stays : (configurations : List ℕ) (i : ℕ) → list_in b configurations i ≡ list_in a configurations i
  list_stays configurations i =
      ap₂ (λ (f : ℕ) (k : ℕ). tabulate k (λ j. configuration_at configurations (f + j))) (numbers_stay i 5 (omega arith)) (numbers_stay i 6 (omega arith))

  pub timed_stays : (configurations : List ℕ) (i : ℕ) → i < n → timed_at b configurations i ≡ timed_at a configurations i
  timed_stays configurations i l =
      ap₂ (λ (t : ℕ) (o : List Configuration). timed_of t o)
      (ap₂ (λ (f : ℕ) (p : ℕ). (configuration_at configurations (f + p)).travel) (numbers_stay i 5 (omega arith)) (h.places i l))
      (list_stays configurations i)

  pub timed_in_stays : (configurations : List ℕ) → timed_in n b configurations ≡ timed_in n a configurations
  timed_in_stays configurations = tabulate_within n (timed_at b configurations) (timed_at a configurations) (timed_stays configurations)

  pub based_stays : (m : ℕ) (configurations constraints : List ℕ) → Based n m a configurations constraints → Based n m b configurations constraints
  based_stays m configurations constraints g =
      record {
        rows = g.rows;
        records = g.records;
        wide = omega (arith, h.long, g.wide);
        few = λ i l. rw (numbers_stay i 6 (omega arith)) (g.few i l);
        timely = λ i l. subst (All Timely) (sym (list_stays configurations i)) (g.timely i l);
        brief = g.brief;
        named = g.named;
      }
