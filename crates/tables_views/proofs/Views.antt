-- A table that holds records, one after the other, is seen as those records: one law over the width, and each table by it. Assumes nothing.
use Prim.Native.Nat.{ℕ, zero, suc, ◌+◌, ◌*◌, ◌<◌}
use native.Mathlib.Omega.{arith}
use native.Mathlib.Nat.{le_of_suc-le-suc, not-suc-le-zero}
use mathlib.Core.Path.{◌≡◌, refl}
use mathlib.Core.List.{List, [], ◌∷◌, ◌++◌, append_assoc}
use lib.ListN.{length, get_or, drop, get_or-append}
use lib.Seq.{get_or-append-add}
use Rattle.rules.specs.Limits.{leg_width, configuration_width, profile_width, constraint_width, track_width}
use Rattle.rules.specs.Lists.{flat, over}
use Rattle.rules.specs.Energy.{tabulate}
use Rattle.rules.specs.Timetable.{leg_numbers, configuration_numbers}
use Rattle.rules.specs.Profiles.{profile_numbers}
use Rattle.rules.specs.Constraints.{constraint_numbers, track_numbers}
use Rattle.rules.specs.declared.sizes.Leg.{Leg}
use Rattle.rules.specs.declared.sizes.Configuration.{Configuration}
use Rattle.rules.specs.declared.sizes.Profile.{Profile}
use Rattle.rules.specs.declared.sizes.Constraint.{Constraint}
use Rattle.rules.specs.declared.sizes.Track.{Track}
use Rattle.tables_views.specs.View.{entry_at, as_leg, as_configuration, as_profile, as_constraint, as_track, legs_in, configurations_in, profiles_in, constraints_in, tracks_in}
use Rattle.tables_views.proofs.Tabulated.{tabulate_is}

-- ---- the law over the width

-- the numbers of a record, as many as the width says, are what it is made of
pub record Layout {A : Type 0} (width : ℕ) (numbers : A → List ℕ) (made : (ℕ → ℕ) → A) : Type 0 where
  pub wide : (x : A) → length (numbers x) ≡ width
  pub back : (x : A) (f : ℕ → ℕ) → ((k : ℕ) → k < width → f k ≡ get_or (numbers x) k 0) → made f ≡ x

module _ {A : Type 0} (width : ℕ) (numbers : A → List ℕ) (made : (ℕ → ℕ) → A) (layout : Layout width numbers made) where
  -- number k of record i stands at width * i + k
  entry_is : (d : A) (xs : List A) (rest : List ℕ) (i k : ℕ) → i < length xs → k < width
      → entry_at width (flat numbers xs ++ rest) i k ≡ get_or (numbers (get_or xs i d)) k 0
  entry_is d [] rest i k h l = absurd (not-suc-le-zero h)
  entry_is d (x ∷ xs) rest zero k h l =
      let q : width * 0 + k ≡ k = omega arith in
      rw (append_assoc (numbers x) (flat numbers xs) rest, q)
      (get_or-append (numbers x) (flat numbers xs ++ rest) 0 k (omega (arith, layout.wide x)))
  entry_is d (x ∷ xs) rest (suc i) k h l =
      let q : width * suc i + k ≡ length (numbers x) + (width * i + k) = omega (arith, layout.wide x) in
      rw (append_assoc (numbers x) (flat numbers xs) rest, q, get_or-append-add (numbers x) (flat numbers xs ++ rest) (width * i + k) 0)
      (entry_is d xs rest i k (le_of_suc-le-suc h) l)

  pub record_is : (d : A) (xs : List A) (rest : List ℕ) (i : ℕ) → i < length xs
      → made (entry_at width (flat numbers xs ++ rest) i) ≡ get_or xs i d
  record_is d xs rest i h = layout.back (get_or xs i d) (entry_at width (flat numbers xs ++ rest) i) (λ k l. entry_is d xs rest i k h l)

  -- THE LAW: as many entries as there are records are those records, whatever stands behind them
  pub view_is : (xs : List A) (rest : List ℕ) → tabulate (length xs) (λ i. made (entry_at width (flat numbers xs ++ rest) i)) ≡ xs
  view_is [] rest = refl
  view_is (x ∷ xs) rest =
      tabulate_is x (x ∷ xs) (λ i. made (entry_at width (flat numbers (x ∷ xs) ++ rest) i)) (record_is x (x ∷ xs) rest)

  -- a lent table with the records at its front
  pub view-over : (xs : List A) (t : List ℕ) → tabulate (length xs) (λ i. made (entry_at width (over (flat numbers xs) t) i)) ≡ xs
  unfolding over
  view-over xs t = view_is xs (drop (length (flat numbers xs)) t)

-- ---- the tables

pub leg_layout : Layout leg_width leg_numbers as_leg
leg_layout =
    record {
      wide = λ x. refl;
      back =
          λ x f e j.
          record {
            id = e 0 (omega arith) j;
            train = e 1 (omega arith) j;
            track = e 2 (omega arith) j;
            start = e 3 (omega arith) j;
            end = e 4 (omega arith) j;
            first = e 5 (omega arith) j;
            count = e 6 (omega arith) j;
            nominal = e 7 (omega arith) j;
          };
    }

pub configuration_layout : Layout configuration_width configuration_numbers as_configuration
configuration_layout =
    record {
      wide = λ x. refl;
      back =
          λ x f e j. record { departure = e 0 (omega arith) j; travel = e 1 (omega arith) j; profile = e 2 (omega arith) j };
    }

pub profile_layout : Layout profile_width profile_numbers as_profile
profile_layout =
    record {
      wide = λ x. refl;
      back = λ x f e j. record { id = e 0 (omega arith) j; first = e 1 (omega arith) j; count = e 2 (omega arith) j };
    }

pub constraint_layout : Layout constraint_width constraint_numbers as_constraint
constraint_layout =
    record {
      wide = λ x. refl;
      back =
          λ x f e j.
          record {
            kind = e 0 (omega arith) j;
            first = e 1 (omega arith) j;
            second = e 2 (omega arith) j;
            low = e 3 (omega arith) j;
            high = e 4 (omega arith) j;
            connection = e 5 (omega arith) j;
          };
    }

pub track_layout : Layout track_width track_numbers as_track
track_layout =
    record { wide = λ x. refl; back = λ x f e j. record { id = e 0 (omega arith) j; subnet = e 1 (omega arith) j } }

-- each table's view is what was written at its front
pub legs-written : (xs : List Leg) (t : List ℕ) → legs_in (length xs) (over (flat leg_numbers xs) t) ≡ xs
legs-written = view-over leg_width leg_numbers as_leg leg_layout

pub configurations_written : (xs : List Configuration) (t : List ℕ) → configurations_in (length xs) (over (flat configuration_numbers xs) t) ≡ xs
configurations_written = view-over configuration_width configuration_numbers as_configuration configuration_layout

pub profiles-written : (xs : List Profile) (t : List ℕ) → profiles_in (length xs) (over (flat profile_numbers xs) t) ≡ xs
profiles-written = view-over profile_width profile_numbers as_profile profile_layout

pub constraints-written : (xs : List Constraint) (t : List ℕ) → constraints_in (length xs) (over (flat constraint_numbers xs) t) ≡ xs
constraints-written = view-over constraint_width constraint_numbers as_constraint constraint_layout

pub tracks-written : (xs : List Track) (t : List ℕ) → tracks_in (length xs) (over (flat track_numbers xs) t) ≡ xs
tracks-written = view-over track_width track_numbers as_track track_layout
