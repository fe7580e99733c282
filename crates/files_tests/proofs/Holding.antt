-- Tables that hold rows and profiles: where a row's list ends, a profile's samples, and the first row at fault. Assumes nothing.
use Prim.Native.Nat.{ℕ, zero, suc, ◌+◌, ◌*◌, ◌≤◌, ◌<◌}
use mathlib.Core.Path.{◌≡◌, refl, ap, ap₂, sym, subst, ◌∙◌}
use mathlib.Core.Bool.{Bool, true, false, cond}
use mathlib.Core.List.{List, [], ◌∷◌, map}
use native.Mathlib.Omega.{arith}
use native.Mathlib.Nat.{add-zero, not-suc-le-zero, zero-add}
use borrow.Author.Count.{below_more}
use lib.Dec.{eqb}
use lib.ListN.{length, get_or, drop, length-append}
use Rattle.std.specs.Prelude.{Option, Some, None, is_some}
use Rattle.rules.specs.Limits.{leg_width, configuration_width, profile_width}
use Rattle.rules.specs.Lists.{every, flat, over, place_from}
use Rattle.rules.specs.Rows.{first_fault}
use Rattle.rules.specs.Energy.{tabulate}
use Rattle.rules.specs.Timetable.{Row, legs_from, legs_of, leg_numbers, configurations_of, configuration_numbers}
use Rattle.rules.specs.Profiles.{Curve, curve_of, lasts, profile_fault, profiles_from, profile_numbers}
use Rattle.rules.specs.Verdict.{All, offered}
use Rattle.rules.specs.declared.sizes.Leg.{Leg}
use Rattle.rules.specs.declared.sizes.Profile.{Profile}
use Rattle.rules.proofs.Truth.{all_map}
use Rattle.rules.proofs.Lists.{tabulate-at, flat-length}
use Rattle.rules_theorems.proofs.All.{all_at}
use Rattle.tables_ids.specs.Column.{Records, column, curve_ids_of}
use Rattle.tables_ids.proofs.Curves.{curves-column}
use Rattle.tables_views.specs.View.{as_profile, leg_at, profile_at, legs_in, list_in, offers_in}
use Rattle.tables_views.proofs.Views.{profile_layout, record_is}
use Rattle.tables_views.proofs.Offers.{legs-length, legs_seen, offers-written}
use Rattle.files_tests.specs.Counts.{count_found, count_at, lasts_for, list_fault, InTables, Tables, Tabled, FirstFault}

-- records at the front are within the table
pub front_records : {A : Type 0} (f : A → List ℕ) (width : ℕ) → 1 ≤ width → ((x : A) → length (f x) ≡ width) → (xs : List A) (t : List ℕ)
    → {n : ℕ} {table : List ℕ} → n ≡ length xs → table ≡ over (flat f xs) t → Records width n table
unfolding over
front_records f width one each xs t n e =
    rw (n, e) (record { one = one; whole = omega (arith, length-append (flat f xs) (drop (length (flat f xs)) t), flat-length f width each xs) })

-- ---- a profile's samples

abbrev no_profile : Profile
no_profile = record { id = 0; first = 0; count = 0 }

abbrev count_of : Option Curve → Option ℕ
count_of None = None
count_of (Some c) = Some (length c.samples)

-- a table that gives the entries of curves from a place on
module _ (profiles : List ℕ) (id : ℕ) where
  curve-found : (curves : List Curve) (place start : ℕ)
      → ((i : ℕ) → i < length (profiles_from start curves) → profile_at profiles (place + i) ≡ get_or (profiles_from start curves) i no_profile)
      → count_found profiles ((place_from place (λ x. eqb x id) (curve_ids_of curves))) ≡ count_of (curve_of curves id)
  curve-found [] place start h = refl
  curve-found (c ∷ curves) place start h = go (eqb c.id id) (curve-found curves (suc place) (start + length c.samples) later)
    where
      here : (profile_at profiles place).count ≡ length c.samples
      here = ap (λ (p : Profile). p.count) (rw (add-zero place) at (h 0 (omega arith)))

      later : (i : ℕ) → i < length (profiles_from (start + length c.samples) curves)
          → profile_at profiles (suc place + i) ≡ get_or (profiles_from (start + length c.samples) curves) i no_profile
      later i l = let q : place + suc i ≡ suc place + i = omega arith in rw q at (h (suc i) (omega arith))

      go : (t : Bool) → count_found profiles ((place_from (suc place) (λ x. eqb x id) (curve_ids_of curves))) ≡ count_of (curve_of curves id)
          → count_found profiles ((cond t (Some place) (place_from (suc place) (λ x. eqb x id) (curve_ids_of curves)))) ≡ count_of (cond t (Some c) (curve_of curves id))
      go true rest = ap Some here
      go false rest = rest

-- ---- rows, and their lists

every-same : {A : Type 0} (p q : A → Bool) → ((x : A) → p x ≡ q x) → (xs : List A) → every p xs ≡ every q xs
every-same p q e [] = refl
every-same p q e (x ∷ xs) = rw (e x, every-same p q e xs)

known_same : (o : Option Curve) → is_some (count_of o) ≡ is_some o
known_same None = refl
known_same (Some c) = refl

lasts-same : (t : ℕ) (o : Option Curve) → lasts_for t (count_of o) ≡ lasts t o
lasts-same t None = refl
lasts-same t (Some c) = refl

list_fault_lem : (count : ℕ → Option ℕ) (curves : List Curve) → ((id : ℕ) → count id ≡ count_of (curve_of curves id)) → (r : Row) → list_fault count r.list ≡ profile_fault curves r
list_fault_lem count curves e r =
    rw (
      every-same (λ c. is_some (count c.profile)) (λ c. is_some (curve_of curves c.profile)) (λ c. ap is_some (e c.profile) ∙ known_same (curve_of curves c.profile)) r.list,
      every-same (λ c. lasts_for c.travel (count c.profile)) (λ c. lasts c.travel (curve_of curves c.profile))
          (λ c. ap (lasts_for c.travel) (e c.profile) ∙ lasts-same c.travel (curve_of curves c.profile)) r.list,
    )

fault_map : {A B : Type 0} (f : B → Option ℕ) (g : A → B) (h : A → Option ℕ) → ((x : A) → f (g x) ≡ h x) → (xs : List A) (n : ℕ) → first_fault n f (map g xs) ≡ first_fault n h xs
fault_map f g h e [] n = refl
fault_map f g h e (x ∷ xs) n = rw (e x, fault_map f g h e xs (suc n))

-- ---- the first fault of rows in a table

module _ {A : Type 0} (f : A → Option ℕ) where
  fault_none : (n : ℕ) (g : ℕ → A) (s : ℕ) → ((j : ℕ) → j < n → f (g j) ≡ None) → first_fault s f (tabulate n g) ≡ None
  fault_none zero g s h = refl
  fault_none (suc n) g s h = rw (h 0 (omega arith)) (fault_none n (λ i. g (suc i)) (suc s) (λ j k. h (suc j) (omega arith)))

  fault_at_lem : (n : ℕ) (g : ℕ → A) (s k x : ℕ) → k < n → ((j : ℕ) → j < k → f (g j) ≡ None) → f (g k) ≡ Some x → first_fault s f (tabulate n g) ≡ Some (record { row = s + k; number = x })
  fault_at_lem zero g s k x h before e = absurd (not-suc-le-zero h)
  fault_at_lem (suc n) g s zero x h before e = rw (e, add-zero s)
  fault_at_lem (suc n) g s (suc k) x h before e =
      let q : suc s + k ≡ s + suc k = omega arith in
      rw (before 0 (omega arith)) (rw q at (fault_at_lem n (λ i. g (suc i)) (suc s) k x (omega arith) (λ j l. before (suc j) (omega arith)) e))

-- ---- a leg's part of the configurations ends where all of them end, or before

abbrev no_leg : Leg
no_leg = record { id = 0; train = 0; track = 0; start = 0; end = 0; first = 0; count = 0; nominal = 0 }

parts_within : (start : ℕ) (rows : List Row) → All (λ (l : Leg). l.first + l.count ≤ start + length (configurations_of rows)) (legs_from start rows)
parts_within start [] = tt
parts_within start (r ∷ rows) =
    let more : length (configurations_of (r ∷ rows)) ≡ length r.list + length (configurations_of rows) = length-append r.list (configurations_of rows) in (
      omega arith,
      all_map (λ (l : Leg). l.first + l.count ≤ start + length r.list + length (configurations_of rows))
          (λ (l : Leg). l.first + l.count ≤ start + length (configurations_of (r ∷ rows))) (λ l h. omega arith)
          (legs_from (start + length r.list) rows) (parts_within (start + length r.list) rows),
    )

-- ---- tables that hold rows and profiles

module _ {legs : List ℕ} {n : ℕ} {configurations profiles : List ℕ} {m : ℕ} {rows : List Row} {curves : List Curve} (t : Tabled legs n configurations profiles m rows curves) where
  -- every row and its list stand in the tables
  pub tabled_tables : Tables legs n configurations
  tabled_tables = record { each_row = λ i h. record { leg_in = leg_in i h; list_in_lem = list_in_lem i h } }
    where
      legs_in_lem : Records leg_width n legs
      legs_in_lem = front_records leg_numbers leg_width (omega arith) (λ l. refl) (legs_of rows) legs (t.rows_many ∙ sym (legs-length 0 rows)) t.legs_hold

      lists_in : Records configuration_width (length (configurations_of rows)) configurations
      lists_in = front_records configuration_numbers configuration_width (omega arith) (λ c. refl) (configurations_of rows) configurations refl t.configurations_hold

      legs_are_lem : legs_in (length rows) legs ≡ legs_of rows
      legs_are_lem = ap (legs_in (length rows)) t.legs_hold ∙ legs_seen rows legs []

      leg_in : (i : ℕ) → i < n → (i + 1) * leg_width ≤ length legs
      leg_in i h = omega (arith, legs_in_lem.whole)

      list_in_lem : (i : ℕ) → i < n → ((leg_at legs i).first + (leg_at legs i).count) * configuration_width ≤ length configurations
      list_in_lem i h =
          let here : leg_at legs i ≡ get_or (legs_of rows) i no_leg = sym (tabulate-at (length rows) (leg_at legs) no_leg i (omega (arith, t.rows_many))) ∙ ap (λ l. get_or l i no_leg) legs_are_lem in
          let Within : Leg → Type 0 = λ l. l.first + l.count ≤ 0 + length (configurations_of rows) in
          let within : Within (leg_at legs i) =
          subst Within (sym here) (all_at Within (legs_of rows) no_leg (parts_within 0 rows) (omega arith) i) in
          omega (arith, within, lists_in.whole)

  -- each row's list
  lists_held : offers_in n legs configurations ≡ offered rows
  lists_held =
      ap₂ (λ k held. offers_in k held configurations) t.rows_many t.legs_hold
      ∙ ap (offers_in (length rows) (over (flat leg_numbers (legs_of rows)) legs)) t.configurations_hold
      ∙ offers-written rows legs configurations

  -- each profile's entry
  profiles-held : (i : ℕ) → i < length (profiles_from 0 curves) → profile_at profiles (0 + i) ≡ get_or (profiles_from 0 curves) i no_profile
  unfolding over
  profiles-held i h =
      ap₂ profile_at t.profiles_hold (zero-add i)
      ∙ record_is profile_width profile_numbers as_profile profile_layout no_profile (profiles_from 0 curves)
      (drop (length (flat profile_numbers (profiles_from 0 curves))) profiles) i h

  lookups : (id : ℕ) → count_at profiles m id ≡ count_of (curve_of curves id)
  unfolding over
  lookups id = rw ids (curve-found profiles id curves 0 0 profiles-held)
    where
      ids : column profile_width m profiles ≡ curve_ids_of curves
      ids =
          ap₂ (λ k table. column profile_width k table) t.profiles_many t.profiles_hold
          ∙ curves-column curves (drop (length (flat profile_numbers (profiles_from 0 curves))) profiles)

  tabled_faults : first_fault 0 (list_fault (count_at profiles m)) (offers_in n legs configurations) ≡ first_fault 0 (profile_fault curves) rows
  tabled_faults =
      rw lists_held
      (fault_map (list_fault (count_at profiles m)) (λ (r : Row). r.list) (profile_fault curves) (list_fault_lem (count_at profiles m) curves lookups) rows 0)

-- ---- the loop

pub row_in : {legs : List ℕ} {n : ℕ} {configurations : List ℕ} {i : ℕ} → Tables legs n configurations → i < n → InTables legs configurations i
row_in {i = i} t h = t.each_row i h

-- no row before i is at fault
pub record Passing (legs configurations profiles : List ℕ) (m i : ℕ) : Type 0 where
  pub clear : (j : ℕ) → j < i → list_fault (count_at profiles m) (list_in legs configurations j) ≡ None

module _ {legs configurations profiles : List ℕ} {m : ℕ} where
  pub passing_none : Passing legs configurations profiles m 0
  passing_none = record { clear = λ j h. absurd (not-suc-le-zero h) }

  module _ {i : ℕ} (p : Passing legs configurations profiles m i) {r : Option ℕ} (e : r ≡ (list_fault (count_at profiles m) (list_in legs configurations i))) where
    pub passing_next : r ≡ None → Passing legs configurations profiles m (i + 1)
    passing_next q = record { clear = below_more _ _ p.clear (sym (sym q ∙ e)) }

    pub passing_fault : {n k : ℕ} → i < n → r ≡ Some k → FirstFault legs n configurations profiles m (Some (record { row = i; number = k }))
    passing_fault {n} {k} h q rows curves t =
        let found : (list_fault (count_at profiles m) (list_in legs configurations i)) ≡ Some k = sym (sym q ∙ e) in
        let first = fault_at_lem (list_fault (count_at profiles m)) n (list_in legs configurations) 0 i k h p.clear found in
        rw (← tabled_faults t, first, zero-add i)

  pub passing_end : {n i : ℕ} → Passing legs configurations profiles m i → n ≤ i → FirstFault legs n configurations profiles m None
  passing_end {n} p h rows curves t =
      rw (← tabled_faults t, fault_none (list_fault (count_at profiles m)) n (list_in legs configurations) 0 (λ j k. p.clear j (omega arith)))

pub ruleset holding = (row_in, passing_none, passing_next, passing_fault, passing_end)
