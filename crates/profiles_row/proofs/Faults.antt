-- A row that ends: its ids in the table, and the number of its first fault. Assumes nothing.
use Prim.Native.Nat.{ℕ, ◌+◌, ◌*◌, ◌/◌, ◌≤◌}
use mathlib.Core.Path.{◌≡◌, refl, ap, sym, ◌∙◌}
use mathlib.Core.Bool.{Bool, true, false, not, cond, ◌&&◌}
use mathlib.Core.List.{List}
use native.Mathlib.Omega.{arith}
use native.Mathlib.Nat.{div-mul-le_self}
use lib.Dec.{leb, ltb, eqb}
use lib.ListN.{length, take, drop, length-map}
use lib.IntN.{ℤ, nat_abs}
use borrow.Author.Tests.{leb-true, not-true, not-false}
use Rattle.rules.specs.Limits.{most_kw, most_id, most_profiles, most_sampled, most_samples, profile_width}
use Rattle.rules.specs.Lists.{any, every, over}
use Rattle.rules.specs.Answers.{Judged, wrong, right, out_of_range, too_many, already_seen, no_room}
use Rattle.rules.specs.Profiles.{Curve, sampled}
use Rattle.tables_ids.specs.Column.{column, curve_ids_of, is_new, Last, Rising}
use Rattle.tables_ids.proofs.Written.{new_among}
use Rattle.tables_ids.proofs.Curves.{curves-column}
use Rattle.profiles_row.specs.declared.row.Past.{Past}
use Rattle.profiles_row.specs.declared.row.Listed.{Listed}
use Rattle.profiles_row.specs.Row.{curve, profile_table, in_range, Closed, Going, Ending, fault_or, Faults}
use Rattle.rules.proofs.Lists.{over-length}
use Rattle.profiles_row.proofs.Tables.{table-length}

-- ---- the ids in the table

module _ {profiles₀ profiles : List ℕ} {samples₀ : List ℤ} {past : Past} {before : List Curve} (c : Closed profiles₀ samples₀ past profiles before) where
  pub room_times : length before * profile_width ≤ length profiles₀
  room_times = omega (arith, c.room, div-mul-le_self (length profiles₀) profile_width)

  pub same_length : length profiles ≡ length profiles₀
  same_length = ap length c.entered ∙ over-length (profile_table before) profiles₀ (rw (table-length before) room_times)

  pub ids-column : column profile_width past.profiles profiles ≡ curve_ids_of before
  unfolding over
  ids-column =
      rw (c.counted, c.entered) (curves-column before (drop (length (profile_table before)) profiles₀))

  pub rising : Rising profile_width past.profiles past.rising profiles
  rising =
      record {
        records = record { one = omega arith; whole = omega (arith, room_times, same_length, c.counted) };
        within = omega (arith, c.climb.within, c.counted, length-map before (λ (b : Curve). b.id));
        ascending = rw ids-column c.climb.ascending;
      }

  pub top : Last (take past.rising (column profile_width past.profiles profiles)) past.last
  top = rw ids-column c.climb.top

-- what stands behind a row tells where its id may be looked for
pub ending_rising : {past : Past} {l : Listed} {profiles : List ℕ} {room : ℕ} → Ending past l profiles room → Rising profile_width past.profiles past.rising profiles
ending_rising e = rising e.closed

pub ending_top : {past : Past} {l : Listed} {profiles : List ℕ} {room : ℕ} → Ending past l profiles room
    → Last (take past.rising (column profile_width past.profiles profiles)) past.last
ending_top e = top e.closed

-- ---- the first fault

abbrev counts_fit : Past → Listed → Bool
counts_fit past l = ltb past.profiles most_profiles && (leb l.count most_sampled && leb (past.samples + l.count) most_samples)

abbrev takes_row : Past → Listed → (profiles samples : ℕ) → Bool
takes_row past l profiles samples = ltb past.profiles (profiles / profile_width) && leb (past.samples + l.count) samples

module _ (past : Past) (l : Listed) (profiles : List ℕ) (room : ℕ) where
  pub fault_wide : l.wide ≡ true → Faults past l profiles room out_of_range
  fault_wide w profiles₀ samples₀ next samples before id done lent c g =
      let r : in_range id done ≡ false = not-true (in_range id done) (sym g.wide ∙ w) in
      rw r

  module _ (w : l.wide ≡ false) where
    pub in_range_lem : {profiles₀ : List ℕ} {samples₀ samples : List ℤ} {next : ℕ} {before : List Curve} {id : ℕ} {done : List ℤ}
        → Going profiles₀ samples₀ past l next samples before id done → in_range id done ≡ true
    in_range_lem {id = id} {done = done} g = not-false (in_range id done) (sym g.wide ∙ w)

    -- the id is told apart, being in range
    pub told : {profiles₀ : List ℕ} {samples₀ samples : List ℤ} {next : ℕ} {before : List Curve} {id : ℕ} {done : List ℤ}
        → Going profiles₀ samples₀ past l next samples before id done → l.id ≡ id
    told {id = id} {done = done} g = go (leb id most_id) refl (in_range_lem g)
      where
        go : (t : Bool) → leb id most_id ≡ t → t && every (λ x. leb (nat_abs x) most_kw) done ≡ true → l.id ≡ id
        go true e q = omega (arith, leb-true id most_id e, g.same_id)
        go false e q = let z : ◌≡◌ {A = ℕ} 0 1 = cc in absurd (omega arith)

    pub fault_count : (fits : Bool) → fits ≡ counts_fit past l → fits ≡ false → Faults past l profiles room too_many
    fault_count fits e f profiles₀ samples₀ next samples before id done lent c g =
        let t : (ltb (length before) most_profiles && (leb (length done) most_sampled && leb (sampled before + length done) most_samples)) ≡ false =
        cc (c.counted, c.summed, g.counted) in
        rw (in_range_lem g, t)

    module _ (fits : Bool) (fit : fits ≡ counts_fit past l) (yes : fits ≡ true) where
      counted : {profiles₀ : List ℕ} {samples₀ samples : List ℤ} {next : ℕ} {before : List Curve} {id : ℕ} {done : List ℤ}
          → Closed profiles₀ samples₀ past profiles before → Going profiles₀ samples₀ past l next samples before id done
          → (ltb (length before) most_profiles && (leb (length done) most_sampled && leb (sampled before + length done) most_samples)) ≡ true
      counted c g = cc (c.counted, c.summed, g.counted)

      seen : {profiles₀ : List ℕ} {samples₀ samples : List ℤ} {next : ℕ} {before : List Curve} {id : ℕ} {done : List ℤ}
          → Closed profiles₀ samples₀ past profiles before → Going profiles₀ samples₀ past l next samples before id done
          → is_new l.id (column profile_width past.profiles profiles) ≡ not (any (λ b. eqb b.id id) before)
      seen {before = before} {id = id} c g = rw (ids-column c, told g) (new_among (λ (b : Curve). b.id) id before)

      module _ (new : Bool) (is : new ≡ is_new l.id (column profile_width past.profiles profiles)) where
        pub fault_seen : new ≡ false → Faults past l profiles room already_seen
        fault_seen n profiles₀ samples₀ next samples before id done lent c g =
            let t : not (any (λ b. eqb b.id id) before) ≡ false = sym (seen c g) ∙ sym is ∙ n in
            rw (in_range_lem g, counted c g, t)

        pub fault_room : new ≡ true → (r long : ℕ) → long ≡ length profiles → r ≡ cond (takes_row past l long room) 0 no_room → Faults past l profiles room r
        fault_room n r long q e profiles₀ samples₀ next samples before id done lent c g =
            let t : not (any (λ b. eqb b.id id) before) ≡ true = sym (seen c g) ∙ sym is ∙ n in
            let u : takes_row past l long room ≡ (ltb (length before) (length profiles₀ / profile_width) && leb (sampled before + length done) (length samples₀)) =
            cc (c.counted, c.summed, g.counted, same_length c) in
            rw (in_range_lem g, counted c g, t, e, u) (go (ltb (length before) (length profiles₀ / profile_width) && leb (sampled before + length done) (length samples₀)))
          where
            go : (t : Bool) → ◌≡◌ {A = Judged Curve} (cond t (right (curve id done)) (wrong no_room)) (fault_or (cond t 0 no_room) (curve id done))
            go true = refl
            go false = refl

pub ruleset faults = (fault_wide, fault_count, fault_seen, fault_room, ending_rising, ending_top)
