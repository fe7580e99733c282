-- A row that ends: it is refused by its number at its place, or its entry stands in the table and the next row opens. Assumes nothing.
use Prim.Native.Nat.{ℕ, suc, ◌+◌, ◌*◌, ◌/◌, ◌≤◌, ◌<◌}
use mathlib.Core.Path.{◌≡◌, refl, ap, sym, subst, ◌∙◌}
use mathlib.Core.Bool.{Bool, true, false, not, cond}
use mathlib.Core.List.{List, [], ◌∷◌, ◌++◌}
use native.Mathlib.Omega.{arith}
use native.Mathlib.Numerals.{add-one}
use native.Mathlib.Nat.{div-mul-le_self}
use lib.Dec.{leb, ltb, eqb}
use lib.ListN.{length, length-append, length-map}
use lib.Seq.{sets}
use lib.IntN.{ℤ}
use borrow.Author.Tests.{ne_eqb, ltb-true, leb-true, le-ltb}
use Rattle.rules.specs.Limits.{most_id, most_profiles, least_sampled, most_sampled, most_samples, profile_width}
use Rattle.rules.specs.Lists.{any, over}
use Rattle.rules.specs.Answers.{Judged, wrong, right, out_of_range, too_many, already_seen, no_room}
use Rattle.rules.specs.Profiles.{Curve, sampled, judge_form, sample_table, profile_numbers}
use Rattle.rules.specs.Made.{profile_made}
use Rattle.tables_ids.specs.Column.{curve_ids_of}
use Rattle.profiles_row.specs.declared.number.Number.TheVariants.{Empty}
use Rattle.profiles_row.specs.declared.row.Past.{Past}
use Rattle.profiles_row.specs.declared.row.Rise.{Rise}
use Rattle.profiles_row.specs.declared.row.Listed.{Listed}
use Rattle.profiles_state.specs.declared.state.State.TheVariants.{Id, Stopped}
use Rattle.profiles_row.specs.Near.{empty_near}
use Rattle.profiles_row.specs.Row.{curve, profile_table, in_range, Climbs, Closed, Going, Ending, entered_made, Faults}
use Rattle.profiles_state.specs.Open.{start, in_row}
use Rattle.profiles_state.specs.Holds.{Holds, in_id_lem, at_stop, Ends}
use Rattle.rules.proofs.Truth.{and_first, and_second}
use Rattle.rules.proofs.Lists.{over-more}
use Rattle.profiles_row.proofs.Tables.{sampled-more, samples_more, table_more, table-length, entry_of}
use Rattle.profiles_row.proofs.Faults.{same_length, told}
use Rattle.std.specs.Prelude.{Option, Some}
use Rattle.rules.specs.declared.sizes.Profile.{Profile}

-- ---- what a row without fault has kept

record Kept (before : List Curve) (id : ℕ) (done : List ℤ) (profiles samples : ℕ) : Type 0 where
  range : in_range id done ≡ true
  profiles_few : length before < most_profiles
  sampled_few : length done ≤ most_sampled
  samples_few : sampled before + length done ≤ most_samples
  profiles_room : length before < profiles
  samples_room : sampled before + length done ≤ samples

passed : (t : Bool) (more : Judged Curve) (number : ℕ) (c : Curve) → cond t more (wrong number) ≡ right c → (t ≡ true) × (more ≡ right c)
passed true more number c e = (refl, e)
passed false more number c e = ((cc), (cc))

module _ (before : List Curve) (id : ℕ) (done : List ℤ) (profiles samples : ℕ) where
  kept : judge_form profiles samples before (Some (curve id done)) ≡ right (curve id done) → Kept before id done profiles samples
  kept e =
      let five = passed (in_range id done) _ out_of_range (curve id done) e in
      let six = passed _ _ too_many (curve id done) five.1 in
      let seven = passed (not (any (λ b. eqb b.id id) before)) _ already_seen (curve id done) six.1 in
      let sixteen = passed _ (right (curve id done)) no_room (curve id done) seven.1 in
      let counts = and_second (ltb (length before) most_profiles) _ six.0 in
      record {
        range = five.0;
        profiles_few = ltb-true (length before) most_profiles (and_first (ltb (length before) most_profiles) _ six.0);
        sampled_few = leb-true (length done) most_sampled (and_first (leb (length done) most_sampled) _ counts);
        samples_few = leb-true (sampled before + length done) most_samples (and_second (leb (length done) most_sampled) _ counts);
        profiles_room = ltb-true (length before) profiles (and_first (ltb (length before) profiles) _ sixteen.0);
        samples_room = leb-true (sampled before + length done) samples (and_second (ltb (length before) profiles) _ sixteen.0);
      }

-- ---- the row ends

module _ {past : Past} {l : Listed} {profiles : List ℕ} {room fault : ℕ} (faults : Faults past l profiles room fault) (none-at-fault : fault ≡ 0) where
  good : {profiles₀ : List ℕ} {samples₀ samples : List ℤ} {next : ℕ} {before : List Curve} {id : ℕ} {done : List ℤ}
      → room ≡ length samples₀ → Closed profiles₀ samples₀ past profiles before → Going profiles₀ samples₀ past l next samples before id done
      → Kept before id done (length profiles₀ / profile_width) (length samples₀)
  good {profiles₀} {samples₀} {samples} {next} {before} {id} {done} lent c g =
      kept before id done (length profiles₀ / profile_width) (length samples₀)
      (rw none-at-fault at (faults profiles₀ samples₀ next samples before id done lent c g))

  behind : (e : Ending past l profiles room) → Kept e.before e.id e.done (length e.profiles₀ / profile_width) (length e.samples₀)
  behind e = good e.lent e.closed e.going

  -- so the counts and the entry fit
  pub profiles_fit : Ending past l profiles room → past.profiles < most_profiles
  profiles_fit e = omega (arith, (behind e).profiles_few, e.closed.counted)

  pub samples_fit : Ending past l profiles room → past.samples + l.count ≤ most_samples
  samples_fit e = omega (arith, (behind e).samples_few, e.closed.summed, e.going.counted)

  pub entry_fits : Ending past l profiles room → (past.profiles + 1) * profile_width ≤ length profiles
  entry_fits e =
      omega (arith, (behind e).profiles_room, e.closed.counted, same_length e.closed, div-mul-le_self (length e.profiles₀) profile_width)

  -- so the constructor makes the entry
  pub profile_made_lem : Ending past l profiles room → profile_made l.id past.samples l.count ≡ Some (record { id = l.id; first = past.samples; count = l.count })
  profile_made_lem e =
      let k = behind e in
      let id_low : e.id ≤ most_id = leb-true e.id most_id (and_first (leb e.id most_id) _ k.range) in
      rw (
        le-ltb most_id l.id (omega (arith, id_low, e.going.same_id)),
        le-ltb l.count least_sampled e.some_closed,
        le-ltb most_sampled l.count (omega (arith, k.sampled_few, e.going.counted)),
      )

  pub made-entered : Ending past l profiles room → (made : Option Profile) (profiles' : List ℕ) → made ≡ profile_made l.id past.samples l.count
      → profiles' ≡ entered_made made past.profiles profiles → profiles' ≡ sets profiles (past.profiles * profile_width) (l.id ∷ past.samples ∷ l.count ∷ [])
  made-entered e made profiles' m q = q ∙ ap (λ x. entered_made x past.profiles profiles) (m ∙ profile_made_lem e)

  module _ (at : ℕ) (rise : Rise) (profiles' : List ℕ) (climbs : Climbs past l.id rise)
      (entered : profiles' ≡ sets profiles (past.profiles * profile_width) (l.id ∷ past.samples ∷ l.count ∷ [])) where
    abbrev next_past : Past
    next_past = record { place = at + 1; profiles = past.profiles + 1; samples = past.samples + l.count; rising = rise.rising; last = rise.last }

    module _ {profiles₀ : List ℕ} {samples₀ samples : List ℤ} {before : List Curve} {id : ℕ} {done : List ℤ}
        (lent : room ≡ length samples₀) (c : Closed profiles₀ samples₀ past profiles before) (g : Going profiles₀ samples₀ past l (suc at) samples before id done) where
      narrow : l.wide ≡ false
      narrow = g.wide ∙ ap not (good lent c g).range

      same_id : l.id ≡ id
      same_id = told past l profiles room narrow g

      samples_entered : samples ≡ over (sample_table (before ++ curve id done ∷ [])) samples₀
      samples_entered = rw (samples_more before (curve id done)) (g.entered narrow (good lent c g).samples_room)

      entry_stands : profiles' ≡ over (profile_table (before ++ curve id done ∷ [])) profiles₀
      entry_stands =
          let k = good lent c g in
          let n : past.profiles * profile_width ≡ length (profile_table before) = ap (λ x. x * profile_width) c.counted ∙ sym (table-length before) in
          let e : profiles' ≡ sets (over (profile_table before) profiles₀) (length (profile_table before)) (profile_numbers (entry_of (sampled before) (curve id done))) =
          cc (c.entered, c.summed, g.counted, same_id) in
          e
          ∙ over-more (profile_table before) profiles₀ (profile_numbers (entry_of (sampled before) (curve id done)))
          (omega (arith, table-length before, k.profiles_room, div-mul-le_self (length profiles₀) profile_width))
          ∙ ap (λ w. over w profiles₀) (sym (table_more before (curve id done)))

      ids_more : (xs : List Curve) → curve_ids_of (xs ++ curve id done ∷ []) ≡ curve_ids_of xs ++ id ∷ []
      ids_more [] = refl
      ids_more (x ∷ xs) = ap (λ ids. x.id ∷ ids) (ids_more xs)

      closed_more : Closed profiles₀ samples₀ next_past profiles' (before ++ curve id done ∷ [])
      closed_more =
          let k = good lent c g in
          let n : length (before ++ curve id done ∷ []) ≡ length before + 1 = length-append before (curve id done ∷ []) in
          let long : length (curve_ids_of before) ≡ past.profiles = length-map before (λ (b : Curve). b.id) ∙ sym c.counted in
          record {
            counted = omega (arith, c.counted);
            summed = rw (sampled-more before (curve id done)) (omega (arith, c.summed, g.counted));
            room = omega (arith, k.profiles_room);
            samples_room = rw (sampled-more before (curve id done)) k.samples_room;
            entered = entry_stands;
            climb = rw (ids_more before, ← same_id) (climbs (curve_ids_of before) long c.climb);
          }

    pub row_good : Ends at past l profiles room (Id next_past Empty) profiles'
    row_good profiles₀ samples₀ samples before id done lent c g =
        rw (rw none-at-fault at (faults profiles₀ samples₀ (suc at) samples before id done lent c g))
        (let h : Holds profiles₀ samples₀ (suc at) (Id next_past Empty) profiles' samples (in_row (at + 1) (suc at) (before ++ curve id done ∷ []) start) =
        in_id_lem {past = next_past} (omega arith) (closed_more lent c g) (samples_entered lent c g) empty_near in
        subst (λ (p : ℕ). Holds profiles₀ samples₀ (suc at) (Id next_past Empty) profiles' samples (in_row p (suc at) (before ++ curve id done ∷ []) start)) (add-one at) h)

pub row_bad : {past : Past} {l : Listed} {profiles : List ℕ} {room fault : ℕ} → Faults past l profiles room fault → (fault ≡ 0 → ⊥)
    → (at : ℕ) → Ends at past l profiles room (Stopped fault past.place) profiles
row_bad {fault = fault} faults z at profiles₀ samples₀ samples before id done lent c g =
    rw (faults profiles₀ samples₀ (suc at) samples before id done lent c g, ne_eqb fault 0 z) at_stop

pub ruleset rows = (profiles_fit, samples_fit, entry_fits, made-entered, row_good, row_bad)
