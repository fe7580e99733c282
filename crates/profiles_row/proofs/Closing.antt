-- A sample that is closed: its kW, its place in the table, and what is known of the row with it. Assumes nothing.
use Prim.Native.Nat.{ℕ, zero, suc, ◌+◌, ◌≤◌, ◌<◌, min}
use mathlib.Core.Path.{◌≡◌, refl, ap, sym, ◌∙◌}
use mathlib.Core.Bool.{Bool, true, false, not, cond, ◌&&◌}
use mathlib.Core.List.{List, [], ◌∷◌, ◌++◌, append_assoc}
use native.Mathlib.Omega.{arith}
use native.Mathlib.Nat.{not-suc-le-zero}
use lib.Dec.{leb, ltb}
use lib.ListN.{length, set, length-append, length-set}
use lib.IntN.{ℤ, nat_abs}
use mir.Syntax.{w32}
use mir.Val.{to_z, of_z, SFits}
use mir.Facts.{to_z-of_z, sfits_lit}
use borrow.Author.Tests.{ltb-true, ltb-false, le-leb, lt-leb}
use Rattle.rules.specs.Limits.{most_kw, most_id}
use Rattle.rules.specs.Lists.{every, over}
use Rattle.rules.specs.Made.{signed, sample_made}
use Rattle.rules.specs.Profiles.{Curve, sampled, sample_table}
use Rattle.rules.specs.declared.sizes.Sample.{Sample}
use Rattle.profiles_row.specs.declared.row.Past.{Past}
use Rattle.profiles_row.specs.declared.row.Listed.{Listed}
use Rattle.profiles_row.specs.declared.sample.Tail.{Tail}
use Rattle.profiles_row.specs.Near.{cap}
use Rattle.profiles_row.specs.Sample.{most_digits, kw_of}
use Rattle.profiles_row.specs.Row.{in_range, Digits, Closes, ClosesTo}
use Rattle.rules.proofs.Lists.{every_more, over-more}
use Rattle.profiles_row.proofs.Tables.{samples_length}
use Rattle.std.specs.Prelude.{Option, Some, None}

-- ---- kW

-- what is told apart up to the cap is told apart up to the limit
kw_near : (n count value n' value' : ℕ) → n' ≡ min n cap → value' ≡ min value cap → 1 ≤ count → count ≤ most_digits
    → min (kw_of n' count value') (suc most_kw) ≡ min (kw_of n count value) (suc most_kw)
kw_near n zero value n' value' e f a b = absurd (not-suc-le-zero a)
kw_near n (suc zero) value n' value' e f a b = omega arith
kw_near n (suc (suc zero)) value n' value' e f a b = omega arith
kw_near n (suc (suc (suc zero))) value n' value' e f a b = omega arith
kw_near n (suc (suc (suc (suc k)))) value n' value' e f a b = absurd (too_many_lem k b)
  where
    too_many_lem : (k : ℕ) → suc (suc (suc (suc k))) ≤ 3 → ⊥
    too_many_lem k h = omega arith

-- ---- the range

size : (negative : Bool) (k : ℕ) → nat_abs (signed negative k) ≡ k
size false k = refl
size true zero = refl
size true (suc k) = refl

range_in : (id : ℕ) (done : List ℤ) (negative : Bool) (k : ℕ) → k ≤ most_kw → in_range id (done ++ signed negative k ∷ []) ≡ in_range id done
range_in id done negative k h =
    rw (every_more (λ x. leb (nat_abs x) most_kw) done (signed negative k), size negative k, le-leb k most_kw h) (go (leb id most_id) (every (λ x. leb (nat_abs x) most_kw) done))
  where
    go : (s t : Bool) → s && (t && true) ≡ s && t
    go true true = refl
    go true false = refl
    go false t = refl

range_out : (id : ℕ) (done : List ℤ) (negative : Bool) (k : ℕ) → most_kw < k → in_range id (done ++ signed negative k ∷ []) ≡ false
range_out id done negative k h =
    rw (every_more (λ x. leb (nat_abs x) most_kw) done (signed negative k), size negative k, lt-leb k most_kw h) (go (leb id most_id) (every (λ x. leb (nat_abs x) most_kw) done))
  where
    go : (s t : Bool) → s && (t && false) ≡ false
    go true true = refl
    go true false = refl
    go false t = refl

made_in : (negative : Bool) (k : ℕ) (made : Option Sample) (s : Sample) → made ≡ sample_made negative k → made ≡ Some s → (k ≤ most_kw) × (s.kw ≡ signed negative k)
made_in negative k made s e q = go (ltb most_kw k) refl (sym e ∙ q)
  where
    go : (t : Bool) → ltb most_kw k ≡ t → cond {A = Option Sample} t None (Some (record { kw = signed negative k })) ≡ Some s → (k ≤ most_kw) × (s.kw ≡ signed negative k)
    go true x y = (let z : ◌≡◌ {A = ℕ} 0 1 = cc in omega arith, (cc))
    go false x y = (ltb-false most_kw k x, (let w : record { kw = signed negative k } ≡ s = cc in sym (ap (λ (r : Sample). r.kw) w)))

made_out : (negative : Bool) (k : ℕ) (made : Option Sample) → made ≡ sample_made negative k → made ≡ None → most_kw < k
made_out negative k made e q = go (ltb most_kw k) refl (sym e ∙ q)
  where
    go : (t : Bool) → ltb most_kw k ≡ t → cond {A = Option Sample} t None (Some (record { kw = signed negative k })) ≡ None → most_kw < k
    go true x y = ltb-true most_kw k x
    go false x y = let z : ◌≡◌ {A = ℕ} 0 1 = cc in omega arith

-- ---- the row

-- a sample's kW fit the table's numbers
kw_fits : (negative : Bool) (k : ℕ) → k ≤ most_kw → SFits w32 (signed negative k)
kw_fits false k h = record { sfits = omega arith }
kw_fits true zero h = sfits_lit tt
kw_fits true (suc k) h = record { sfits = omega arith }

-- a sample behind those in the table
stored_more : (before : List Curve) (done samples₀ samples samples' : List ℤ) (v : ℤ) (at : ℕ) → at ≡ sampled before + length done
    → samples ≡ over (sample_table before ++ done) samples₀ → samples' ≡ set samples at v → sampled before + length (done ++ v ∷ []) ≤ length samples₀
    → samples' ≡ over (sample_table before ++ (done ++ v ∷ [])) samples₀
stored_more before done samples₀ samples samples' v at a e q room =
    let w : List ℤ = sample_table before ++ done in
    let long : length w ≡ at = length-append (sample_table before) done ∙ ap (λ x. x + length done) (samples_length before) ∙ sym a in
    let below : length w + length (v ∷ []) ≤ length samples₀ = omega (arith, length-append done (v ∷ [])) in
    let one : samples' ≡ over (w ++ v ∷ []) samples₀ = rw (q, e, ← long) (over-more w samples₀ (v ∷ []) below) in
    rw (append_assoc (sample_table before) done (v ∷ [])) at one

module _ (past : Past) (l : Listed) (t : Tail) (samples : List ℤ) (k : ℕ) (made : Option Sample)
    (kw : 1 ≤ t.digits → t.digits ≤ most_digits → k ≡ min (kw_of t.whole t.digits t.value) (suc most_kw)) (is : made ≡ sample_made t.negative k) where
  near : (n count value : ℕ) → 1 ≤ count → Digits t n count value → k ≡ min (kw_of n count value) (suc most_kw)
  near n count value one d =
      let e : k ≡ min (kw_of t.whole count t.value) (suc most_kw) = rw d.counted at kw one d.few in
      e ∙ kw_near n count value t.whole t.value d.same_whole d.same_value one d.few

  closes_out : made ≡ None → Closes past l t samples (record { id = l.id; count = l.count + 1; wide = true }) samples
  closes_out e profiles₀ samples₀ next before id done n count value sum one g d =
      let above : most_kw < kw_of n count value = omega (arith, near n count value one d, made_out t.negative k made is e) in
      record {
        under_way = omega (arith, g.under_way);
        few = rw (length-append done (signed t.negative (kw_of n count value) ∷ [])) (omega (arith, g.few));
        same_id = g.same_id;
        counted = rw (length-append done (signed t.negative (kw_of n count value) ∷ [])) (omega (arith, g.counted));
        wide = rw (range_out id done t.negative (kw_of n count value) above);
        long = g.long;
        entered = λ x y. let z : ◌≡◌ {A = ℕ} 0 1 = cc in absurd (omega arith);
      }

  closes_in : (s : Sample) (samples' : List ℤ) → made ≡ Some s → samples' ≡ set samples (past.samples + l.count) (to_z w32 (of_z w32 s.kw))
      → Closes past l t samples (record { id = l.id; count = l.count + 1; wide = l.wide }) samples'
  closes_in s samples' e q profiles₀ samples₀ next before id done n count value sum one g d =
      let m = made_in t.negative k made s is e in
      let same : k ≡ kw_of n count value = omega (arith, near n count value one d, m.0) in
      let v : ℤ = signed t.negative (kw_of n count value) in
      let word : to_z w32 (of_z w32 s.kw) ≡ v = rw (m.1, same) (to_z-of_z (kw_fits t.negative (kw_of n count value) (omega (arith, m.0)))) in
      let stored : samples' ≡ set samples (past.samples + l.count) v = q ∙ ap (λ z. set samples (past.samples + l.count) z) word in
      record {
        under_way = omega (arith, g.under_way);
        few = rw (length-append done (v ∷ [])) (omega (arith, g.few));
        same_id = g.same_id;
        counted = rw (length-append done (v ∷ [])) (omega (arith, g.counted));
        wide = g.wide ∙ ap not (sym (range_in id done t.negative (kw_of n count value) (omega (arith, m.0))));
        long = ap length stored ∙ length-set samples (past.samples + l.count) v ∙ g.long;
        entered =
            λ fine room. stored_more before done samples₀ samples samples' v (past.samples + l.count) (omega (arith, g.counted))
            (g.entered fine (omega (arith, length-append done (v ∷ [])))) stored room;
      }

  pub sample_out : made ≡ None → ClosesTo past l t samples (record { id = l.id; count = l.count + 1; wide = true }) samples
  sample_out e = record { counted = refl; closes = closes_out e }

  pub sample_in : (s : Sample) (samples' : List ℤ) → made ≡ Some s → samples' ≡ set samples (past.samples + l.count) (to_z w32 (of_z w32 s.kw))
      → ClosesTo past l t samples (record { id = l.id; count = l.count + 1; wide = l.wide }) samples'
  sample_in s samples' e q = record { counted = refl; closes = closes_in s samples' e q }

pub ruleset closing = (sample_in, sample_out)
