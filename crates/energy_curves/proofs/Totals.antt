-- The power of all subnets together, and the greatest and least of it over the seconds: one step, and that each number fits 64 bits. Assumes nothing.
use Prim.Native.Nat.{ℕ, zero, suc, ◌+◌, ◌*◌, ◌-◌, ◌≤◌, ◌<◌, ◌^◌}
use native.Mathlib.Omega.{arith}
use native.Mathlib.Numerals.{add-one}
use native.Mathlib.Nat.{le_trans}
use mathlib.Core.Path.{◌≡◌, refl, sym, ap, ap₂, ◌∙◌, subst}
use mathlib.Core.Bool.{Bool, true, false, cond}
use mathlib.Core.List.{List}
use lib.IntN.{ℤ, nat_abs, neg_ℤ, ◌+ℤ◌, ◌-ℤ◌}
use lib.Signed.{le_z}
use Rattle.std.specs.Int.{int_max, int_min}
use Rattle.std.proofs.lemmas.Int.{ints, clamps}
use mir.Syntax.{w32, w64}
use mir.Val.{SFits, to_z, of_z}
use mir.Facts.{to_z-of_z, sfits_widen}
use Rattle.rules.specs.Limits.{most_subnets}
use Rattle.rules.specs.Energy.{extreme, greatest, least}
use Rattle.rules_theorems.specs.Sized.{most_power}
use Rattle.rules_theorems.proofs.Parts.{size-part, size_neg}
use Rattle.rules_theorems.proofs.Order.{Linear, up, down, extreme-at}
use Rattle.energy_curves.specs.Curves.{CurveTable, power_in, total_in, fluctuation_in}
use Rattle.rules_theorems.proofs.Sizes.{fits-small, fits_long}

-- ---- the sum over subnets, at second i

module _ (H n : ℕ) (P : List ℤ) (t : CurveTable H n P) (i : ℕ) where
  total_most : (s : ℕ) → nat_abs (total_in H P s i) ≤ s * most_power
  total_most zero = omega arith
  total_most (suc s) =
      le_trans (size-part.add (total_in H P s i) (power_in H P s i)) (omega (arith, total_most s, t.small (s * H + i)))

  total_fits : (s : ℕ) → s ≤ n → SFits w64 (total_in H P s i)
  total_fits s h = fits_long (few s n (nat_abs (total_in H P s i)) h t.subnets (total_most s))
    where
      few : (s n x : ℕ) → s ≤ n → n ≤ most_subnets → x ≤ s * most_power → x < 2 ^ 63
      few s n x h l m = omega arith

  -- sum is the sum over s subnets
  module _ (s : ℕ) (h : s ≤ n) (sum : ℤ) (e : sum ≡ total_in H P s i) where
    pub total_whole : n ≤ s → sum ≡ total_in H P n i
    total_whole k =
        let same : s ≡ n = omega arith in
        e ∙ ap (λ m. total_in H P m i) same

    power-fits : SFits w32 (power_in H P s i)
    power-fits = fits-small (under (nat_abs (power_in H P s i)) (t.small (s * H + i)))
      where
        under : (x : ℕ) → x ≤ most_power → x < 2 ^ 31
        under x m = omega arith

    pub power_casts : SFits w64 (to_z w32 (of_z w32 (power_in H P s i)))
    power_casts = rw (to_z-of_z power-fits) (sfits_widen {w = w32} {w' = w64} tt power-fits)

    both_held : sum +ℤ to_z w64 (of_z w64 (to_z w32 (of_z w32 (power_in H P s i)))) ≡ total_in H P s i +ℤ power_in H P s i
    both_held = ap₂ ◌+ℤ◌ e (to_z-of_z power_casts ∙ to_z-of_z power-fits)

    module _ (l : s < n) where
      pub total_adds : SFits w64 (sum +ℤ to_z w64 (of_z w64 (to_z w32 (of_z w32 (power_in H P s i)))))
      total_adds = rw both_held (total_fits (suc s) l)

      pub total_added : to_z w64 (of_z w64 (sum +ℤ to_z w64 (of_z w64 (to_z w32 (of_z w32 (power_in H P s i)))))) ≡ total_in H P (s + 1) i
      total_added = to_z-of_z total_adds ∙ both_held ∙ sym (ap (λ m. total_in H P m i) (add-one s))

-- ---- the greater and the lesser of two, as the law picks them

max_picks : (a b : ℤ) → int_max a b ≡ cond (le_z a b) b a
max_picks a b = go (le_z a b) refl
  where
    go : (c : Bool) → le_z a b ≡ c → int_max a b ≡ cond c b a
    go true e = omega (arith, ints, clamps)
    go false e = omega (arith, ints, clamps)

min_picks : (a b : ℤ) → int_min a b ≡ cond (le_z b a) b a
min_picks a b = go (le_z b a) refl
  where
    go : (c : Bool) → le_z b a ≡ c → int_min a b ≡ cond c b a
    go true e = omega (arith, ints, clamps)
    go false e = omega (arith, ints, clamps)

-- ---- over the seconds 0 .. t - 1: the greatest total and the least

pub record Ranged (H n : ℕ) (P : List ℤ) (hi lo : ℤ) (t : ℕ) : Type 0 where
  pub begun : 1 ≤ t
  pub within : t ≤ H
  pub most : hi ≡ greatest (total_in H P n) (t - 1)
  pub fewest : lo ≡ least (total_in H P n) (t - 1)

module _ (H n : ℕ) (P : List ℤ) (c : CurveTable H n P) where
  extreme_most : (R : ℤ → ℤ → Bool) → Linear R → (k : ℕ) → nat_abs (extreme R (total_in H P n) k) ≤ n * most_power
  extreme_most R L k =
      let at = extreme-at R L (total_in H P n) k in
      subst (λ z. nat_abs z ≤ n * most_power) (sym at.2) (total_most H n P c at.0 n)

  few : (n x : ℕ) → n ≤ most_subnets → x ≤ n * most_power → x < 2 ^ 62
  few n x l m = omega arith

  extreme-fits : (R : ℤ → ℤ → Bool) → Linear R → (k : ℕ) → SFits w64 (extreme R (total_in H P n) k)
  extreme-fits R L k = fits_long (under (few n (nat_abs (extreme R (total_in H P n) k)) c.subnets (extreme_most R L k)))
    where
      under : {x : ℕ} → x < 2 ^ 62 → x < 2 ^ 63
      under h = omega arith

  difference_fits : (k : ℕ) → SFits w64 (greatest (total_in H P n) k -ℤ least (total_in H P n) k)
  difference_fits k =
      let g : ℤ = greatest (total_in H P n) k in
      let s : ℤ = least (total_in H P n) k in
      fits_long
      (under (size-part.add g (neg_ℤ s)) (few n (nat_abs g) c.subnets (extreme_most le_z up k))
      (subst (λ x. x < 2 ^ 62) (sym (size_neg s)) (few n (nat_abs s) c.subnets (extreme_most (λ a b. le_z b a) down k))))
    where
      under : {d x y : ℕ} → d ≤ x + y → x < 2 ^ 62 → y < 2 ^ 62 → d < 2 ^ 63
      under a b c = omega arith

  pub fluctuation-fits : SFits w64 (fluctuation_in H P n)
  unfolding fluctuation_in
  fluctuation-fits = difference_fits (H - 1)

  -- a number that fits is read back as it was written
  held : (z x : ℤ) → z ≡ x → SFits w64 x → to_z w64 (of_z w64 z) ≡ x
  held z x e f = ap (λ y. to_z w64 (of_z w64 y)) e ∙ to_z-of_z f

  pub range_begins : (z : ℤ) → z ≡ total_in H P n 0 → Ranged H n P (to_z w64 (of_z w64 z)) (to_z w64 (of_z w64 z)) 1
  range_begins z e =
      let same : to_z w64 (of_z w64 z) ≡ total_in H P n 0 = held z (total_in H P n 0) e (total_fits H n P c 0 n (omega arith)) in
      record { begun = omega arith; within = c.begins; most = same; fewest = same }

  module _ (hi lo : ℤ) (t : ℕ) (r : Ranged H n P hi lo t) where
    -- z is the total at second t
    module _ (l : t < H) (z : ℤ) (ez : z ≡ total_in H P n t) where
      z_is : to_z w64 (of_z w64 z) ≡ total_in H P n t
      z_is = held z (total_in H P n t) ez (total_fits H n P c t n (omega arith))

      next : (R : ℤ → ℤ → Bool) (e x : ℤ) → e ≡ extreme R (total_in H P n) (t - 1) → x ≡ total_in H P n t
          → cond (R e x) x e ≡ extreme R (total_in H P n) (t + 1 - 1)
      next R e x he hx =
          let this : t + 1 - 1 ≡ suc (t - 1) = omega (arith, r.begun) in
          let last : t ≡ suc (t - 1) = omega (arith, r.begun) in
          ap₂ (λ e x. cond (R e x) x e) he (hx ∙ ap (total_in H P n) last) ∙ sym (ap (extreme R (total_in H P n)) this)

      pub range_more : (a b : ℤ) → a ≡ int_max hi (to_z w64 (of_z w64 z)) → b ≡ int_min lo (to_z w64 (of_z w64 z))
          → Ranged H n P (to_z w64 (of_z w64 a)) (to_z w64 (of_z w64 b)) (t + 1)
      range_more a b ea eb =
          let x : ℤ = to_z w64 (of_z w64 z) in
          record {
            begun = omega arith;
            within = omega arith;
            most =
                held a (greatest (total_in H P n) (t + 1 - 1)) (ea ∙ max_picks hi x ∙ next le_z hi x r.most z_is) (extreme-fits le_z up (t + 1 - 1));
            fewest =
                held b (least (total_in H P n) (t + 1 - 1)) (eb ∙ min_picks lo x ∙ next (λ a b. le_z b a) lo x r.fewest z_is)
                (extreme-fits (λ a b. le_z b a) down (t + 1 - 1));
          }

    -- greatest minus least
    pub range_fits : SFits w64 (hi -ℤ lo)
    range_fits = rw (r.most, r.fewest) (difference_fits (t - 1))

    pub range_whole : H ≤ t → to_z w64 (of_z w64 (hi -ℤ lo)) ≡ fluctuation_in H P n
    unfolding fluctuation_in
    range_whole l =
        let e : t ≡ H = omega (arith, r.within) in
        to_z-of_z range_fits
        ∙ ap₂ ◌-ℤ◌ r.most r.fewest
        ∙ ap (λ k. greatest (total_in H P n) (k - 1) -ℤ least (total_in H P n) (k - 1)) e
