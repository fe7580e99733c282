-- How great the figures can be, by document 01's sizes: power, energies, peaks and fluctuation. Assumes nothing.
use Prim.Native.Nat.{ℕ, zero, suc, ◌+◌, ◌*◌, ◌-◌, ◌^◌, ◌≤◌, ◌<◌}
use native.Mathlib.Omega.{arith}
use native.Mathlib.Nat.{le_trans, mul-le-mul_right}
use mathlib.Core.Path.{◌≡◌, refl, sym, subst}
use mathlib.Core.Bool.{Bool, true, false, cond}
use mathlib.Core.List.{List, [], ◌∷◌}
use lib.ListN.{length, get_or}
use lib.IntN.{ℤ, pos, neg_ℤ, nat_abs}
use lib.Signed.{le_z}
use Rattle.rules.specs.Limits.{most_legs, most_travel, most_kw, most_kj, most_quarters, quarter_seconds}
use Rattle.rules.specs.Lists.{sum_of}
use Rattle.rules.specs.Verdict.{All}
use Rattle.rules.specs.Energy.{sum_to, sum_to_z, running, leg_at, is_home, power, before, before_at, drawn_at, drawn, lost, total, greatest, least, fluctuation, seconds_of, quarter, peak}
use Rattle.rules.specs.declared.sizes.Configuration.{Configuration}
use Rattle.rules.proofs.Truth.{all_map}
use Rattle.rules_theorems.specs.Sized.{most_power, Powered, Sized, Fits, returned}
use Rattle.rules_theorems.proofs.Sums.{sum_le, sum_zero, sum_add, sum_swap, sum-part, max_le_all, cond_le, list_bound}
use Rattle.rules_theorems.proofs.Parts.{Part, above-part, below-part, size-part, part_zero, size_neg}
use Rattle.rules_theorems.proofs.Order.{up, down, extreme-at}
use Rattle.rules_theorems.proofs.Runs.{legs-sum}
use Rattle.rules_theorems.proofs.Energies.{stands, home_sum, before-seconds, drawn-seconds}
use Rattle.std.specs.Prelude.{Option}

-- ---- the greatest numbers

-- 32,768 legs of 3,600 seconds at 20,000 kilowatts
pub most_energy : most_legs * most_travel * most_kw ≡ most_kj
most_energy = refl

-- doubles hold every energy without loss
pub energy_exact : most_kj ≤ 2 ^ 53
energy_exact = omega arith

pub energy_fits : most_kj < 2 ^ 63
energy_fits = omega arith

-- a signed table of 32 bits holds every power
pub power-fits : most_power < 2 ^ 31
power-fits = omega arith

-- ---- one second

part_of-sum : {f : ℤ → ℕ} → Part f → (g : ℕ → ℤ) (n : ℕ) → f (sum_to_z g n) ≤ sum_to (λ s. f (g s)) n
part_of-sum p g zero = omega (arith, part_zero p)
part_of-sum p g (suc n) = le_trans (p.add (sum_to_z g n) (g n)) (omega (arith, part_of-sum p g n))

get_d_bound : (b : ℕ) (xs : List ℤ) (i : ℕ) → All (λ x. nat_abs x ≤ b) xs → nat_abs (get_or xs i (pos 0)) ≤ b
get_d_bound b [] i h = omega arith
get_d_bound b (x ∷ xs) zero h = h.0
get_d_bound b (x ∷ xs) (suc i) h = get_d_bound b xs i h.1

module _ (samples : ℕ → List ℤ) where
  pub leg_bound : (t : ℕ) (c : Configuration) → Powered samples c → nat_abs (leg_at samples c t) ≤ most_kw
  leg_bound t c p = go (running samples c t)
    where
      go : (b : Bool) → nat_abs (cond b (get_or (samples c.profile) (t - c.departure) (pos 0)) (pos 0)) ≤ most_kw
      go true = get_d_bound most_kw (samples c.profile) (t - c.departure) p.moderate
      go false = omega arith

  -- all legs together
  pub legs_bound : (t : ℕ) (cs : List Configuration) → Sized samples cs → sum_of (λ c. nat_abs (leg_at samples c t)) cs ≤ length cs * most_kw
  legs_bound t cs s = list_bound (λ c. nat_abs (leg_at samples c t)) most_kw cs (all_map (Powered samples) (λ c. nat_abs (leg_at samples c t) ≤ most_kw) (leg_bound t) cs s.powered)

  few_legs : (cs : List Configuration) → Sized samples cs → length cs * most_kw ≤ most_power
  few_legs cs s = mul-le-mul_right most_kw s.few

  -- a part of a subnet's power is at most the legs' parts together
  pub power-part : {f : ℤ → ℕ} → Part f → (s t : ℕ) (homes : List (Option ℕ)) (cs : List Configuration)
      → f (power samples homes cs s t) ≤ sum_of (λ c. f (leg_at samples c t)) cs
  power-part p s t [] cs = omega (arith, part_zero p)
  power-part p s t (u ∷ us) [] = omega (arith, part_zero p)
  power-part {f} p s t (u ∷ us) (c ∷ cs) =
      le_trans (p.add (cond (is_home samples u s) (leg_at samples c t) (pos 0)) (power samples us cs s t))
      (omega (arith, own (is_home samples u s), power-part p s t us cs))
    where
      own : (b : Bool) → f (cond b (leg_at samples c t) (pos 0)) ≤ f (leg_at samples c t)
      own true = omega arith
      own false = omega (arith, part_zero p)

  -- all subnets together too, as a leg stands in one at most
  pub subnets-part : {f : ℤ → ℕ} → Part f → (n t : ℕ) (homes : List (Option ℕ)) (cs : List Configuration)
      → sum_to (λ s. f (power samples homes cs s t)) n ≤ sum_of (λ c. f (leg_at samples c t)) cs
  subnets-part {f} p n t [] cs = omega (arith, sum_zero (λ s. f (pos 0)) n (λ i h. part_zero p))
  subnets-part {f} p n t (u ∷ us) [] = omega (arith, sum_zero (λ s. f (pos 0)) n (λ i h. part_zero p))
  subnets-part {f} p n t (u ∷ us) (c ∷ cs) =
      let x : ℤ = leg_at samples c t in
      let own : ℕ → ℕ = λ s. f (cond (is_home samples u s) x (pos 0)) in
      let rest : ℕ → ℕ = λ s. f (power samples us cs s t) in
      omega (
        arith,
        sum_le (λ s. f (power samples (u ∷ us) (c ∷ cs) s t)) (λ s. own s + rest s) n
            (λ s h. p.add (cond (is_home samples u s) x (pos 0)) (power samples us cs s t)),
        sum_add own rest n,
        home_sum samples f (part_zero p) n u x,
        cond_le (stands n u) (f x),
        subnets-part p n t us cs,
      )

  -- ---- power and fluctuation

  module _ (homes : List (Option ℕ)) (cs : List Configuration) (sized : Sized samples cs) where
    -- P(u, t) is at most the legs' number times the greatest sample
    pub power-legs : (u t : ℕ) → nat_abs (power samples homes cs u t) ≤ length cs * most_kw
    power-legs u t = le_trans (power-part size-part u t homes cs) (legs_bound t cs sized)

    pub power_bound : (u t : ℕ) → nat_abs (power samples homes cs u t) ≤ most_power
    power_bound u t = le_trans (power-legs u t) (few_legs cs sized)

    -- P summed over subnets is no greater
    pub total-legs : (n t : ℕ) → nat_abs (total samples homes n cs t) ≤ length cs * most_kw
    total-legs n t =
        le_trans (part_of-sum size-part (λ s. power samples homes cs s t) n)
        (le_trans (subnets-part size-part n t homes cs) (legs_bound t cs sized))

    pub total_bound : (n t : ℕ) → nat_abs (total samples homes n cs t) ≤ most_power
    total_bound n t = le_trans (total-legs n t) (few_legs cs sized)

    -- greatest minus least
    pub fluctuation_bound : (n H : ℕ) → nat_abs (fluctuation samples homes n cs H) ≤ 2 * most_power
    fluctuation_bound n H =
        let P : ℕ → ℤ = total samples homes n cs in
        let a : ℤ = greatest P (H - 1) in
        let b : ℤ = least P (H - 1) in
        let i = extreme-at le_z up P (H - 1) in
        let j = extreme-at (λ x y. le_z y x) down P (H - 1) in
        let ha : nat_abs a ≤ most_power = subst (λ z. nat_abs z ≤ most_power) (sym i.2) (total_bound n i.0) in
        let hb : nat_abs b ≤ most_power = subst (λ z. nat_abs z ≤ most_power) (sym j.2) (total_bound n j.0) in
        le_trans (size-part.add a (neg_ℤ b)) (omega (arith, size_neg b))

  -- ---- energies

  -- a part of all chosen samples
  pub samples_bound : {f : ℤ → ℕ} → Part f → (cs : List Configuration) → Sized samples cs
      → sum_of (λ c. sum_of f (samples c.profile)) cs ≤ most_kj
  samples_bound {f} p cs s =
      le_trans (list_bound (λ c. sum_of f (samples c.profile)) (most_travel * most_kw) cs (all_map (Powered samples) (λ c. sum_of f (samples c.profile) ≤ most_travel * most_kw) each cs s.powered))
      (mul-le-mul_right (most_travel * most_kw) s.few)
    where
      each : (c : Configuration) → Powered samples c → sum_of f (samples c.profile) ≤ most_travel * most_kw
      each c h =
          let xs : List ℤ = samples c.profile in
          let brief : length xs ≤ most_travel = omega (arith, h.counted, h.brief) in
          le_trans (list_bound f most_kw xs (all_map (λ x. nat_abs x ≤ most_kw) (λ x. f x ≤ most_kw) (λ x k. le_trans (p.small x) k) xs h.moderate)) (mul-le-mul_right most_kw brief)

  -- a part of P, summed over subnets and seconds, is at most that part of all chosen samples
  pub parts_bound : {f : ℤ → ℕ} → Part f → (homes : List (Option ℕ)) (n H : ℕ) (cs : List Configuration) → Sized samples cs → Fits H cs
      → sum_to (λ s. sum_to (λ t. f (power samples homes cs s t)) H) n ≤ sum_of (λ c. sum_of f (samples c.profile)) cs
  parts_bound {f} p homes n H cs s h =
      omega (
        arith,
        sum_swap (λ u t. f (power samples homes cs u t)) n H,
        sum_le (λ t. sum_to (λ u. f (power samples homes cs u t)) n) (λ t. sum_of (λ c. f (leg_at samples c t)) cs) H (λ t k. subnets-part p n t homes cs),
        legs-sum samples f (part_zero p) H cs s.powered h,
      )

  -- before recuperation is at most 2,359,296,000,000 kJ
  pub before_bound : (cs : List Configuration) → Sized samples cs → before samples cs ≤ most_kj
  before_bound = samples_bound above-part

  pub returned_bound : (cs : List Configuration) → Sized samples cs → returned samples cs ≤ most_kj
  returned_bound = samples_bound below-part

  module _ (homes : List (Option ℕ)) (n H : ℕ) (cs : List Configuration) (sized : Sized samples cs) (fits : Fits H cs) where
    -- recuperation spares, it never costs
    pub drawn-at-most_before : drawn samples homes n cs H ≤ before samples cs
    drawn-at-most_before = parts_bound above-part homes n H cs sized fits

    pub lost-at_most_returned : lost samples homes n cs H ≤ returned samples cs
    lost-at_most_returned = parts_bound below-part homes n H cs sized fits

    pub drawn_bound : drawn samples homes n cs H ≤ most_kj
    drawn_bound = le_trans drawn-at-most_before (before_bound cs sized)

    pub lost_bound : lost samples homes n cs H ≤ most_kj
    lost_bound = le_trans lost-at_most_returned (returned_bound cs sized)

-- ---- quarters and peaks

-- a quarter's sum is at most the whole sum
pub quarter_bound : (f : ℕ → ℕ) (H k : ℕ) → quarter f H k ≤ sum_to f H
quarter_bound f H k = go (seconds_of H k) (omega arith)
  where
    go : (n : ℕ) → n ≤ H - quarter_seconds * k → sum_to (λ j. f (quarter_seconds * k + j)) n ≤ sum_to f H
    go zero h = omega arith
    go (suc n) h = sum-part f (quarter_seconds * k) (suc n) H (omega arith)

pub peak_bound : (f : ℕ → ℕ) (H : ℕ) → peak f H ≤ sum_to f H
peak_bound f H = max_le_all (quarter f H) (sum_to f H) most_quarters (quarter_bound f H)

-- a peak is at most its total
module _ (samples : ℕ → List ℤ) (H : ℕ) (cs : List Configuration) (sized : Sized samples cs) (fits : Fits H cs) where
  pub peak-before-total : peak (before_at samples cs) H ≤ before samples cs
  peak-before-total =
      subst (λ m. peak (before_at samples cs) H ≤ m) (before-seconds samples H cs sized fits) (peak_bound (before_at samples cs) H)

  pub peak-before_bound : peak (before_at samples cs) H ≤ most_kj
  peak-before_bound = le_trans peak-before-total (before_bound samples cs sized)

  module _ (homes : List (Option ℕ)) (n : ℕ) where
    pub quarter-drawn-total : (k : ℕ) → quarter (drawn_at samples homes n cs) H k ≤ drawn samples homes n cs H
    quarter-drawn-total k =
        subst (λ m. quarter (drawn_at samples homes n cs) H k ≤ m) (drawn-seconds samples homes n cs H) (quarter_bound (drawn_at samples homes n cs) H k)

    pub peak-drawn-total : peak (drawn_at samples homes n cs) H ≤ drawn samples homes n cs H
    peak-drawn-total = max_le_all (quarter (drawn_at samples homes n cs) H) (drawn samples homes n cs H) most_quarters quarter-drawn-total

    -- each of the quarter sums, after any number of subnets
    pub quarter-drawn_bound : (k : ℕ) → quarter (drawn_at samples homes n cs) H k ≤ most_kj
    quarter-drawn_bound k = le_trans (quarter-drawn-total k) (drawn_bound samples homes n H cs sized fits)

    pub peak-drawn_bound : peak (drawn_at samples homes n cs) H ≤ most_kj
    peak-drawn_bound = le_trans peak-drawn-total (drawn_bound samples homes n H cs sized fits)
