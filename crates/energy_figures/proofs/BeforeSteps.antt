-- Before recuperation: one leg more, and that every number on the way fits. Assumes nothing.
use Prim.Native.Nat.{ℕ, ◌+◌, ◌*◌, ◌-◌, ◌≤◌, ◌<◌, ◌^◌}
use native.Mathlib.Omega.{arith}
use native.Mathlib.Numerals.{add-one}
use native.Mathlib.Nat.{le_trans, mul-le-mul_right}
use mathlib.Core.Path.{◌≡◌, sym, ap, ap₂, ◌∙◌, subst}
use mathlib.Core.List.{List}
use lib.ListN.{length, take, drop, replicate}
use lib.IntN.{ℤ, pos, nat_abs}
use mir.Syntax.{w64}
use mir.Val.{Fits}
use mir.Facts.{Fits-of_lt}
use Rattle.rules.specs.Limits.{most_legs, most_travel, most_kw, most_horizon, most_subnets, most_quarters, quarter_seconds}
use Rattle.rules.specs.Lists.{sum_of}
use Rattle.rules.specs.Energy.{sum_to, above, leg_at}
use Rattle.rules.specs.declared.sizes.Configuration.{Configuration}
use Rattle.rules.specs.declared.sizes.Profile.{Profile}
use Rattle.tables_views.specs.View.{configuration_at}
use Rattle.rules.proofs.Truth.{all_map}
use Rattle.rules_theorems.specs.Sized.{most_power, Powered}
use Rattle.rules_theorems.specs.Laying.{Within}
use Rattle.rules_theorems.proofs.Sums.{list_bound}
use Rattle.rules_theorems.proofs.Parts.{above-part}
use Rattle.rules_theorems.proofs.Runs.{leg_is-run}
use Rattle.rules_theorems.proofs.Bounds.{leg_bound}
use Rattle.energy_parts.specs.Seen.{profile_seen}
use Rattle.energy_figures.specs.Given.{Runs, sampled, ReadableRuns}
use Rattle.energy_figures.specs.Before.{choice_at, before_of, before_then, before_sums, Summing}
use Rattle.energy_parts.specs.Parts.{sides_of}
use Rattle.energy_parts.specs.Quarters.{drawn_by, with_run, RunRoom}
use Rattle.energy_figures.specs.declared.before.Before.{Before}
use Rattle.energy_parts.specs.declared.sides.Sides.{Sides}
use Rattle.energy_curves.proofs.Adding.{all_within}
use Rattle.energy_parts.proofs.QuarterSteps.{sum_most}
use Rattle.energy_parts.proofs.QuarterSums.{sums_none, sums_with, sums_small}
use Rattle.energy_figures.proofs.LegSteps.{part_is, leg_powered, leg-fits, few_legs}

-- ---- sizes

module _ (H : ℕ) (r : Runs) (readable : ReadableRuns H r) (i : ℕ) (l : i < r.counts.legs) where
  leg_energy : before_of r i ≤ most_travel * most_kw
  leg_energy =
      let h : Powered (sampled r) (choice_at r i) = leg_powered H r readable i l in
      let xs : List ℤ = sampled r (choice_at r i).profile in
      le_trans (list_bound above most_kw xs (all_map (λ x. nat_abs x ≤ most_kw) (λ x. above x ≤ most_kw) (λ x k. le_trans (above-part.small x) k) xs h.moderate))
      (mul-le-mul_right most_kw (subst (λ n. n ≤ most_travel) (sym h.counted) h.brief))

  leg-at_most : (t : ℕ) → before_then r t i ≤ most_kw
  leg-at_most t = le_trans (above-part.small (leg_at (sampled r) (choice_at r i) t)) (leg_bound (sampled r) t (choice_at r i) (leg_powered H r readable i l))

module _ (H : ℕ) (r : Runs) (readable : ReadableRuns H r) (i : ℕ) (l : i < r.counts.legs) where
  whole_most : sum_to (before_of r) i ≤ i * (most_travel * most_kw)
  whole_most = sum_most (before_of r) (most_travel * most_kw) i (λ j k. leg_energy H r readable j (omega arith))

  second_most : (t : ℕ) → sum_to (before_then r t) i ≤ i * most_kw
  second_most t = sum_most (before_then r t) most_kw i (λ j k. leg-at_most H r readable j (omega arith) t)

-- ---- one leg, in the terms of the code

pub none_summed : (H : ℕ) (r : Runs) → record { whole = 0; quarters = replicate most_quarters (pos 0) } ≡ before_sums H r 0
unfolding before_sums
none_summed H r = ap (λ (q : List ℤ). record { whole = 0; quarters = q }) (sums_none H)

module _ (H : ℕ) (r : Runs) (i : ℕ) (sum : Before) (s : Summing H r i sum) (l : i < r.counts.legs)
    (c : Configuration) (ec : c ≡ configuration_at r.choices i)
    (p : Profile) (ep : p ≡ profile_seen r.counts.profiles.count r.profiles c.profile) where
  abbrev part : List ℤ
  part = take (p.first + p.count - p.first) (drop p.first r.samples)

  part-chosen : part ≡ sampled r (choice_at r i).profile
  part-chosen = part_is H r s.readable c.profile p ep ∙ ap (λ (x : Configuration). sampled r x.profile) ec

  powered : Powered (sampled r) (choice_at r i)
  powered = leg_powered H r s.readable i l

  part_length : length part ≡ (choice_at r i).travel
  part_length = ap length part-chosen ∙ powered.counted

  pub part_short : length part ≤ most_subnets * most_horizon
  part_short = rw part_length (short powered.brief)
    where
      short : {n : ℕ} → n ≤ most_travel → n ≤ most_subnets * most_horizon
      short h = omega arith

  part_within : c.departure + length part ≤ H
  part_within =
      rw part_length
      (subst (λ d. d + (choice_at r i).travel ≤ H) (sym (ap (λ (x : Configuration). x.departure) ec)) (leg-fits H r s.readable i l))

  pub part_room : RunRoom c.departure part sum.quarters
  unfolding before_sums
  part_room =
      record {
        ends = le_trans part_within s.readable.ends;
        powers = λ k. less (all_within most_kw part (rw part-chosen powered.moderate) k);
        sums_small =
            subst (λ (b : Before). Within (2 ^ 62) b.quarters) (sym s.is)
            (sums_small (λ t. sum_to (before_then r t) i) (i * most_kw) H (second_most H r s.readable i l) (few i r.counts.legs l (few_legs H r s.readable i l)));
      }
    where
      less : {n : ℕ} → n ≤ most_kw → n ≤ most_power
      less h = omega arith

      few : (i n : ℕ) → i < n → n ≤ most_legs → quarter_seconds * (i * most_kw) ≤ 2 ^ 62
      few i n h k = omega arith

  module _ (x : Sides) (ex : x ≡ sides_of part) where
    above_is : x.above ≡ before_of r i
    unfolding sides_of
    above_is = ap (λ (y : Sides). y.above) ex ∙ ap (sum_of above) part-chosen

    whole_is : sum.whole ≡ sum_to (before_of r) i
    unfolding before_sums
    whole_is = ap (λ (b : Before). b.whole) s.is

    pub whole_fits : Fits w64 (sum.whole + x.above)
    whole_fits =
        Fits-of_lt (few i r.counts.legs sum.whole x.above l (few_legs H r s.readable i l)
        (subst (λ n. n ≤ i * (most_travel * most_kw)) (sym whole_is) (whole_most H r s.readable i l))
        (subst (λ n. n ≤ most_travel * most_kw) (sym above_is) (leg_energy H r s.readable i l)))
      where
        few : (i n a b : ℕ) → i < n → n ≤ most_legs → a ≤ i * (most_travel * most_kw) → b ≤ most_travel * most_kw → a + b < 2 ^ 64
        few i n a b h k ha hb = omega arith

    -- what the part draws at each second is what the leg does
    part-drawn : (t : ℕ) → t < H → drawn_by c.departure part t ≡ before_then r t i
    part-drawn t k =
        ap₂ (λ d xs. drawn_by d xs t) (ap (λ (y : Configuration). y.departure) ec) part-chosen
        ∙ sym (ap above (leg_is-run (sampled r) (choice_at r i) t powered.counted))

    pub leg_summed : (q : List ℤ) → q ≡ with_run c.departure part sum.quarters → record { whole = sum.whole + x.above; quarters = q } ≡ before_sums H r (i + 1)
    unfolding before_sums
    leg_summed q eq =
        ap₂ (λ (w : ℕ) (q : List ℤ). record { whole = w; quarters = q })
        (ap₂ ◌+◌ whole_is above_is)
        (eq
        ∙ ap (λ (b : Before). with_run c.departure part b.quarters) s.is
        ∙ sums_with (λ t. sum_to (before_then r t) i) (λ t. before_then r t i) H c.departure part part_within part-drawn)
        ∙ ap (before_sums H r) (sym (add-one i))

pub all_summed : (H : ℕ) (r : Runs) (i : ℕ) (sum : Before) → (i ≤ r.counts.legs) × (sum ≡ before_sums H r i) → r.counts.legs ≤ i
    → sum ≡ before_sums H r r.counts.legs
all_summed H r i sum s h =
    let e : i ≡ r.counts.legs = omega arith in
    s.1 ∙ ap (before_sums H r) e
