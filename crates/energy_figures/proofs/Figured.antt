-- The figures that the code works out of the curve table and the runs are the figures of document 01. Assumes nothing.
use Prim.Native.Nat.{ℕ, zero, suc, ◌+◌, ◌*◌, ◌-◌, ◌/◌, ◌%◌, ◌≤◌, ◌<◌}
use native.Mathlib.Omega.{arith}
use native.Mathlib.Nat.{mul-le-mul, zero-add}
use mathlib.Core.Path.{◌≡◌, refl, sym, ap, ap₂, ◌∙◌, subst}
use mathlib.Core.Bool.{Bool, true, false, cond}
use mathlib.Core.List.{List}
use lib.Dec.{ltb}
use lib.ListN.{length, get_or, take, get_or-eq_default}
use lib.Seq.{take_at}
use lib.IntN.{ℤ, pos, nat_abs, ◌+ℤ◌, ◌-ℤ◌}
use lib.Signed.{le_z}
use mir.Syntax.{w64}
use mir.Val.{to_z, of_z}
use mir.Facts.{to_z-of_z}
use borrow.Author.Tests.{ltb-true, ltb-false}
use Rattle.rules.specs.Limits.{most_subnets, most_horizon}
use Rattle.rules.specs.Lists.{sum_of, over}
use Rattle.rules.specs.Energy.{sum_to, sum_to_z, above, below, extreme, power, leg_at, before, before_at, drawn_at, total, fluctuation, quarter_sums, peak_of}
use Rattle.rules.specs.declared.figures.Peak.{Peak}
use Rattle.rules.specs.declared.sizes.Configuration.{Configuration}
use Rattle.rules.specs.declared.figures.Figures.{Figures}
use Rattle.tables_views.specs.View.{configuration_at}
use Rattle.rules_theorems.specs.Sized.{most_power}
use Rattle.rules_theorems.specs.Laying.{Within}
use Rattle.rules_theorems.proofs.Sums.{sum_ext}
use Rattle.rules_theorems.proofs.Laying.{curves-at}
use Rattle.rules_theorems.proofs.Bounds.{power_bound}
use Rattle.rules_theorems.proofs.Tabulate.{tabulate-length, tabulate-at}
use Rattle.energy_parts.specs.Parts.{sides_of}
use Rattle.energy_parts.specs.Quarters.{greatest_sum}
use Rattle.energy_curves.specs.Curves.{CurveTable, power_in, drawn_in, total_in, quarters_in, fluctuation_in}
use Rattle.energy_figures.specs.Before.{before_then, before_sums}
use Rattle.energy_figures.specs.Given.{Runs, Given, chosen, sampled, homes, curves_seen, Readable}
use Rattle.energy_figures.specs.Worked.{figures_in, figures_seen, Worked}
use Rattle.energy_figures.specs.declared.before.Before.{Before}
use Rattle.energy_parts.specs.declared.sides.Sides.{Sides}
use Rattle.energy_parts.proofs.Listed.{sum_places, sum_tabulated, sum_rows}
use Rattle.energy_parts.proofs.QuarterSums.{peak_is, peak-same}
use Rattle.energy_curves.proofs.Totals.{fluctuation-fits}
use Rattle.energy_figures.proofs.LegsLaid.{curves-length}

-- ---- in the terms of the code

pub table_short : (H n : ℕ) (P : List ℤ) → CurveTable H n P → length P ≤ most_subnets * most_horizon
table_short H n P t = subst (λ m. m ≤ most_subnets * most_horizon) (sym t.rows) (mul-le-mul t.subnets t.ends)

pub figures-made : (H : ℕ) (r : Runs) (n : ℕ) (P : List ℤ) → CurveTable H n P → (l : Before) → l ≡ before_sums H r r.counts.legs
    → (s : Sides) → s ≡ sides_of P → (q : List ℤ) → q ≡ quarters_in H P n → (z : ℤ) → z ≡ fluctuation_in H P n
    → (a : Peak) → a ≡ greatest_sum l.quarters → (b : Peak) → b ≡ greatest_sum q
    → record { before = l.whole; drawn = s.above; lost = s.below; fluctuation = to_z w64 (of_z w64 z); peaks = record { before = a; drawn = b } }
    ≡ figures_in H r n P
unfolding figures_in
figures-made H r n P t l el s es q eq z ez a ea b eb =
    λ j. record {
      before = ap (λ (x : Before). x.whole) el j;
      drawn = ap (λ (x : Sides). x.above) es j;
      lost = ap (λ (x : Sides). x.below) es j;
      fluctuation = (ap (λ x. to_z w64 (of_z w64 x)) ez ∙ to_z-of_z (fluctuation-fits H n P t)) j;
      peaks =
          record {
            before = (ea ∙ ap (λ (x : Before). greatest_sum x.quarters) el) j;
            drawn = (eb ∙ ap greatest_sum eq) j;
          };
    }

-- ---- values that agree

sum_z_same : (f g : ℕ → ℤ) (n : ℕ) → ((i : ℕ) → i < n → f i ≡ g i) → sum_to_z f n ≡ sum_to_z g n
sum_z_same f g zero e = refl
sum_z_same f g (suc n) e = ap₂ ◌+ℤ◌ (sum_z_same f g n (λ i h. e i (omega arith))) (e n (omega arith))

extreme-same : (R : ℤ → ℤ → Bool) (f g : ℕ → ℤ) (n : ℕ) → ((i : ℕ) → i ≤ n → f i ≡ g i) → extreme R f n ≡ extreme R g n
extreme-same R f g zero e = e 0 (omega arith)
extreme-same R f g (suc n) e =
    ap₂ (λ x y. cond (R x y) y x) (extreme-same R f g n (λ i h. e i (omega arith))) (e (suc n) (omega arith))

-- ---- the curve table

module _ (H : ℕ) (g : Given) (readable : Readable H g) where
  abbrev n : ℕ
  n = g.runs.counts.subnets

  abbrev samples : ℕ → List ℤ
  samples = sampled g.runs

  abbrev cs : List Configuration
  cs = chosen g.runs

  abbrev P : List ℤ
  P = curves_seen 0 H g

  powers_small : Within most_power P
  unfolding curves_seen
  powers_small i = go (ltb i (n * H)) refl
    where
      at : ℕ → ℤ
      at k = power samples (homes g) cs (k / H) (0 + k % H)

      go : (b : Bool) → ltb i (n * H) ≡ b → nat_abs (get_or P i (pos 0)) ≤ most_power
      go true e =
          rw (tabulate-at (n * H) at (pos 0) i (ltb-true i (n * H) e)) (power_bound samples (homes g) cs readable.legs.sized (i / H) (0 + i % H))
      go false e =
          rw (get_or-eq_default P (pos 0) (subst (λ m. m ≤ i) (sym (tabulate-length (n * H) at)) (ltb-false i (n * H) e))) (omega arith)

  pub curves-table : CurveTable H n P
  curves-table =
      record {
        begins = readable.legs.begins;
        ends = readable.legs.ends;
        subnets = readable.subnets;
        rows = curves-length 0 H g;
        small = powers_small;
      }

  power_at_lem : (s t : ℕ) → s < n → t < H → power_in H P s t ≡ power samples (homes g) cs s t
  unfolding curves_seen
  power_at_lem s t hs h = curves-at 0 H samples n (homes g) cs s t hs h ∙ ap (power samples (homes g) cs s) (zero-add t)

  -- a part of P, summed over the whole table: drawn and lost
  part_summed : (f : ℤ → ℕ) → sum_of f P ≡ sum_to (λ s. sum_to (λ t. f (power samples (homes g) cs s t)) H) n
  part_summed f =
      sum_places f (pos 0) P
      ∙ ap (sum_to (λ i. f (get_or P i (pos 0)))) (curves-length 0 H g)
      ∙ sum_rows (λ i. f (get_or P i (pos 0))) H n
      ∙ sum_ext _ _ n (λ s hs. sum_ext _ _ H (λ t h. ap f (power_at_lem s t hs h)))

  drawn-at : (t : ℕ) → t < H → drawn_in H P n t ≡ drawn_at samples (homes g) n cs t
  drawn-at t h = sum_ext _ _ n (λ s hs. ap above (power_at_lem s t hs h))

  total-at : (t : ℕ) → t < H → total_in H P n t ≡ total samples (homes g) n cs t
  total-at t h = sum_z_same _ _ n (λ s hs. power_at_lem s t hs h)

  peak-drawn : greatest_sum (quarters_in H P n) ≡ peak_of (drawn_at samples (homes g) n cs) H
  unfolding quarters_in
  peak-drawn = peak_is (drawn_in H P n) H (quarter_sums (drawn_in H P n) H) refl ∙ peak-same (drawn_in H P n) (drawn_at samples (homes g) n cs) H drawn-at

  fluctuation_is : fluctuation_in H P n ≡ fluctuation samples (homes g) n cs H
  unfolding fluctuation_in
  fluctuation_is =
      ap₂ ◌-ℤ◌
      (extreme-same le_z (total_in H P n) (total samples (homes g) n cs) (H - 1) (λ i h. total-at i (within i h)))
      (extreme-same (λ a b. le_z b a) (total_in H P n) (total samples (homes g) n cs) (H - 1) (λ i h. total-at i (within i h)))
    where
      within : (i : ℕ) → i ≤ H - 1 → i < H
      within i h = omega (arith, readable.legs.begins)

  -- ---- the runs

  before_whole : (before_sums H g.runs g.runs.counts.legs).whole ≡ before samples cs
  unfolding before_sums
  before_whole =
      sym (sum_tabulated (λ (c : Configuration). sum_of above (samples c.profile)) g.runs.counts.legs (configuration_at g.runs.choices))

  peak-before : greatest_sum (before_sums H g.runs g.runs.counts.legs).quarters ≡ peak_of (before_at samples cs) H
  unfolding before_sums
  peak-before =
      let by_legs : ℕ → ℕ = λ t. sum_to (before_then g.runs t) g.runs.counts.legs in
      peak_is by_legs H (quarter_sums by_legs H) refl
      ∙ peak-same by_legs (before_at samples cs) H
      (λ t h. sym (sum_tabulated (λ (c : Configuration). above (leg_at samples c t)) g.runs.counts.legs (configuration_at g.runs.choices)))

  -- THE FIGURES
  pub figures_are : figures_in H g.runs n P ≡ figures_seen H g
  unfolding figures_in figures_seen sides_of
  figures_are =
      λ j. record {
        before = before_whole j;
        drawn = part_summed above j;
        lost = part_summed below j;
        fluctuation = fluctuation_is j;
        peaks = record { before = peak-before j; drawn = peak-drawn j };
      }

  -- the lent table after the curves were laid, and its front
  module _ (lent left : List ℤ) (e : left ≡ over P lent) where
    front_is : take (n * H) left ≡ P
    unfolding over
    front_is = ap (take (n * H)) e ∙ take_at P _ (n * H) (curves-length 0 H g)

    pub front_long : n * H ≡ length (take (n * H) left)
    front_long = sym (ap length front_is ∙ curves-length 0 H g)

    pub front_table : CurveTable H n (take (n * H) left)
    front_table = rw front_is curves-table

    pub worked_out : (f : Figures) → f ≡ figures_in H g.runs n (take (n * H) left) → Worked H g f lent left
    worked_out f ef = record { figures_are = ef ∙ ap (figures_in H g.runs n) front_is ∙ figures_are; curves_are = e }
