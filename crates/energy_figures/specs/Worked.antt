-- The figures: of the curve table and the runs, as the code takes them, and of all tables, as document 01 defines them.
use Rattle.std.specs.Prelude.{ℕ, ◌≡◌, List, ℤ, Option}
use Rattle.rules.specs.Lists.{over}
use Rattle.rules.specs.Energy.{before, before_at, drawn, drawn_at, lost, fluctuation, peak_of}
use Rattle.rules.specs.declared.sizes.Configuration.{Configuration}
use Rattle.rules.specs.declared.figures.Figures.{Figures}
use Rattle.energy_parts.specs.Parts.{sides_of}
use Rattle.energy_parts.specs.Quarters.{greatest_sum}
use Rattle.energy_curves.specs.Curves.{quarters_in, fluctuation_in}
use Rattle.energy_figures.specs.Before.{before_sums}
use Rattle.energy_figures.specs.Given.{Runs, Given, chosen, sampled, homes, curves_seen}

-- P: the curve table of n subnets
unfoldable pub figures_in : (H : ℕ) → Runs → (n : ℕ) → (P : List ℤ) → Figures
figures_in H r n P =
    record {
      before = (before_sums H r r.counts.legs).whole;
      drawn = (sides_of P).above;
      lost = (sides_of P).below;
      fluctuation = fluctuation_in H P n;
      peaks =
          record {
            before = greatest_sum (before_sums H r r.counts.legs).quarters;
            drawn = greatest_sum (quarters_in H P n);
          };
    }

-- document 01's, of the samples by id, each row's subnet, n subnets and the choices
abbrev pub figures_by : (H : ℕ) → (samples : ℕ → List ℤ) → (homes : List (Option ℕ)) → (n : ℕ) → List Configuration → Figures
figures_by H samples homes n cs =
    record {
      before = before samples cs;
      drawn = drawn samples homes n cs H;
      lost = lost samples homes n cs H;
      fluctuation = fluctuation samples homes n cs H;
      peaks = record { before = peak_of (before_at samples cs) H; drawn = peak_of (drawn_at samples homes n cs) H };
    }

unfoldable pub figures_seen : (H : ℕ) → Given → Figures
figures_seen H g = figures_by H (sampled g.runs) (homes g) g.runs.counts.subnets (chosen g.runs)

-- WHAT IS PROMISED: the figures, and the curves at the front of the lent table, whose rest keeps its contents
pub record Worked (H : ℕ) (g : Given) (figures : Figures) (lent left : List ℤ) : Type 0 where
  pub figures_are : figures ≡ figures_seen H g
  pub curves_are : left ≡ over (curves_seen 0 H g) lent
