-- The walk that lays the legs: from a table of zeros it makes the curve table, and no number leaves its bound on the way. Assumes nothing.
use Prim.Native.Nat.{ℕ, ◌+◌, ◌*◌, ◌≤◌, ◌<◌}
use native.Mathlib.Omega.{arith}
use native.Mathlib.Numerals.{add-one}
use mathlib.Core.Path.{◌≡◌, refl, sym, ap, ap₂, ◌∙◌}
use mathlib.Core.List.{List, ◌++◌}
use lib.ListN.{length, take, drop, replicate, length-replicate}
use lib.IntN.{ℤ, pos}
use Rattle.rules.specs.Limits.{most_kw}
use Rattle.rules.specs.Lists.{over}
use Rattle.rules.specs.Entries.{filled}
use Rattle.tables_views.specs.View.{configuration_at}
use Rattle.tables_views.proofs.Tabulated.{tabulate_from, tabulate-past}
use Rattle.rules_theorems.specs.Laying.{laid_all}
use Rattle.rules_theorems.proofs.Laying.{home_length, curves-laid}
use Rattle.rules_theorems.proofs.Headroom.{zeros_within, home_within}
use lib.Seq.{length-take-le}
use Rattle.rules_theorems.proofs.Tabulate.{tabulate-length}
use Rattle.energy_parts.specs.Seen.{home_seen, homes_seen}
use Rattle.energy_figures.specs.Given.{Given, chosen, sampled, homes, curves_seen, Readable}
use Rattle.energy_figures.specs.Legs.{Laying, laid_leg, laid_legs}
use Rattle.energy_figures.proofs.LegSteps.{leg_powered}

-- i legs are laid: the others, laid, give the whole
pub record Walked (H from size : ℕ) (g : Given) (P₀ P : List ℤ) (i : ℕ) : Type 0 where
  pub within : i ≤ g.runs.counts.legs
  pub laying : Laying H from size g i P
  pub rest : laid_all from size (sampled g.runs) g.runs.counts.subnets (drop i (homes g)) (drop i (chosen g.runs)) P ≡ laid_legs from size g P₀

module _ (H from size : ℕ) (g : Given) (P₀ : List ℤ) where
  pub walk_begins : Laying H from size g 0 P₀ → Walked H from size g P₀ P₀ 0
  unfolding laid_legs
  walk_begins s = record { within = omega arith; laying = s; rest = refl }

  module _ (P : List ℤ) (i : ℕ) (w : Walked H from size g P₀ P i) where
    pub walk_ends : g.runs.counts.legs ≤ i → P ≡ laid_legs from size g P₀
    unfolding homes_seen
    walk_ends h =
        sym
        (ap₂ (λ us cs. laid_all from size (sampled g.runs) g.runs.counts.subnets us cs P)
        (tabulate-past g.runs.counts.legs (home_seen g.runs.counts.tracks.count g.legs g.tracks) i h)
        (tabulate-past g.runs.counts.legs (configuration_at g.runs.choices) i h))
        ∙ w.rest

    pub leg_laying : i < g.runs.counts.legs → (P' : List ℤ) → P' ≡ laid_leg from size g i P → Walked H from size g P₀ P' (i + 1)
    unfolding laid_leg homes_seen
    leg_laying h P' e =
        let u = home_seen g.runs.counts.tracks.count g.legs g.tracks i in
        let t : ℕ = (configuration_at g.runs.choices i).departure in
        let xs : List ℤ = sampled g.runs (configuration_at g.runs.choices i).profile in
        rw e
        (record {
          within = omega arith;
          laying =
              record {
                readable = w.laying.readable;
                window = w.laying.window;
                rows = home_length from size (sampled g.runs) g.runs.counts.subnets u t xs P ∙ w.laying.rows;
                small = rw more (home_within from size (sampled g.runs) g.runs.counts.subnets (i * most_kw) u t xs P (leg_powered H g.runs w.laying.readable.legs i h).moderate w.laying.small);
              };
          rest =
              ap₂ (λ us cs. laid_all from size (sampled g.runs) g.runs.counts.subnets us cs (laid_leg from size g i P))
              (ap (λ k. drop k (homes g)) (add-one i)) (ap (λ k. drop k (chosen g.runs)) (add-one i))
              ∙ sym
              (ap₂ (λ us cs. laid_all from size (sampled g.runs) g.runs.counts.subnets us cs P)
              (tabulate_from g.runs.counts.legs (home_seen g.runs.counts.tracks.count g.legs g.tracks) i h)
              (tabulate_from g.runs.counts.legs (configuration_at g.runs.choices) i h))
              ∙ w.rest;
        })
      where
        more : (i + 1) * most_kw ≡ i * most_kw + most_kw
        more = omega arith

-- ---- from zeros

module _ (H from size : ℕ) (g : Given) (readable : Readable H g) (window : from + size ≤ H) (P₀ P : List ℤ)
    (long : length P₀ ≡ g.runs.counts.subnets * size) (zeros : P ≡ filled (pos 0) P₀) where
  -- a cleared table: no leg is laid yet
  pub cleared : Laying H from size g 0 P
  cleared =
      rw zeros
      (record {
        readable = readable;
        window = window;
        rows = length-replicate (length P₀) (pos 0) ∙ long;
        small = λ i. omega (arith, zeros_within (length P₀) i);
      })

  -- all legs, laid into it, give the curves
  pub curves-made : (P' : List ℤ) → P' ≡ laid_legs from size g P → P' ≡ curves_seen from size g
  unfolding laid_legs curves_seen
  curves-made P' e =
      e
      ∙ ap (laid_legs from size g) (zeros ∙ ap (λ n. replicate n (pos 0)) long)
      ∙ curves-laid from size (sampled g.runs) g.runs.counts.subnets (homes g) (chosen g.runs) readable.legs.sized

-- ---- at the front of a longer table

pub curves-length : (from size : ℕ) (g : Given) → length (curves_seen from size g) ≡ g.runs.counts.subnets * size
unfolding curves_seen
curves-length from size g = tabulate-length (g.runs.counts.subnets * size) _

pub front_long : (n : ℕ) (t : List ℤ) → n ≤ length t → n ≡ length (take n t)
front_long n t h = sym (length-take-le n t h)

pub front_made : (from size : ℕ) (g : Given) (front t : List ℤ) → front ≡ curves_seen from size g
    → front ++ drop (g.runs.counts.subnets * size) t ≡ over (curves_seen from size g) t
unfolding over
front_made from size g front t e =
    ap (λ l. l ++ drop (g.runs.counts.subnets * size) t) e ∙ ap (λ n. curves_seen from size g ++ drop n t) (sym (curves-length from size g))
