-- One leg of the walk that lays the legs, in the terms of the code: its profile's part of the samples, its subnet, and the table with it. Assumes nothing.
use Prim.Native.Nat.{ℕ, zero, suc, ◌+◌, ◌-◌, ◌≤◌, ◌<◌}
use native.Mathlib.Omega.{arith}
use native.Mathlib.Nat.{le_of_suc-le-suc, not-suc-le-zero}
use mathlib.Core.Path.{◌≡◌, ap, ap₂, ◌∙◌, subst}
use mathlib.Core.Bool.{Bool, true, false, cond}
use mathlib.Core.List.{List, [], ◌∷◌}
use lib.ListN.{length, take, drop}
use lib.IntN.{ℤ}
use Rattle.rules.specs.Limits.{most_legs}
use Rattle.rules.specs.Lists.{first}
use Rattle.rules.specs.Verdict.{All}
use Rattle.rules.specs.Constraints.{subnet_of}
use Rattle.rules.specs.Energy.{tabulate}
use Rattle.rules.specs.declared.sizes.Configuration.{Configuration}
use Rattle.rules.specs.declared.sizes.Leg.{Leg}
use Rattle.rules.specs.declared.sizes.Profile.{Profile}
use Rattle.tables_views.specs.View.{leg_at, configuration_at, profiles_in, tracks_in}
use Rattle.rules_theorems.specs.Sized.{Powered}
use Rattle.rules_theorems.specs.Laying.{laid_home}
use Rattle.rules_theorems.proofs.Tabulate.{tabulate-length}
use Rattle.energy_parts.specs.Seen.{profile_or, profile_seen, samples_seen, home_in}
use Rattle.energy_figures.specs.Given.{Runs, Given, sampled, ReadableRuns}
use Rattle.energy_figures.specs.Legs.{Laying, laid_leg}
use Rattle.energy_curves.specs.Room.{HomeRoom}
use Rattle.energy_curves.proofs.Homes.{home_back}
use Rattle.std.specs.Prelude.{Option, Some, None}

-- ---- of each element, of one

-- what holds of all values of a function holds of each
pub all_tabulated : {A : Type 0} (Q : A → Type 0) (n : ℕ) (f : ℕ → A) → All Q (tabulate n f) → (i : ℕ) → i < n → Q (f i)
all_tabulated Q zero f h i l = absurd (not-suc-le-zero l)
all_tabulated Q (suc n) f h zero l = h.0
all_tabulated Q (suc n) f h (suc i) l = all_tabulated Q n (λ j. f (suc j)) h.1 i (le_of_suc-le-suc l)

-- and of the first that passes a test, or of none
first_keeps : (Q : Profile → Type 0) → Q (profile_or None) → (test : Profile → Bool) (ps : List Profile) → All Q ps → Q (profile_or (first test ps))
first_keeps Q q test [] h = q
first_keeps Q q test (p ∷ ps) h = go (test p) (first_keeps Q q test ps h.1)
  where
    go : (b : Bool) → Q (profile_or (first test ps)) → Q (profile_or (cond b (Some p) (first test ps)))
    go true ih = h.0
    go false ih = ih

-- ---- a profile that was looked up

module _ (H : ℕ) (r : Runs) (readable : ReadableRuns H r) (id : ℕ) (p : Profile) (ep : p ≡ profile_seen r.counts.profiles.count r.profiles id) where
  -- its part of the samples is there
  pub part_there : p.first + p.count ≤ length r.samples
  unfolding profile_seen
  part_there =
      rw ep
      (first_keeps (λ q. q.first + q.count ≤ length r.samples) (omega arith) _ (profiles_in r.counts.profiles.count r.profiles) readable.parts)

  -- and is its samples
  pub part_is : take (p.first + p.count - p.first) (drop p.first r.samples) ≡ sampled r id
  unfolding samples_seen
  part_is =
      let n : p.first + p.count - p.first ≡ p.count = omega arith in
      ap (λ k. take k (drop p.first r.samples)) n ∙ ap (λ (q : Profile). take q.count (drop q.first r.samples)) ep

-- ---- the choice of a leg

module _ (H : ℕ) (r : Runs) (readable : ReadableRuns H r) (i : ℕ) (l : i < r.counts.legs) where
  pub leg_powered : Powered (sampled r) (configuration_at r.choices i)
  leg_powered = all_tabulated (Powered (sampled r)) r.counts.legs (configuration_at r.choices) readable.sized.powered i l

  pub leg-fits : (configuration_at r.choices i).departure + (configuration_at r.choices i).travel ≤ H
  leg-fits = all_tabulated (λ c. c.departure + c.travel ≤ H) r.counts.legs (configuration_at r.choices) readable.fits i l

  pub few_legs : r.counts.legs ≤ most_legs
  few_legs = subst (λ n. n ≤ most_legs) (tabulate-length r.counts.legs (configuration_at r.choices)) readable.sized.few

-- ---- the table

module _ (H from size : ℕ) (g : Given) (i : ℕ) (P : List ℤ) (s : Laying H from size g i P)
    (c : Configuration) (ec : c ≡ configuration_at g.runs.choices i)
    (p : Profile) (ep : p ≡ profile_seen g.runs.counts.profiles.count g.runs.profiles c.profile) where
  abbrev part : List ℤ
  part = take (p.first + p.count - p.first) (drop p.first g.runs.samples)

  part-chosen : part ≡ sampled g.runs (configuration_at g.runs.choices i).profile
  part-chosen = part_is H g.runs s.readable.legs c.profile p ep ∙ ap (λ (x : Configuration). sampled g.runs x.profile) ec

  pub leg_room : i < g.runs.counts.legs → HomeRoom from size g.runs.counts.subnets P part
  leg_room l =
      record {
        early = omega (arith, s.window, s.readable.legs.ends);
        rows = omega (arith, s.rows);
        add =
            record {
              low = λ k. omega (arith, s.small k, few_legs H g.runs s.readable.legs i l);
              moderate = rw part-chosen (leg_powered H g.runs s.readable.legs i l).moderate;
            };
      }

  pub leg-laid : (leg : Leg) → leg ≡ leg_at g.legs i → (home : Option ℕ) → home ≡ (subnet_of (tracks_in g.runs.counts.tracks.count g.tracks) leg.track)
      → (P' : List ℤ) → P' ≡ laid_home from size g.runs.counts.subnets (home_in home) c.departure part P → P' ≡ laid_leg from size g i P
  unfolding laid_leg
  leg-laid leg el home eh P' e =
      let there : home_in home ≡ subnet_of (tracks_in g.runs.counts.tracks.count g.tracks) (leg_at g.legs i).track
      = ap home_in eh
      ∙ home_back (subnet_of (tracks_in g.runs.counts.tracks.count g.tracks) leg.track)
      ∙ ap (λ (x : Leg). subnet_of (tracks_in g.runs.counts.tracks.count g.tracks) x.track) el in
      e
      ∙ ap (λ u. laid_home from size g.runs.counts.subnets u c.departure part P) there
      ∙ ap₂ (λ t xs. laid_home from size g.runs.counts.subnets (subnet_of (tracks_in g.runs.counts.tracks.count g.tracks) (leg_at g.legs i).track) t xs P)
      (ap (λ (x : Configuration). x.departure) ec) part-chosen
