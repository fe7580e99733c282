-- What a reading left in the tables: its choices, its samples by id and its subnets are seen again, so the figures and the curves are those of document 01.
-- Assumes nothing.
use Prim.Native.Nat.{ℕ, ◌+◌, ◌≤◌}
use native.Mathlib.Omega.{arith}
use mathlib.Core.Path.{◌≡◌, refl, sym, ap, ap₂, ◌∙◌, subst}
use mathlib.Core.Bool.{Bool, true, false, cond}
use mathlib.Core.List.{List, [], ◌∷◌, ◌++◌, map, append_assoc}
use lib.Dec.{eqb}
use lib.ListN.{length, take, drop, length-append}
use lib.Seq.{take-append_seam, drop-append_seam}
use lib.IntN.{ℤ}
use Rattle.rules.specs.Limits.{least_horizon, most_horizon, most_subnets, profile_width, track_width}
use Rattle.rules.specs.Lists.{first, over}
use Rattle.rules.specs.Verdict.{All}
use Rattle.rules.specs.Timetable.{Row, legs_from}
use Rattle.rules.specs.Profiles.{Curve, curve_of, profiles_from, sample_table}
use Rattle.rules.specs.Constraints.{subnet_of}
use Rattle.rules.specs.Reading.{Files}
use Rattle.rules.specs.Energy.{tabulate, samples_or, samples_in, homes_of, curves_in, figures_of, curves_of}
use Rattle.rules.specs.Entries.{Tables, written_tables, written_choices}
use Rattle.rules.specs.declared.sizes.Configuration.{Configuration}
use Rattle.rules.specs.declared.sizes.Profile.{Profile}
use Rattle.rules.specs.declared.sizes.Leg.{Leg}
use Rattle.tables_views.specs.View.{leg_at, configurations_in, profiles_in, tracks_in}
use Rattle.tables_views.proofs.Tabulated.{tabulate-map}
use Rattle.tables_views.proofs.Views.{profiles-written, configurations_written, tracks-written}
use Rattle.tables_views.proofs.Offers.{legs_seen}
use Rattle.tables_ids.specs.Column.{Rising}
use Rattle.tables_ids.proofs.Curves.{profiles-length}
use Rattle.rules_theorems.specs.Sized.{Sized, Fits}
use Rattle.rules_theorems.proofs.Bounds.{before_bound, drawn_bound, lost_bound, peak-drawn_bound}
use Rattle.energy_parts.specs.Exact.{Exact}
use Rattle.energy_parts.specs.Seen.{profile_or, profile_seen, part_seen, samples_seen, homes_seen}
use Rattle.energy_figures.specs.Given.{Given, given, chosen, sampled, homes, curves_seen, Readable}
use Rattle.energy_figures.specs.Worked.{figures_by, figures_seen}
use Rattle.energy_parts.specs.declared.runs.Counts.{Counts}
use Rattle.std.specs.Prelude.{Some}

-- ---- profiles and samples

-- the part of the first profile with an id is the samples of the first curve with it
part-read : (id : ℕ) (ahead : List ℤ) (curves : List Curve) (rest : List ℤ)
    → part_seen (ahead ++ (sample_table curves ++ rest)) (profile_or (first (λ p. eqb p.id id) (profiles_from (length ahead) curves))) ≡ samples_or (curve_of curves id)
part-read id ahead [] rest = refl
part-read id ahead (c ∷ curves) rest = go (eqb c.id id) (part-read id (ahead ++ c.samples) curves rest)
  where
    others : List Profile
    others = profiles_from (length ahead + length c.samples) curves

    this : Profile
    this = record { id = c.id; first = length ahead; count = length c.samples }

    same : (ahead ++ c.samples) ++ (sample_table curves ++ rest) ≡ ahead ++ ((c.samples ++ sample_table curves) ++ rest)
    same = append_assoc ahead c.samples (sample_table curves ++ rest) ∙ ap (λ l. ahead ++ l) (sym (append_assoc c.samples (sample_table curves) rest))

    go : (b : Bool)
        → part_seen ((ahead ++ c.samples) ++ (sample_table curves ++ rest)) (profile_or (first (λ p. eqb p.id id) (profiles_from (length (ahead ++ c.samples)) curves))) ≡ samples_or (curve_of curves id)
        → part_seen (ahead ++ ((c.samples ++ sample_table curves) ++ rest)) (profile_or (cond b (Some this) (first (λ p. eqb p.id id) others)))
        ≡ samples_or (cond b (Some c) (curve_of curves id))
    go true ih =
        ap (take (length c.samples)) (drop-append_seam ahead ((c.samples ++ sample_table curves) ++ rest) ∙ append_assoc c.samples (sample_table curves) rest)
        ∙ take-append_seam c.samples (sample_table curves ++ rest)
    go false ih =
        ap₂ (λ l n. part_seen l (profile_or (first (λ p. eqb p.id id) (profiles_from n curves)))) (sym same) (sym (length-append ahead c.samples)) ∙ ih

-- each part lies within the samples
parts_read : (m n : ℕ) (curves : List Curve) → n + length (sample_table curves) ≤ m → All (λ p. p.first + p.count ≤ m) (profiles_from n curves)
parts_read m n [] h = tt
parts_read m n (c ∷ curves) h =
    let e : length (c.samples ++ sample_table curves) ≡ length c.samples + length (sample_table curves) = length-append c.samples (sample_table curves) in
    (omega arith, parts_read m (n + length c.samples) curves (omega arith))

-- ---- rows and tracks

legs-tracks : {B : Type 0} (F : ℕ → B) (n : ℕ) (rows : List Row) → map (λ (l : Leg). F l.track) (legs_from n rows) ≡ map (λ (r : Row). F r.track) rows
legs-tracks F n [] = refl
legs-tracks F n (r ∷ rows) = ap (λ l. F r.track ∷ l) (legs-tracks F (n + length r.list) rows)

-- ---- all tables, as a reading wrote them

-- how many of each there are
pub record Counted (f : Files) (cs : List Configuration) (k : Counts) : Type 0 where
  pub legs : k.legs ≡ length cs
  pub rows : length f.rows ≡ length cs
  pub profiles : k.profiles.count ≡ length f.curves
  pub tracks : k.tracks.count ≡ length f.document.tracks
  pub subnets : k.subnets ≡ f.document.opened

module _ (f : Files) (cs : List Configuration) (k : Counts) (counted : Counted f cs k) (t : Tables) (c : List ℕ) where
  abbrev pub read : Given
  read =
      given k (written_choices cs c) (written_tables f t).legs (written_tables f t).profiles (written_tables f t).samples (written_tables f t).tracks

  choices-read : chosen read.runs ≡ cs
  choices-read = ap (λ n. configurations_in n read.runs.choices) counted.legs ∙ configurations_written cs c

  profiles-read : profiles_in k.profiles.count read.runs.profiles ≡ profiles_from 0 f.curves
  profiles-read =
      ap (λ n. profiles_in n read.runs.profiles) (counted.profiles ∙ sym (profiles-length 0 f.curves))
      ∙ profiles-written (profiles_from 0 f.curves) t.profiles

  samples_read : (id : ℕ) → sampled read.runs id ≡ samples_in f.curves id
  unfolding samples_seen profile_seen over
  samples_read id =
      ap (λ ps. part_seen read.runs.samples (profile_or (first (λ p. eqb p.id id) ps))) profiles-read
      ∙ part-read id [] f.curves (drop (length (sample_table f.curves)) t.samples)

  all_samples : sampled read.runs ≡ samples_in f.curves
  all_samples = λ j id. samples_read id j

  homes-read : homes read ≡ homes_of f.document.tracks f.rows
  unfolding homes_seen
  homes-read =
      ap₂ (λ n ts. tabulate n (λ i. subnet_of ts (leg_at read.legs i).track)) (counted.legs ∙ sym counted.rows)
      (ap (λ n. tracks_in n read.tracks) counted.tracks ∙ tracks-written f.document.tracks t.tracks)
      ∙ tabulate-map (λ (l : Leg). subnet_of f.document.tracks l.track) (length f.rows) (leg_at read.legs)
      ∙ ap (map (λ (l : Leg). subnet_of f.document.tracks l.track)) (legs_seen f.rows t.legs t.configurations)
      ∙ legs-tracks (subnet_of f.document.tracks) 0 f.rows

  -- THE CURVES of the tables are those of the files
  pub curves-read : (H : ℕ) → curves_seen 0 H read ≡ curves_of H f cs
  unfolding curves_seen curves_of
  curves-read H =
      λ j. curves_in (all_samples j) 0 H (counted.subnets j) (homes-read j) (choices-read j)

  -- THE FIGURES too
  pub figures-read : (H : ℕ) → figures_seen H read ≡ figures_of H f cs
  unfolding figures_seen figures_of
  figures-read H = λ j. figures_by H (all_samples j) (homes-read j) (counted.subnets j) (choices-read j)

  -- what a good reading and an accepted solution give is what is asked
  pub reading_readable : (H : ℕ) → least_horizon ≤ H → H ≤ most_horizon → f.document.opened ≤ most_subnets
      → Rising profile_width k.profiles.count k.profiles.rising read.runs.profiles
      → Rising track_width k.tracks.count k.tracks.rising read.tracks
      → Sized (samples_in f.curves) cs → Fits H cs → Readable H read
  unfolding over
  reading_readable H begins ends few profiles tracks sized fits =
      record {
        legs =
            record {
              begins = begins;
              ends = ends;
              rising = profiles;
              parts = rw profiles-read (parts_read (length read.runs.samples) 0 f.curves within);
              sized = subst (λ (p : (ℕ → List ℤ) × List Configuration). Sized p.0 p.1) (sym both) sized;
              fits = rw choices-read fits;
            };
        subnets = rw counted.subnets few;
        rising = tracks;
      }
    where
      both : ◌≡◌ {A = (ℕ → List ℤ) × List Configuration} (sampled read.runs, chosen read.runs) (samples_in f.curves, cs)
      both = λ j. (all_samples j, choices-read j)

      within : 0 + length (sample_table f.curves) ≤ length read.runs.samples
      within = omega (arith, length-append (sample_table f.curves) (drop (length (sample_table f.curves)) t.samples))

-- ---- the desk tool's doubles

-- figures of tables that keep the limits become doubles without loss
pub figures_exact : (H : ℕ) (g : Given) → Readable H g → Exact (figures_seen H g)
unfolding figures_seen
figures_exact H g r =
    let samples : ℕ → List ℤ = sampled g.runs in
    let cs : List Configuration = chosen g.runs in
    let n : ℕ = g.runs.counts.subnets in
    record {
      before = before_bound samples cs r.legs.sized;
      drawn = drawn_bound samples (homes g) n H cs r.legs.sized r.legs.fits;
      lost = lost_bound samples (homes g) n H cs r.legs.sized r.legs.fits;
      peak = peak-drawn_bound samples H cs r.legs.sized r.legs.fits (homes g) n;
    }
