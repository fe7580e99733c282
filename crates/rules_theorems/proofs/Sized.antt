-- What reading gives of an accepted solution, and so how great its figures and curves can be, and those of every report. Assumes nothing.
use Prim.Native.Nat.{ℕ, ◌+◌, ◌*◌, ◌/◌, ◌%◌, ◌≤◌}
use mathlib.Core.Path.{◌≡◌, refl, ◌∙◌}
use mathlib.Core.Bool.{Bool, true, false, cond}
use mathlib.Core.List.{List, [], ◌∷◌}
use native.Mathlib.Omega.{arith}
use lib.Dec.{T, leb, eqb}
use lib.ListN.{length, length-map}
use lib.IntN.{ℤ, nat_abs}
use Rattle.std.specs.Prelude.{is_some, Some}
use Rattle.rules.specs.Answers.{Reading, refused, good}
use Rattle.rules.specs.Timetable.{Row}
use Rattle.rules.specs.Profiles.{Curve}
use Rattle.rules.specs.Constraints.{subnet_of, ordered}
use Rattle.rules.specs.Reading.{Rooms, Texts, Files, leg_ids}
use Rattle.rules.specs.Verdict.{All, offered, Offered, Finding, accepted, violated}
use Rattle.rules.specs.Energy.{samples_in, homes_of, power, before_at, drawn_at, figures_of, curves_of}
use Rattle.rules.specs.Entries.{Tables, rooms_of, verdict_of, Whole, all_read, no_figures, report_accepted, report_judged, report_from, reported}
use Rattle.rules.specs.declared.stated.Stated.{Stated}
use Rattle.rules.specs.declared.answers.Tally.{Tally}
use Rattle.rules.specs.declared.sizes.Configuration.{Configuration}
use Rattle.rules.specs.declared.sizes.Track.{Track}
use Rattle.rules.proofs.Truth.{all_map}
use Rattle.rules_theorems.specs.WellFormed.{InRange, KeptRow, KeptCurve}
use Rattle.rules_theorems.specs.LawfulDocument.{LawfulTrack}
use Rattle.rules_theorems.specs.Files.{HasProfile, HasSubnet, ByAutomaton, GoodFiles}
use Rattle.rules_theorems.specs.Sized.{most_power, Powered, IsPlaced, SizedFiles, Moderate, Quartered, BoundedFigures}
use Rattle.rules_theorems.proofs.All.{all_mapped, first_keeps}
use Rattle.rules_theorems.proofs.Tabulate.{tabulate_all}
use Rattle.rules_theorems.proofs.LawfulRows.{rows_kept, legs_most, curves_kept}
use Rattle.rules_theorems.proofs.Chosen.{choices_keep, offered-length}
use Rattle.rules_theorems.proofs.Documents.{good_is_lawful}
use Rattle.rules_theorems.proofs.GoodFiles.{files_good, all_good}
use Rattle.rules_theorems.proofs.Verdicts.{verdict_accepted}
use Rattle.rules_theorems.proofs.Energies.{before-seconds, drawn-seconds}
use Rattle.rules_theorems.proofs.Quarters.{quarters_whole, peak-begun}
use Rattle.rules_theorems.proofs.Recuperation.{drawn_and_returned}
use Rattle.rules_theorems.proofs.Bounds.{power_bound, fluctuation_bound, before_bound, drawn_bound, lost_bound, peak-before_bound, peak-drawn_bound}

-- ---- each entry of each list has its samples

module _ (H : ℕ) (curves : List Curve) (kept : All KeptCurve curves) where
  entry_powered : (c : Configuration) → InRange H c → HasProfile curves c → Powered (samples_in curves) c
  entry_powered c h p =
      let sizes = (first_keeps KeptCurve (λ x. eqb x.id c.profile) curves p.curve kept p.exists).sizes in
      record { brief = h.travel_most; counted = rw p.exists p.counted; moderate = rw p.exists sizes }

  list_powered : (l : List Configuration) → All (InRange H) l → All (HasProfile curves) l → All (Powered (samples_in curves)) l
  list_powered [] h p = tt
  list_powered (c ∷ l) h p = (entry_powered c h.0 p.0, list_powered l h.1 p.1)

  rows_powered : (rows : List Row) → All (KeptRow H) rows → All (λ r. All (HasProfile curves) r.list) rows → All (λ r. All (Powered (samples_in curves)) r.list) rows
  rows_powered [] h p = tt
  rows_powered (r ∷ rows) h p = (list_powered r.list h.0.list_in p.0, rows_powered rows h.1 p.1)

-- ---- 15: each row's track stands in one of the subnets that were opened

track_placed : (n : ℕ) (ts : List Track) (track : ℕ) → All (LawfulTrack n) ts → T (is_some (subnet_of ts track)) → IsPlaced n (subnet_of ts track)
track_placed n [] track h there = absurd there
track_placed n (t ∷ ts) track h there = go (eqb t.id track) there (track_placed n ts track h.1)
  where
    go : (b : Bool) → T (is_some (cond b (Some t.subnet) (subnet_of ts track))) → (T (is_some (subnet_of ts track)) → IsPlaced n (subnet_of ts track))
        → IsPlaced n (cond b (Some t.subnet) (subnet_of ts track))
    go true there ih = h.0.subnet_is_there
    go false there ih = ih there

row-placed : (n : ℕ) (ts : List Track) → All (LawfulTrack n) ts → (r : Row) → HasSubnet ts r → IsPlaced n (subnet_of ts r.track)
row-placed n ts h r p = track_placed n ts r.track h (rw p.inside tt)

-- ---- of files that were read without refusal

module _ (S : Stated) (x : Texts) (room : Rooms) (f : Files) (g : GoodFiles ByAutomaton S x room f) (s : List Configuration) (o : Offered (offered f.rows) s) where
  -- offered choices
  offered_sized : SizedFiles S.horizon f s
  offered_sized =
      let lawful = g.timetable.lawful in
      let kept = rows_kept S.horizon f.rows lawful in
      let document = good_is_lawful (leg_ids f.rows) _ _ _ x.constraints f.document g.constraints in
      let many : length f.rows ≡ length s = offered-length f.rows s o in
      record {
        horizon = g.horizon;
        sized = record {
          few = rw (← many) (legs_most S.horizon f.rows lawful);
          powered =
              choices_keep (Powered (samples_in f.curves)) f.rows s o
              (rows_powered S.horizon f.curves (curves_kept _ _ f.curves g.profiles.lawful) f.rows kept g.powered);
        };
        fits =
            choices_keep (λ c. c.departure + c.travel ≤ S.horizon) f.rows s o
            (all_map (KeptRow S.horizon) _ (λ r k. all_map (InRange S.horizon) _ (λ c h. h.ends) r.list k.list_in) f.rows kept);
        placed = (
          length-map f.rows _ ∙ many,
          all_mapped (IsPlaced f.document.opened) (λ r. subnet_of f.document.tracks r.track) f.rows
              (all_map (HasSubnet f.document.tracks) _ (row-placed f.document.opened f.document.tracks document.tables.tracks_lawful.each)
              f.rows g.placed),
        );
      }

-- an accepted solution: an H in range; few legs, each with its samples; runs that end by H; and a subnet for each leg
pub accepted_sized : (S : Stated) (x : Texts) (s : List ℕ) (room : Rooms) (choices : ℕ) (w : Whole) → all_read S x s room choices ≡ good w
    → (verdict_of w.files w.choices).finding ≡ accepted → SizedFiles S.horizon w.files w.choices
accepted_sized S x s room choices w e v =
    offered_sized S x room w.files (files_good S x room w.files (all_good S x s room choices w e).0) w.choices
    ((verdict_accepted (offered w.files.rows) (ordered w.files.document.constraints) w.choices).1 v).offered

-- ---- the figures

sized_quarters : (H : ℕ) (f : Files) (cs : List Configuration) → SizedFiles H f cs → Quartered H f cs
unfolding figures_of
sized_quarters H f cs k =
    let samples = samples_in f.curves in
    let homes = homes_of f.document.tracks f.rows in
    let n = f.document.opened in
    let draws : ℕ → ℕ = drawn_at samples homes n cs in
    record {
      before = quarters_whole (before_at samples cs) H k.horizon.1 ∙ before-seconds samples H cs k.sized k.fits;
      drawn = quarters_whole draws H k.horizon.1 ∙ drawn-seconds samples homes n cs H;
      before_begun = peak-begun (before_at samples cs) H k.horizon.0;
      drawn_begun = peak-begun draws H k.horizon.0;
    }

sized_figures : (H : ℕ) (f : Files) (cs : List Configuration) → SizedFiles H f cs → BoundedFigures H f cs
unfolding figures_of curves_of
sized_figures H f cs k =
    let samples = samples_in f.curves in
    let homes = homes_of f.document.tracks f.rows in
    let n = f.document.opened in
    record {
      figures = record {
        before = before_bound samples cs k.sized;
        drawn = drawn_bound samples homes n H cs k.sized k.fits;
        lost = lost_bound samples homes n H cs k.sized k.fits;
        fluctuation = fluctuation_bound samples homes cs k.sized n H;
        peak_before = peak-before_bound samples H cs k.sized k.fits;
        peak_drawn = peak-drawn_bound samples H cs k.sized k.fits homes n;
      };
      curves = tabulate_all (λ p. nat_abs p ≤ most_power) (n * H) (λ i. power samples homes cs (i / H) (0 + i % H)) (λ i. power_bound samples homes cs k.sized (i / H) (0 + i % H));
      quarters = sized_quarters H f cs k;
      balance = drawn_and_returned samples n H homes cs k.sized k.fits k.placed;
    }

-- of an accepted solution: every energy is at most 2,359,296,000,000 kJ, and every power at most 655,360,000 kW
pub figures_bounded : (S : Stated) (x : Texts) (s : List ℕ) (room : Rooms) (choices : ℕ) (w : Whole) → all_read S x s room choices ≡ good w
    → (verdict_of w.files w.choices).finding ≡ accepted → BoundedFigures S.horizon w.files w.choices
figures_bounded S x s room choices w e v = sized_figures S.horizon w.files w.choices (accepted_sized S x s room choices w e v)

none_moderate : Moderate no_figures
none_moderate =
    record { before = omega arith; drawn = omega arith; lost = omega arith; fluctuation = omega arith; peak_before = omega arith; peak_drawn = omega arith }

-- whatever the input, a report's figures keep these bounds: short of acceptance they are 0
pub report_bounded : (S : Stated) (x : Texts) (s : List ℕ) (t : Tables) (c : List ℕ) (p : List ℤ) → Moderate (reported S x s t c p).figures
unfolding reported
report_bounded S x s t c p = go (all_read S x s (rooms_of t) (length c)) refl
  where
    fitted : (w : Whole) (fits : Bool) (n : Tally) → BoundedFigures S.horizon w.files w.choices → Moderate (report_accepted fits S.horizon n w t c p).figures
    fitted w true tally b = b.figures
    fitted w false tally b = none_moderate

    judged : (w : Whole) (v : Finding) (n : Tally) → (v ≡ accepted → BoundedFigures S.horizon w.files w.choices) → Moderate (report_judged v S.horizon n w t c p).figures
    judged w accepted tally b = fitted w (leb (w.files.document.opened * S.horizon) (length p)) tally (b refl)
    judged w (violated v) tally b = none_moderate

    go : (m : Reading Whole) → all_read S x s (rooms_of t) (length c) ≡ m → Moderate (report_from m S.horizon t c p).figures
    go (refused r) e = none_moderate
    go (good w) e = judged w (verdict_of w.files w.choices).finding (verdict_of w.files w.choices).tally (figures_bounded S x s (rooms_of t) (length c) w e)
