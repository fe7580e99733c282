-- Tables that an accepted solution's texts left are what the energies ask for, and what is worked out of them is document 01's. Assumes nothing.
use Prim.Native.Nat.{ℕ, ◌*◌, ◌≤◌, ◌<◌}
use mathlib.Core.Bool.{true, false}
use lib.Dec.{leb}
use borrow.Author.Tests.{le-leb, lt-leb}
use native.Mathlib.Omega.{arith}
use mathlib.Core.Path.{◌≡◌, refl, sym, ap, ◌∙◌, subst}
use mathlib.Core.List.{List}
use native.Mathlib.Nat.{mul-le-mul}
use lib.ListN.{length}
use lib.IntN.{ℤ}
use Rattle.rules.specs.Limits.{profile_width, track_width, most_subnets, least_horizon, most_horizon}
use Rattle.rules.specs.Answers.{refusal, no_room, no_file, good, solution_file}
use Rattle.rules.specs.Lists.{over}
use Rattle.rules.specs.Profiles.{profiles_from, profile_numbers}
use Rattle.rules.specs.Constraints.{track_numbers}
use Rattle.rules.specs.Reading.{leg_ids, files_of}
use Rattle.rules.specs.Tally.{no_tests}
use Rattle.rules.specs.Energy.{figures_of, curves_of, desk_of}
use Rattle.rules.specs.Entries.{rooms_of, Whole}
use Rattle.rules.specs.declared.answers.Refusal.{Refusal}
use Rattle.rules.specs.declared.answers.Tally.{Tally}
use Rattle.rules.specs.declared.answers.Answer.{Answer}
use Rattle.rules.specs.declared.answers.Answer.TheVariants.{Accepted, Refused}
use Rattle.rules.specs.declared.figures.Figures.{Figures}
use Rattle.rules.specs.declared.figures.Desk.{Desk}
use Rattle.rules.specs.declared.outcomes.Report.{Report}
use Rattle.tables_ids.specs.Column.{Records, Rising}
use Rattle.tables_ids.proofs.Curves.{profiles-length}
use Rattle.files_tests.proofs.Holding.{front_records}
use Rattle.rules_theorems.specs.Sized.{SizedFiles}
use Rattle.rules_theorems.proofs.Sized.{accepted_sized}
use Rattle.rules_theorems.specs.Files.{ByAutomaton, GoodFiles}
use Rattle.rules_theorems.proofs.GoodFiles.{files_good, all_good}
use Rattle.rules_theorems.proofs.Documents.{good_is_lawful}
use Rattle.verdict.proofs.GoodReading.{choices_many}
use Rattle.energy_parts.specs.declared.runs.Counts.{Counts}
use Rattle.energy_parts.specs.Exact.{Exact}
use Rattle.energy_figures.specs.Given.{given, curves_seen, Readable}
use Rattle.energy_figures.specs.Worked.{figures_seen, Worked}
use Rattle.energy_figures.proofs.Reading.{Counted, read as read-tables, curves-read, figures-read, reading_readable, figures_exact}
use Rattle.tables_lent.specs.declared as filed
use Rattle.energy_report.specs.Promise.{no_report}
use Rattle.energy_report.specs.Left.{Left, Risen, Roomy, WorkedOut, Tested}

module _ {H : ℕ} {counts : filed.Counts.Counts} {choices legs profiles : List ℕ} {samples : List ℤ} {tracks : List ℕ}
    (l : Left H counts choices legs profiles samples tracks) where
  abbrev w : Whole
  w = l.whole

  -- the profiles and the tracks that were counted stand in their tables
  pub left-profiles : Records profile_width counts.profiles profiles
  left-profiles =
      front_records profile_numbers profile_width (omega arith) (λ p. refl) (profiles_from 0 w.files.curves) l.lent.profiles
      (ap (λ c. c.profiles) l.counted ∙ sym (profiles-length 0 w.files.curves)) l.profiles_are

  pub left-tracks : Records track_width counts.tracks tracks
  left-tracks =
      front_records track_numbers track_width (omega arith) (λ t. refl) w.files.document.tracks l.lent.tracks (ap (λ c. c.tracks) l.counted) l.tracks_are

  module _ {k : Counts} (n : Risen counts profiles tracks k) where
    abbrev read : files_of l.stated l.texts (rooms_of l.lent) ≡ good w.files
    read = (all_good l.stated l.texts l.solution (rooms_of l.lent) (length l.lent_choices) w l.read).0

    rows_many : length w.choices ≡ length w.files.rows
    rows_many =
        choices_many l.stated l.texts (rooms_of l.lent) w.files read solution_file (length l.lent_choices) l.solution w.choices
        (all_good l.stated l.texts l.solution (rooms_of l.lent) (length l.lent_choices) w l.read).1

    counted : Counted w.files w.choices k
    counted =
        record {
          legs = n.legs ∙ ap (λ c. c.legs) l.counted ∙ sym rows_many;
          rows = sym rows_many;
          profiles = n.profiles_many ∙ ap (λ c. c.profiles) l.counted;
          tracks = n.tracks_many ∙ ap (λ c. c.tracks) l.counted;
          subnets = n.subnets ∙ ap (λ c. c.subnets) l.counted;
        }

    -- the tables, as they were left, are those of the reading
    same : given k choices legs profiles samples tracks ≡ read-tables w.files w.choices k counted l.lent l.lent_choices
    same = λ j. given k (l.choices_are j) (l.legs_are_lem j) (l.profiles_are j) (l.samples_are j) (l.tracks_are j)

    -- what the energies ask for
    pub left_readable : Readable H (given k choices legs profiles samples tracks)
    left_readable =
        let g = files_good l.stated l.texts (rooms_of l.lent) w.files read in
        let range = subst (λ (h : ℕ). (least_horizon ≤ h) × (h ≤ most_horizon)) l.at g.horizon in
        let sizes = subst (λ (h : ℕ). SizedFiles h w.files w.choices) l.at
        (accepted_sized l.stated l.texts l.solution (rooms_of l.lent) (length l.lent_choices) w l.read l.fair) in
        let few = (good_is_lawful (leg_ids w.files.rows) _ _ _ l.texts.constraints w.files.document g.constraints).tables.subnets_in_limit in
        subst (Readable H) (sym same)
        (reading_readable w.files w.choices k counted l.lent l.lent_choices H range.0 range.1 few
        (subst (Rising profile_width k.profiles.count k.profiles.rising) l.profiles_are n.profiles_rise)
        (subst (Rising track_width k.tracks.count k.tracks.rising) l.tracks_are n.tracks_rise) sizes.sized sizes.fits)

    -- what they give
    module _ {r : Figures} {p p' : List ℤ} (worked : Worked H (given k choices legs profiles samples tracks) r p p') where
      pub worked-figures : r ≡ figures_of H w.files w.choices
      worked-figures =
          worked.figures_are ∙ ap (figures_seen H) same ∙ figures-read w.files w.choices k counted l.lent l.lent_choices H

      worked-curves : p' ≡ over (curves_of H w.files w.choices) p
      worked-curves =
          worked.curves_are ∙ ap (λ g. over (curves_seen 0 H g) p) same
          ∙ ap (λ c. over c p) (curves-read w.files w.choices k counted l.lent l.lent_choices H)

      pub worked_exact : Exact r
      worked_exact = subst Exact (sym worked.figures_are) (figures_exact H (given k choices legs profiles samples tracks) left_readable)

      pub worked_out : {n : Tally} {d : Desk} {a : Answer} → a ≡ Accepted → d ≡ desk_of r → WorkedOut H n w p (record { answer = a; tally = n; figures = r; desk = d }) p'
      worked_out e q = record { answer = e; tally = refl; figures = worked-figures; desk = q ∙ ap desk_of worked-figures; curves = worked-curves }

-- the curves' room, by either count of the subnets
pub risen_room : {H : ℕ} {counts : filed.Counts.Counts} {choices legs profiles : List ℕ} {samples : List ℤ} {tracks : List ℕ} {p : List ℤ} {k : Counts}
    → Roomy H counts choices legs profiles samples tracks p → Risen counts profiles tracks k → k.subnets * H ≤ length p
risen_room r n = rw n.subnets r.room

-- ---- the test for room

module _ {H : ℕ} {counts : filed.Counts.Counts} {choices legs profiles : List ℕ} {samples : List ℤ} {tracks : List ℕ}
    (l : Left H counts choices legs profiles samples tracks) where
  abbrev good_files : GoodFiles ByAutomaton l.stated l.texts (rooms_of l.lent) l.whole.files
  good_files = files_good l.stated l.texts (rooms_of l.lent) l.whole.files (all_good l.stated l.texts l.solution (rooms_of l.lent) (length l.lent_choices) l.whole l.read).0

  -- the greatest curve table is not long
  pub left-small : counts.subnets * H ≤ most_subnets * most_horizon
  left-small =
      let few = (good_is_lawful (leg_ids l.whole.files.rows) _ _ _ l.texts.constraints l.whole.files.document good_files.constraints).tables.subnets_in_limit in
      let many : counts.subnets ≤ most_subnets = rw (ap (λ c. c.subnets) l.counted) few in
      mul-le-mul many (rw l.at at good_files.horizon.1)

  needed : counts.subnets * H ≡ l.whole.files.document.opened * H
  needed = ap (λ c. c.subnets * H) l.counted

  pub tested_short : {tally : Tally} {p p' : List ℤ} {r : Report} {x : Refusal} {n : Tally} → length p < counts.subnets * H → x ≡ refusal no_room no_file 0 → n ≡ no_tests → r ≡ no_report (Refused x) n
      → Tested (leb (l.whole.files.document.opened * H) (length p)) H tally l.whole l.lent l.lent_choices p r p'
  tested_short {tally} {p} {p'} {r} h q none e =
      subst (λ fits. Tested fits H tally l.whole l.lent l.lent_choices p r p')
      (sym (lt-leb (l.whole.files.document.opened * H) (length p) (omega (arith, needed))))
      (rw (e, q, none) (record { answer = refl; tally = refl; figures = refl; desk = refl; curves = λ z. absurd (never z) }))
    where
      never : false ≡ true → ⊥
      never z = let q : ◌≡◌ {A = ℕ} 0 1 = cc in omega arith

  pub tested_right : {tally : Tally} {p p' : List ℤ} {r : Report} → counts.subnets * H ≤ length p → WorkedOut H tally l.whole p r p'
      → Tested (leb (l.whole.files.document.opened * H) (length p)) H tally l.whole l.lent l.lent_choices p r p'
  tested_right {tally} {p} {p'} {r} h k =
      subst (λ fits. Tested fits H tally l.whole l.lent l.lent_choices p r p')
      (sym (le-leb (l.whole.files.document.opened * H) (length p) (omega (arith, needed))))
      (record { answer = k.answer; tally = k.tally; figures = k.figures; desk = k.desk; curves = λ z. k.curves })
