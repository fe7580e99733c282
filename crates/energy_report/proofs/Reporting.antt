-- From an answer over texts that were read and judged to a report's promise. Assumes nothing.
use Prim.Native.Nat.{ℕ, ◌*◌}
use mathlib.Core.Path.{◌≡◌, refl, sym, ap, ◌∙◌}
use mathlib.Core.Bool.{Bool, true, false}
use mathlib.Core.List.{List}
use native.Mathlib.Omega.{arith}
use lib.Dec.{leb}
use lib.ListN.{length}
use Rattle.std.specs.Prelude.{Some, is_some}
use Rattle.tables_lent.specs.declared.Counts.{Counts}
use lib.IntN.{ℤ}
use Rattle.rules.specs.Answers.{is_refusal, is_accepted, Reading, refused, good}
use Rattle.rules.specs.Reading.{Texts}
use Rattle.rules.specs.Verdict.{accepted}
use Rattle.rules.specs.Entries.{Tables, rooms_of, verdict_of, Whole, all_read, checked_from, checked, Reported, report_accepted, reported}
use Rattle.rules.specs.declared.stated.Stated.{Stated}
use Rattle.rules.specs.declared.answers.Answer.{Answer}
use Rattle.rules.specs.declared.answers.Answer.TheVariants.{Accepted, Violated, Refused}
use Rattle.rules.specs.declared.answers.Tally.{Tally}
use Rattle.rules.specs.declared.outcomes.Report.{Report}
use Rattle.rules_theorems.proofs.DemandTwo.{accepted_read, checked-tally}
use Rattle.checker_judge.specs.declared.Judged.{Judged}
use Rattle.checker_judge.specs.Promise.{ReadAndJudged}
use Rattle.energy_report.specs.Promise.{no_report, ReportRead}
use Rattle.energy_report.specs.Left.{Left, Tested, Tests}
use Rattle.energy_report.proofs.Cases.{Short, report_short, report-fits}

is_accepted_lem : (a : Answer) → is_accepted a ≡ true → a ≡ Accepted
is_accepted_lem Accepted e = refl
is_accepted_lem (Violated v) e = let z : ◌≡◌ {A = ℕ} 0 1 = cc in absurd (omega arith)
is_accepted_lem (Refused r) e = let z : ◌≡◌ {A = ℕ} 0 1 = cc in absurd (omega arith)

-- t, c: as they were lent; t', c': as reading left them
module _ {S : Stated} {x : Texts} {s : List ℕ} {t : Tables} {c : List ℕ} {j : Judged} {t' : Tables} {c' : List ℕ} (read : ReadAndJudged S x s t c j t' c') where
  abbrev a : Answer
  a = j.answer

  -- no refusal: the tables are a check's
  tables_kept : is_refusal a ≡ false → (t' ≡ (checked S x s t c).tables) × (c' ≡ (checked S x s t c).choices)
  unfolding checked
  tables_kept h = go (all_read S x s (rooms_of t) (length c)) refl (ap is_refusal (sym read.answers) ∙ h)
    where
      go : (m : Reading Whole) → all_read S x s (rooms_of t) (length c) ≡ m → is_refusal (checked_from m t c).answer ≡ false
          → (t' ≡ (checked_from m t c).tables) × (c' ≡ (checked_from m t c).choices)
      go (refused r) e z = let q : ◌≡◌ {A = ℕ} 0 1 = cc in absurd (omega arith)
      go (good w) e z = ((read.writes w e).0, (read.writes w e).1)

  -- short of acceptance
  pub reported_short : {p p' : List ℤ} {r : Report} {b : Bool} → b ≡ is_accepted a → b ≡ false → r ≡ no_report a j.tally → ReportRead S x s t c p r t' c' p'
  reported_short {p} {p'} {r} q g e =
      let h : is_accepted a ≡ false = sym q ∙ g in
      let k : Short (checked S x s t c) (reported S x s t c p) = report_short S x s t c p (ap is_accepted (sym read.answers) ∙ h) in
      record {
        answers = ap (λ (q : Report). q.answer) e ∙ read.answers ∙ sym k.answer;
        tallies = ap (λ (q : Report). q.tally) e ∙ read.tallies ∙ sym k.tally;
        figures_are = ap (λ (q : Report). q.figures) e ∙ sym k.figures;
        desk_is = ap (λ (q : Report). q.desk) e ∙ sym k.desk;
        writes = λ z.
            let kept = tables_kept (ap (λ (q : Report). is_refusal q.answer) (sym e) ∙ z) in
            (kept.0 ∙ sym k.tables, kept.1 ∙ sym k.choices);
        lays = λ z. absurd (never (sym (ap (λ (q : Report). is_accepted q.answer) e ∙ h) ∙ z));
      }
    where
      never : false ≡ true → ⊥
      never z = let q : ◌≡◌ {A = ℕ} 0 1 = cc in omega arith

  module _ {b : Bool} (q : b ≡ is_accepted a) (g : b ≡ true) where
    h : is_accepted a ≡ true
    h = sym q ∙ g

    found : (w : Whole) × (all_read S x s (rooms_of t) (length c) ≡ good w) × ((verdict_of w.files w.choices).finding ≡ accepted)
    found = accepted_read S x s t c (sym read.answers ∙ is_accepted_lem a h)

    tallied : j.tally ≡ (verdict_of found.0.files found.0.choices).tally
    tallied = read.tallies ∙ checked-tally S x s t c found.0 found.1

    -- accepted: there are counts
    pub counts_there : is_some j.counts ≡ true
    counts_there = rw (read.writes found.0 found.1).2

    module _ {counts : Counts} (there : j.counts ≡ Some counts) where
      -- and the tables are what the energies are worked out of
      pub accepted_left : Left S.horizon counts c' t'.legs t'.profiles t'.samples t'.tracks
      accepted_left =
          let w = found.0 in
          let kept = read.writes w found.1 in
          record {
            stated = S;
            at = refl;
            texts = x;
            solution = s;
            lent = t;
            lent_choices = c;
            whole = w;
            read = found.1;
            fair = found.2;
            counted = cc (sym there ∙ kept.2);
            choices_are = kept.1;
            legs_are_lem = ap (λ (q : Tables). q.legs) kept.0;
            profiles_are = ap (λ (q : Tables). q.profiles) kept.0;
            samples_are = ap (λ (q : Tables). q.samples) kept.0;
            tracks_are = ap (λ (q : Tables). q.tracks) kept.0;
          }

      -- and so is the report
      pub reported-tested : {p p' : List ℤ} {r : Report} → Tests S.horizon j.tally counts c' t'.legs t'.profiles t'.samples t'.tracks p r p' → ReportRead S x s t c p r t' c' p'
      unfolding found accepted_left
      reported-tested {p} {p'} {r} tests =
          let w = found.0 in
          let fits = leb (w.files.document.opened * S.horizon) (length p) in
          let same : reported S x s t c p ≡ report_accepted fits S.horizon j.tally w t c p =
          report-fits S x s t c p w found.1 found.2 fits refl ∙ ap (λ (n : Tally). report_accepted fits S.horizon n w t c p) (sym tallied) in
          let k : Tested fits S.horizon j.tally w t c p r p' = tests accepted_left in
          record {
            answers = k.answer ∙ sym (ap (λ (q : Reported). q.answer) same);
            tallies = k.tally ∙ sym (ap (λ (q : Reported). q.tally) same);
            figures_are = k.figures ∙ sym (ap (λ (q : Reported). q.figures) same);
            desk_is = k.desk ∙ sym (ap (λ (q : Reported). q.desk) same);
            writes = λ z. kept fits same (ap is_refusal (sym k.answer) ∙ z);
            lays = λ z. k.curves z ∙ sym (ap (λ (q : Reported). q.curves) same);
          }
        where
          kept : (fits : Bool) → reported S x s t c p ≡ report_accepted fits S.horizon j.tally found.0 t c p → is_refusal (report_accepted fits S.horizon j.tally found.0 t c p).answer ≡ false
              → (t' ≡ (reported S x s t c p).tables) × (c' ≡ (reported S x s t c p).choices)
          kept true e z =
              let left = read.writes found.0 found.1 in
              (left.0 ∙ sym (ap (λ (q : Reported). q.tables) e), left.1 ∙ sym (ap (λ (q : Reported). q.choices) e))
          kept false e z = let q : ◌≡◌ {A = ℕ} 0 1 = cc in absurd (omega arith)
