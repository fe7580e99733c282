-- A report that is accepted leaves what it read and laid; a violation fills the curves, and a refusal everything. Assumes nothing.
use Prim.Native.Nat.{ℕ, ◌*◌}
use mathlib.Core.Path.{◌≡◌, refl, sym, ap, ◌∙◌}
use mathlib.Core.Bool.{Bool, true, false}
use mathlib.Core.List.{List}
use native.Mathlib.Omega.{arith}
use lib.Dec.{leb}
use lib.ListN.{length}
use lib.IntN.{ℤ}
use Rattle.rules.specs.Limits.{signed_fill}
use Rattle.rules.specs.Answers.{is_refusal, is_accepted, values_of, Reading, refused, good}
use Rattle.rules.specs.Reading.{Texts}
use Rattle.rules.specs.Verdict.{Finding, accepted, violated}
use Rattle.rules.specs.Entries.{Tables, Whole, rooms_of, filled, verdict_of, all_read, report_accepted, report_judged, report_from, reported}
use Rattle.rules.specs.Promises.{Reports}
use Rattle.rules.specs.declared.stated.Stated.{Stated}
use Rattle.rules.specs.declared.answers.Tally.{Tally}
use Rattle.rules.specs.declared.outcomes.Report.{Report}
use Rattle.rules_theorems.specs.Demands.{EmptiedReport}
use Rattle.rules_theorems.proofs.DemandOne.{report_demand_one}
use Rattle.energy_report.specs.Promise.{ReportRead}
use Rattle.tables_lent.specs.After.{tables_after, choices_after, curves_after}
use Rattle.tables_lent.proofs.Filled.{SameLengths, tables_after_lem, choices-after, curves-after}
use Rattle.checker.proofs.Refusing.{is_refused}

-- short of acceptance the curves are filled
curves-filled : (S : Stated) (x : Texts) (s : List ℕ) (t : Tables) (c : List ℕ) (p : List ℤ) → is_accepted (reported S x s t c p).answer ≡ false
    → (reported S x s t c p).curves ≡ filled signed_fill p
unfolding reported
curves-filled S x s t c p = go (all_read S x s (rooms_of t) (length c))
  where
    fitted : (fits : Bool) (n : Tally) (w : Whole) → is_accepted (report_accepted fits S.horizon n w t c p).answer ≡ false → (report_accepted fits S.horizon n w t c p).curves ≡ filled signed_fill p
    fitted true tally w h = let z : ◌≡◌ {A = ℕ} 0 1 = cc in absurd (omega arith)
    fitted false tally w h = refl

    judged : (v : Finding) (n : Tally) (w : Whole) → is_accepted (report_judged v S.horizon n w t c p).answer ≡ false → (report_judged v S.horizon n w t c p).curves ≡ filled signed_fill p
    judged accepted tally w h = fitted (leb (w.files.document.opened * S.horizon) (length p)) tally w h
    judged (violated v) tally w h = refl

    go : (m : Reading Whole) → is_accepted (report_from m S.horizon t c p).answer ≡ false → (report_from m S.horizon t c p).curves ≡ filled signed_fill p
    go (refused r) h = refl
    go (good w) h = judged (verdict_of w.files w.choices).finding (verdict_of w.files w.choices).tally w h

-- t, c, p: as they were lent; t', c', p': as the reading left them; t'', c'', p'': as the answer leaves them
module _ {S : Stated} {x : Texts} {s : List ℕ} {t : Tables} {c : List ℕ} {p : List ℤ} {r : Report} {t' : Tables} {c' : List ℕ} {p' : List ℤ}
    (read : ReportRead S x s t c p r t' c' p') where
  emptied : is_refusal r.answer ≡ true → EmptiedReport t c p (reported S x s t c p)
  emptied h = (report_demand_one S x s t c p).emptied (is_refused (reported S x s t c p).answer (ap is_refusal (sym read.answers) ∙ h))

  pub report_ends : SameLengths t' t → length c' ≡ length c → length p' ≡ length p
      → {t'' : Tables} → t'' ≡ tables_after r.answer t' → {c'' : List ℕ} → c'' ≡ choices_after r.answer c' → {p'' : List ℤ} → p'' ≡ curves_after r.answer p'
      → Reports S x s t c p r t'' c'' p''
  report_ends same many long tables choices curves =
      record {
        answer = read.answers;
        values = ap values_of read.answers;
        tally = read.tallies;
        figures = read.figures_are;
        desk = read.desk_is;
        tables = tables_after_lem r.answer t same tables (λ h. sym (emptied h).tables) (λ h. (read.writes h).0);
        choices = choices-after r.answer c many choices (λ h. sym (emptied h).choices) (λ h. (read.writes h).1);
        curves = curves-after r.answer p long curves read.lays (λ h. sym (curves-filled S x s t c p (ap is_accepted (sym read.answers) ∙ h)));
      }
