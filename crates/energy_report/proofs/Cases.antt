-- The ways of a report: short of acceptance it is the check's answer with no figures; after acceptance the curves have room, or not. Assumes nothing.
use Prim.Native.Nat.{ℕ, ◌*◌}
use mathlib.Core.Path.{◌≡◌, refl}
use mathlib.Core.Bool.{Bool, false}
use mathlib.Core.List.{List}
use native.Mathlib.Omega.{arith}
use lib.Dec.{leb}
use lib.ListN.{length}
use lib.IntN.{ℤ}
use Rattle.rules.specs.Answers.{solution_file, is_accepted, Reading, refused, good}
use Rattle.rules.specs.Reading.{Texts}
use Rattle.rules.specs.Verdict.{Finding, accepted, violated, answer_of}
use Rattle.rules.specs.Energy.{desk_of}
use Rattle.rules.specs.declared.answers.Tally.{Tally}
use Rattle.rules.specs.Entries.{Tables, rooms_of, written_tables, written_choices, verdict_of, Whole, all_read, Checked, checked_from, checked, no_figures, Reported, report_accepted, report_judged, report_from, reported}
use Rattle.rules.specs.declared.stated.Stated.{Stated}

-- short of acceptance, a report says what a check does, and leaves the tables as a check does
pub record Short (k : Checked) (r : Reported) : Type 0 where
  pub answer : r.answer ≡ k.answer
  pub tally : r.tally ≡ k.tally
  pub figures : r.figures ≡ no_figures
  pub desk : r.desk ≡ desk_of no_figures
  pub tables : r.tables ≡ k.tables
  pub choices : r.choices ≡ k.choices

module _ (S : Stated) (x : Texts) (s : List ℕ) (t : Tables) (c : List ℕ) (p : List ℤ) where
  pub report_short : is_accepted (checked S x s t c).answer ≡ false → Short (checked S x s t c) (reported S x s t c p)
  unfolding checked reported
  report_short = go (all_read S x s (rooms_of t) (length c))
    where
      judged_as : Finding → Tally → Whole → Checked
      judged_as v n w = record { answer = answer_of solution_file v; tally = n; tables = written_tables w.files t; choices = written_choices w.choices c }

      judged : (v : Finding) (n : Tally) (w : Whole) → is_accepted (answer_of solution_file v) ≡ false → Short (judged_as v n w) (report_judged v S.horizon n w t c p)
      judged accepted tally w h = let z : ◌≡◌ {A = ℕ} 0 1 = cc in absurd (omega arith)
      judged (violated v) tally w h = record { answer = refl; tally = refl; figures = refl; desk = refl; tables = refl; choices = refl }

      go : (m : Reading Whole) → is_accepted (checked_from m t c).answer ≡ false → Short (checked_from m t c) (report_from m S.horizon t c p)
      go (refused r) h = record { answer = refl; tally = refl; figures = refl; desk = refl; tables = refl; choices = refl }
      go (good w) h = judged (verdict_of w.files w.choices).finding (verdict_of w.files w.choices).tally w h

  -- after acceptance the curve table has room, or not
  module _ (w : Whole) (read : all_read S x s (rooms_of t) (length c) ≡ good w) (fair : (verdict_of w.files w.choices).finding ≡ accepted) where
    pub report-fits : (fits : Bool) → leb (w.files.document.opened * S.horizon) (length p) ≡ fits → reported S x s t c p ≡ report_accepted fits S.horizon (verdict_of w.files w.choices).tally w t c p
    unfolding reported
    report-fits fits e = rw (read, fair, e)
