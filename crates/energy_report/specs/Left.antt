-- What the texts of an accepted solution left in the tables, and what is worked out of it.
use Rattle.std.specs.Prelude.{ℕ, ◌*◌, ◌≤◌, ◌≡◌, Bool, true, List, leb, length, ℤ}
use Rattle.rules.specs.Limits.{profile_width, track_width}
use Rattle.rules.specs.Answers.{good, is_accepted}
use Rattle.rules.specs.Lists.{over}
use Rattle.rules.specs.Reading.{Texts}
use Rattle.rules.specs.Verdict.{accepted}
use Rattle.rules.specs.Energy.{figures_of, curves_of, desk_of}
use Rattle.rules.specs.Entries.{Tables, rooms_of, written_tables, written_choices, verdict_of, Whole, all_read, report_accepted}
use Rattle.rules.specs.declared.stated.Stated.{Stated}
use Rattle.rules.specs.declared.answers.Tally.{Tally}
use Rattle.rules.specs.declared.answers.Answer.TheVariants.{Accepted}
use Rattle.rules.specs.declared.outcomes.Report.{Report}
use Rattle.tables_ids.specs.Column.{Rising}
use Rattle.energy_parts.specs.declared.runs.Counts.{Counts}
use Rattle.tables_lent.specs.Filing.{counts_of}
use Rattle.tables_lent.specs.declared as filed

-- an accepted solution, and the tables with what was read at their front; of what was stated, H alone counts from here on
pub record Left (H : ℕ) (counts : filed.Counts.Counts) (choices legs profiles : List ℕ) (samples : List ℤ) (tracks : List ℕ) : Type 0 where
  pub stated : Stated
  pub at : stated.horizon ≡ H
  pub texts : Texts
  pub solution : List ℕ
  pub lent : Tables
  pub lent_choices : List ℕ
  pub whole : Whole
  pub read : all_read stated texts solution (rooms_of lent) (length lent_choices) ≡ good whole
  pub fair : (verdict_of whole.files whole.choices).finding ≡ accepted
  pub counted : counts ≡ counts_of whole.files
  pub choices_are : choices ≡ written_choices whole.choices lent_choices
  pub legs_are_lem : legs ≡ (written_tables whole.files lent).legs
  pub profiles_are : profiles ≡ (written_tables whole.files lent).profiles
  pub samples_are : samples ≡ (written_tables whole.files lent).samples
  pub tracks_are : tracks ≡ (written_tables whole.files lent).tracks

-- the counts as the energies take them: how far the ids of profiles and tracks rise, too
pub record Risen (counts : filed.Counts.Counts) (profiles tracks : List ℕ) (k : Counts) : Type 0 where
  pub legs : k.legs ≡ counts.legs
  pub profiles_many : k.profiles.count ≡ counts.profiles
  pub tracks_many : k.tracks.count ≡ counts.tracks
  pub subnets : k.subnets ≡ counts.subnets
  pub profiles_rise : Rising profile_width k.profiles.count k.profiles.rising profiles
  pub tracks_rise : Rising track_width k.tracks.count k.tracks.rising tracks

-- the figures of the solution, and its curves at the front of their table
pub record WorkedOut (H : ℕ) (n : Tally) (w : Whole) (p : List ℤ) (r : Report) (p' : List ℤ) : Type 0 where
  pub answer : r.answer ≡ Accepted
  pub tally : r.tally ≡ n
  pub figures : r.figures ≡ figures_of H w.files w.choices
  pub desk : r.desk ≡ desk_of (figures_of H w.files w.choices)
  pub curves : p' ≡ over (curves_of H w.files w.choices) p

-- and the curve table has room
pub record Roomy (H : ℕ) (counts : filed.Counts.Counts) (choices legs profiles : List ℕ) (samples : List ℤ) (tracks : List ℕ) (p : List ℤ) : Type 0 where
  pub left : Left H counts choices legs profiles samples tracks
  pub room : counts.subnets * H ≤ length p

-- whatever solution it is that left them
abbrev pub Works : (H : ℕ) (tally : Tally) (counts : filed.Counts.Counts) (choices legs profiles : List ℕ) (samples : List ℤ) (tracks : List ℕ) (p : List ℤ) (r : Report) (p' : List ℤ) → Type 0
Works H tally counts choices legs profiles samples tracks p r p' =
    (l : Left H counts choices legs profiles samples tracks) → WorkedOut H tally l.whole p r p'

-- ---- the curves' room is tested after acceptance

-- t, c: the tables and the choices as they were lent
pub record Tested (fits : Bool) (H : ℕ) (n : Tally) (w : Whole) (t : Tables) (c : List ℕ) (p : List ℤ) (r : Report) (p' : List ℤ) : Type 0 where
  pub answer : r.answer ≡ (report_accepted fits H n w t c p).answer
  pub tally : r.tally ≡ (report_accepted fits H n w t c p).tally
  pub figures : r.figures ≡ (report_accepted fits H n w t c p).figures
  pub desk : r.desk ≡ (report_accepted fits H n w t c p).desk
  pub curves : is_accepted r.answer ≡ true → p' ≡ (report_accepted fits H n w t c p).curves

abbrev pub Tests : (H : ℕ) (tally : Tally) (counts : filed.Counts.Counts) (choices legs profiles : List ℕ) (samples : List ℤ) (tracks : List ℕ) (p : List ℤ) (r : Report) (p' : List ℤ) → Type 0
Tests H tally counts choices legs profiles samples tracks p r p' =
    (l : Left H counts choices legs profiles samples tracks) → Tested (leb (l.whole.files.document.opened * H) (length p)) H tally l.whole l.lent l.lent_choices p r p'
