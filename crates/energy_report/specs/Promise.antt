-- What is promised of texts that are read, judged and worked out: the answer, the tally and the figures always; the tables where nothing is refused, and the
-- curves where the solution is accepted. What stands in a table otherwise is not promised here: the entry fills it.
use Rattle.std.specs.Prelude.{ℕ, ◌≡◌, true, false, List, ℤ}
use Rattle.rules.specs.Answers.{is_refusal, is_accepted}
use Rattle.rules.specs.Reading.{Texts}
use Rattle.rules.specs.Energy.{desk_of}
use Rattle.rules.specs.Entries.{Tables, no_figures, reported}
use Rattle.rules.specs.declared.stated.Stated.{Stated}
use Rattle.rules.specs.declared.answers.Answer.{Answer}
use Rattle.rules.specs.declared.answers.Tally.{Tally}
use Rattle.rules.specs.declared.outcomes.Report.{Report}

-- an answer short of acceptance: all figures are 0
abbrev pub no_report : Answer → Tally → Report
no_report a n = record { answer = a; tally = n; figures = no_figures; desk = desk_of no_figures }

-- what is stated, the texts and the solution; the tables t, the choices c and the curves p as they were lent; and as they are left
pub record ReportRead (S : Stated) (x : Texts) (solution : List ℕ) (t : Tables) (c : List ℕ) (p : List ℤ) (r : Report) (t' : Tables) (c' : List ℕ) (p' : List ℤ) : Type 0 where
  pub answers : r.answer ≡ (reported S x solution t c p).answer
  pub tallies : r.tally ≡ (reported S x solution t c p).tally
  pub figures_are : r.figures ≡ (reported S x solution t c p).figures
  pub desk_is : r.desk ≡ (reported S x solution t c p).desk
  pub writes : is_refusal r.answer ≡ false → (t' ≡ (reported S x solution t c p).tables) × (c' ≡ (reported S x solution t c p).choices)
  pub lays : is_accepted r.answer ≡ true → p' ≡ (reported S x solution t c p).curves
