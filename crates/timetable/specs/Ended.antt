-- What a row that is over gives: its fault, or the next row.
use Rattle.std.specs.Prelude.{Some, ℕ, suc, ◌/◌, ◌<◌, ◌≡◌, Bool, List, [], ◌∷◌, ◌++◌, length}
use Rattle.rules.specs.Limits.{leg_width, configuration_width}
use Rattle.rules.specs.Answers.{Judged, wrong, right}
use Rattle.rules.specs.Timetable.{Row, judge_form, draft_fits}
use Rattle.csv_machine.specs.Number.{number_end}
use Rattle.timetable_row.specs.declared.line.Line.{Line}
use Rattle.timetable_row.specs.Digits.{held}
use Rattle.timetable.specs.Open.{Open, open_end}
use Rattle.timetable.specs.Held.{Tables, InLine}

-- the room that the lent tables have for a draft
abbrev pub draft_room : Tables → List Row → Row → Bool
draft_room lent = draft_fits (length lent.legs / leg_width) (length lent.configurations / configuration_width)

-- what a row that is judged must give
abbrev pub AfterLine : (H : ℕ) (lent : Tables) (line : Line) (now : Tables) (place at : ℕ) → List Row → Judged Row → Type 0
AfterLine H lent line now place at before (wrong k) = (line.fault ≡ Some k) × (line.place ≡ place) × (0 < k)
AfterLine H lent line now place at before (right row) = InLine H lent line now (suc at) (before ++ row ∷ []) [] [] []

pub record Ended (H : ℕ) (line : Line) (n at : ℕ) (line' : Line) (now now' : Tables) : Type 0 where
  pub ends : (lent : Tables) (place : ℕ) (before : List Row) (o : Open) (v : ℕ)
      → InLine H lent line now place before o.closed o.list o.entry → number_end o.number ≡ Some v → n ≡ held v
      → AfterLine H lent line' now' place at before (judge_form H (draft_room lent) before (open_end o))
