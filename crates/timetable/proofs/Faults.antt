-- After a fault: the text stays at fault, and the reader holds it. Assumes nothing.
use Prim.Native.Nat.{ℕ, ◌<◌}
use mathlib.Core.Path.{◌≡◌, refl, sym, ◌∙◌}
use mathlib.Core.Bool.{Bool, true, false, true≢false, false≢true}
use mathlib.Core.List.{List}
use Rattle.std.specs.Prelude.{Option, Some, None}
use Rattle.std.specs.Option.{is_some}
use Rattle.rules.specs.Answers.{timetable_file}
use Rattle.csv_machine.specs.Fold.{fold}
use Rattle.csv_machine.specs.Machine.{Faulty, is_broken, is_stopped}
use Rattle.csv_machine.proofs.Machine.{faulty_fold as stays}
use Rattle.csv_marks.specs.declared.Mark.{Mark}
use Rattle.timetable_row.specs.declared.line.Line.{Line}
use Rattle.timetable_row.specs.declared.number.Number.{Number}
use Rattle.timetable.specs.Open.{Reached, machine, reach}
use Rattle.timetable.specs.Held.{Tables}
use Rattle.timetable.specs.Ended.{draft_room}
use Rattle.timetable.specs.Text.{Holds, drafted}

module _ (H : ℕ) (lent : Tables) where
  pub faulty_fold : {k place : ℕ} (p : Reached) (s : List ℕ) → Faulty k place p → Faulty k place (fold (drafted H lent) p s)
  unfolding reach
  faulty_fold p s f = stays (machine H timetable_file (draft_room lent)) p s f

  pub faulty_held : {k place : ℕ} (p : Reached) (next : ℕ) (mark : Mark) (head : ℕ) (number : Number) (line : Line) (now : Tables) → Faulty k place p
      → line.fault ≡ Some k → line.place ≡ place → 0 < k → Holds H lent next mark head number line now p
  faulty_held p next mark head number line now is_broken f q z = (f, q, z)
  faulty_held p next mark head number line now is_stopped f q z = (f, q, z)

-- whether there is a fault, as the code asks
pub fault_there : (o : Option ℕ) (t : Bool) → t ≡ is_some o → t ≡ true → o ≡ None → ⊥
fault_there None t e q z = absurd (false≢true (sym e ∙ q))
fault_there (Some k) t e q z = cc

pub none_there : (o : Option ℕ) (t : Bool) → t ≡ is_some o → t ≡ false → o ≡ None
none_there None t e q = refl
none_there (Some k) t e q = absurd (true≢false (sym e ∙ q))
