-- What a byte does to a text whose row is open, under each mark. Assumes nothing.
use Prim.Native.Nat.{ℕ, suc}
use mathlib.Core.Path.{◌≡◌, refl, ap, sym, subst, ◌∙◌}
use mathlib.Core.Bool.{Bool, true, false}
use mathlib.Core.List.{List}
use native.Mathlib.Omega.{arith}
use lib.Dec.{eqb}
use lib.ListN.{length}
use Rattle.rules.specs.Answers.{bad_row, timetable_file, Judged, wrong, right}
use Rattle.rules.specs.Bytes.{line_feed}
use Rattle.rules.specs.Timetable.{Row, judge_form, timetable_header}
use Rattle.csv_machine.specs.Machine.{in_row, Faulty, on_byte, on_line}
use Rattle.timetable_row.specs.declared.line.Line.{Line}
use Rattle.timetable_row.specs.declared.number.Number.TheVariants.{Empty}
use Rattle.csv_marks.specs.declared.Mark.{Mark}
use Rattle.csv_marks.specs.declared.Mark.TheVariants.{Bare}
use Rattle.csv_marks.specs.declared.Act.{Act}
use Rattle.csv_marks.specs.declared.Act.TheVariants.{To, Content, Broken}
use Rattle.csv_marks.specs.Turns.{marked, marked_step, plain_under, turned}
use Rattle.csv_marks.proofs.Follow.{plain_turn}
use Rattle.csv_marks.proofs.Rows.{RowLeads, row_leads as leads}
use Rattle.timetable.specs.Open.{Open, Reached, start, open_step, open_end, open_begins, contents, machine, reach}
use Rattle.timetable.specs.Held.{number_held, Tables, AfterByte}
use Rattle.timetable.specs.Ended.{draft_room, AfterLine}
use Rattle.timetable.specs.Text.{Holds, drafted, After}
use Rattle.std.specs.Prelude.{Option, Some, None}

module _ (H : ℕ) (lent : Tables) where
  -- ---- a byte of an open row

  row_leads : (place at : ℕ) (before : List Row) (mark : Mark) (o : Open) (b : ℕ) (a : Act) → a ≡ turned mark b (open_begins o)
      → RowLeads (contents H timetable_file (draft_room lent)) (drafted H lent) place at before mark o b a
  unfolding reach
  row_leads place at before mark o b a t = leads (contents H timetable_file (draft_room lent)) (λ before. refl) place at before mark o b a t

  module _ (place at : ℕ) (before : List Row) (mark : Mark) (o : Open) (b : ℕ) where
    abbrev here : Reached
    here = in_row place at before (marked mark o)

    -- it moves the mark
    pub lands_to : (m : Mark) → To m ≡ turned mark b (open_begins o) → drafted H lent here b ≡ in_row place (suc at) before (marked m o)
    lands_to m t = row_leads place at before mark o b (To m) t

    -- it breaks the row
    pub lands_broken : Broken ≡ turned mark b (open_begins o) → Faulty bad_row place (drafted H lent here b)
    lands_broken t = row_leads place at before mark o b Broken t

    -- it is left for the contents, and does there what it did
    pub lands_left : (m : Mark) → Content m ≡ turned mark b (open_begins o) → Content m ≡ turned m b (open_begins o)
        → drafted H lent (in_row place at before (marked m o)) b ≡ drafted H lent here b
    lands_left m t u = go (eqb b line_feed) refl
      where
        go : (l : Bool) → eqb b line_feed ≡ l → drafted H lent (in_row place at before (marked m o)) b ≡ drafted H lent here b
        go true e = ((row_leads place at before m o b (Content m) u).1 e).1 ∙ sym ((row_leads place at before mark o b (Content m) t).1 e).1
        go false e = (row_leads place at before m o b (Content m) u).0 e ∙ sym ((row_leads place at before mark o b (Content m) t).0 e)

    -- it goes to the contents
    module _ (line : Line) (now : Tables) (m : Mark) where
      on_line_lem : m ≡ Bare → (j : Judged Row) → AfterLine H lent line now place at before j
          → Holds H lent (suc at) m (length timetable_header) Empty line now (on_line (machine H timetable_file (draft_room lent)) place at before j)
      on_line_lem e (wrong k) h = h
      on_line_lem e (right r) h = (start, refl, ap (λ (x : Mark). marked x start) (sym e), refl, h, omega arith)

      on_byte_lem : (x : Option Open) → AfterByte H lent line now place before x
          → Holds H lent (suc at) m (length timetable_header) Empty line now (on_byte (machine H timetable_file (draft_room lent)) place at before (marked_step m x))
      on_byte_lem None h = (h.0, h.1, omega arith)
      on_byte_lem (Some o) h = (o, refl, refl, sym (ap number_held h.1), h.0, omega arith)

      pub lands_content : Content m ≡ turned mark b (open_begins o) → After H lent line now place at before o b
          → Holds H lent (suc at) m (length timetable_header) Empty line now (drafted H lent here b)
      lands_content t after = go (eqb b line_feed) refl
        where
          go : (l : Bool) → eqb b line_feed ≡ l → Holds H lent (suc at) m (length timetable_header) Empty line now (drafted H lent here b)
          go true e =
              let f = (row_leads place at before mark o b (Content m) t).1 e in
              subst (λ (p : Reached). Holds H lent (suc at) m (length timetable_header) Empty line now p) (sym f.1) (on_line_lem f.0 (judge_form H (draft_room lent) before (open_end o)) (after.0 e))
          go false e =
              subst (λ (p : Reached). Holds H lent (suc at) m (length timetable_header) Empty line now p) (sym ((row_leads place at before mark o b (Content m) t).0 e))
              (on_byte_lem (open_step o b) (after.1 e))

    pub lands_plain : (line : Line) (now : Tables) → plain_under mark b ≡ true → After H lent line now place at before o b
        → Holds H lent (suc at) mark (length timetable_header) Empty line now (drafted H lent here b)
    lands_plain line now p after = lands_content line now mark (plain_turn mark b (open_begins o) p) after

    -- a byte that the contents take
    pub lands_step : (o' : Open) → plain_under mark b ≡ true → eqb b line_feed ≡ false → open_step o b ≡ Some o'
        → drafted H lent here b ≡ in_row place (suc at) before (marked mark o')
    lands_step o' p e s =
        (row_leads place at before mark o b (Content mark) (plain_turn mark b (open_begins o) p)).0 e
        ∙ ap (λ (x : Option Open). on_byte (machine H timetable_file (draft_room lent)) place at before (marked_step mark x)) s
