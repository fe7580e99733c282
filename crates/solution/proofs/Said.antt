-- A line that the timetable's machine reads after no rows: it breaks a row's form, or what is held says what the row's tests need.
-- Assumes nothing.
use Prim.Native.Nat.{ℕ, ◌+◌, ◌≤◌, ◌<◌}
use mathlib.Core.Path.{◌≡◌, refl, ap, sym, subst, ◌∙◌}
use mathlib.Core.Bool.{Bool, true, false, true≢false, false≢true}
use mathlib.Core.List.{List, [], ◌∷◌, ◌++◌, append-nil}
use native.Mathlib.Omega.{arith}
use lib.Dec.{leb}
use lib.ListN.{length, get_or, drop}
use lib.Seq.{drop-length}
use borrow.Author.Tests.{leb-true}
use Rattle.std.specs.Prelude.{None, Option, Some}
use Rattle.rules.specs.Limits.{most_id}
use Rattle.rules.specs.Lists.{◌>>=◌}
use Rattle.rules.specs.Answers.{bad_row, timetable_file}
use Rattle.rules.specs.Bytes.{line_feed, less_return}
use Rattle.rules.specs.Timetable.{Row, form_of, configuration, ids_of, timetable_header}
use Rattle.rules.specs.Verdict.{All}
use Rattle.rules.specs.declared.sizes.Configuration.{Configuration}
use Rattle.rules.proofs.Truth.{and_first, and_second}
use Rattle.csv_machine.specs.Fold.{fold, run}
use Rattle.csv_machine.specs.Number as Row
use Rattle.csv_machine.specs.Marks.{bare, Marked, on, mark_step, mark_close}
use Rattle.csv_machine.specs.Machine.{in_row, broken}
use Rattle.csv_machine.proofs.Lines.{Unbroken}
use Rattle.csv_machine.proofs.Machine.{in_line, opened}
use Rattle.timetable_row.specs.declared.line.Line.{Line}
use Rattle.timetable_row.specs.declared.number.Number.{Number}
use Rattle.timetable_row.specs.declared.number.Number.TheVariants.{Empty}
use Rattle.csv_marks.specs.declared.Mark.{Mark}
use Rattle.csv_marks.specs.declared.Mark.TheVariants.{Bare, Within, Behind, Returned}
use Rattle.csv_marks.specs.Turns.{marked, may_end}
use Rattle.timetable.specs.declared.reader.Reader.{Reader}
use Rattle.timetable.specs.Held.{number_held, Shaped, in_head, in_first, in_second, in_third, Tables, tables, InLine, Entered}
use Rattle.timetable_row.specs.Digits.{is_empty, value_of}
use Rattle.timetable.specs.Open.{Open, Reached, partly, start, open_step, open_end, open_begins, machine, reach}
use Rattle.timetable_row.specs.Slots.{last_slot, entry_slot, nominal_of, held_ids}
use Rattle.timetable_row.specs.RowOver.{stopped_with}
use Rattle.timetable.specs.Ended.{draft_room}
use Rattle.timetable.specs.Text.{first_line, Holds, drafted, Placed, Lined}
use Rattle.timetable.proofs.Words.{exact}
use Rattle.timetable.proofs.Close.{entry_slot_lem}
use Rattle.timetable.proofs.Fields.{form_run_lem}
use Rattle.timetable.proofs.Feed.{first_row_lem}
use Rattle.timetable.proofs.Judge.{row_from, number_held_lem, number_exact, range_same, ids_right, nominal_right, nominal_same}
use Rattle.timetable.proofs.Ended.{end_row, end_none, not-empty, is_empty_lem}
use Rattle.solution.specs.Said.{Alone, range_of, Said, SaidOf, RowClosed}

-- ---- a row that is over

module _ (H : ℕ) (lent : Tables) (line : Line) (now : Tables) (place : ℕ) (closed : List ℕ) (list : List Configuration)
    (g : InLine H lent line now place [] closed list []) (eight : length closed ≡ entry_slot) where
  abbrev r : Row
  r = row_from closed list

  id_right : (k : ℕ) → k < 5 → range_of H r ≡ true → get_or closed k 0 ≤ most_id → get_or line.numbers k 0 ≡ get_or closed k 0
  id_right k h e i = number_exact H lent line now place [] closed list g eight k (omega arith) i

  ids_held : range_of H r ≡ true → held_ids line.numbers ≡ ids_of r
  ids_held a =
      let i1 = ids_right H lent line now place [] closed list g eight a in
      let i2 = and_second (leb (get_or closed 0 0) most_id) _ i1 in
      let i3 = and_second (leb (get_or closed 1 0) most_id) _ i2 in
      let i4 = and_second (leb (get_or closed 2 0) most_id) _ i3 in
      let i5 = and_second (leb (get_or closed 3 0) most_id) _ i4 in
      rw (
        id_right 0 (omega arith) a (leb-true (get_or closed 0 0) most_id (and_first (leb (get_or closed 0 0) most_id) _ i1)),
        id_right 1 (omega arith) a (leb-true (get_or closed 1 0) most_id (and_first (leb (get_or closed 1 0) most_id) _ i2)),
        id_right 2 (omega arith) a (leb-true (get_or closed 2 0) most_id (and_first (leb (get_or closed 2 0) most_id) _ i3)),
        id_right 3 (omega arith) a (leb-true (get_or closed 3 0) most_id (and_first (leb (get_or closed 3 0) most_id) _ i4)),
        id_right 4 (omega arith) a (leb-true (get_or closed 4 0) most_id (and_first (leb (get_or closed 4 0) most_id) _ i5)),
      )

  nominal_held : range_of H r ≡ true → nominal_of line.numbers ≡ nominal_of closed
  nominal_held a =
      let e = exact H (nominal_of closed) g.horizon (nominal_right H lent line now place [] closed list g eight a) in
      rw (
        number_held_lem H lent line now place [] closed list g eight 5 (omega arith),
        number_held_lem H lent line now place [] closed list g eight 6 (omega arith),
        number_held_lem H lent line now place [] closed list g eight 7 (omega arith),
        e.0,
        e.1,
        e.2,
      )

  said : Said H r line
  said =
      record {
        going = g.going;
        range_is = range_same H lent line now place [] closed list g eight;
        entries_are = g.opened.entries_are;
        listed_is = nominal_same H lent line now place [] closed list g eight;
        ids_are = ids_held;
        nominal_is = nominal_held;
      }

-- ---- the line is over

module _ (H : ℕ) (line : Line) (number : Number) (entries : List ℕ) (line' : Line) (t : Bool) (empty-is : t ≡ is_empty number) where
  -- no digit is there where it ends
  pub closed_empty : t ≡ true → line' ≡ stopped_with line bad_row → RowClosed H line number entries line'
  unfolding open_end
  closed_empty u l = record { closes = λ lent legs place o g x. rw (is_empty_lem o.number number x (sym empty-is ∙ u), l) }

  -- it ends before the third number of an entry
  pub closed_short : t ≡ false → (line.slot ≡ last_slot → ⊥) → line' ≡ stopped_with line bad_row → RowClosed H line number entries line'
  closed_short u s l =
      record {
        closes = λ lent legs place o g x.
            let v = not-empty o.number number x (sym empty-is ∙ u) in
            rw (end_none o.closed o.list o.entry o.number v.0 g.opened.shaped (λ k. s (g.opened.slot_is ∙ k)) v.1, l);
      }

  -- its last entry is closed
  pub closed_entry : t ≡ false → line.slot ≡ last_slot → (m : ℕ) → m ≡ value_of number → (entries' : List ℕ) → Entered H line m line' entries entries' → RowClosed H line number entries line'
  closed_entry u s m mv entries' entered = record { closes = λ lent legs place o g x. go lent legs place o.closed o.list o.entry o.number x g g.opened.shaped }
    where
      go : (lent : Tables) (legs : List ℕ) (place : ℕ) (closed : List ℕ) (list : List Configuration) (entry : List ℕ) (m₀ : Row.Number) → number ≡ number_held m₀
          → InLine H lent line (tables legs entries) place [] closed list entry → Shaped closed list entry → SaidOf H (open_end (partly closed list entry m₀)) line'
      go lent legs place closed list entry m₀ x g (in_head h) = absurd (omega (arith, g.opened.slot_is, ap length (append-nil closed)))
      go lent legs place closed list entry m₀ x g (in_first h) = absurd (omega (arith, g.opened.slot_is, entry_slot_lem closed [] 0 h refl))
      go lent legs place closed list (d ∷ []) m₀ x g (in_second h) = absurd (omega (arith, g.opened.slot_is, entry_slot_lem closed (d ∷ []) 1 h refl))
      go lent legs place closed list (d ∷ p ∷ []) m₀ x g (in_third h) =
          let v = not-empty m₀ number x (sym empty-is ∙ u) in
          let g' = entered.entered lent legs place [] closed list d p v.0 g (mv ∙ v.2) in
          rw (end_row closed list d p v.0 m₀ h v.1) (said H lent line' (tables legs entries') place closed (list ++ configuration d p v.0 ∷ []) g' h)

-- ---- the line is read

unbroken : (line : List ℕ) → All (λ b. b ≡ line_feed → ⊥) line → Unbroken line
unbroken [] h = tt
unbroken (b ∷ line) h = (h.0, unbroken line h.1)

pub alone-placed : (H : ℕ) (line : List ℕ) (begun : Line) → begun ≡ first_line → Alone H line → Placed 0 line 0 begun
alone-placed H line begun e a =
    record {
      in_limit = omega (arith, a.short);
      inside = omega arith;
      no_fault = ap (λ (l : Line). l.fault) e;
    }

-- where the line ends under a mark
abbrev close_at : Marked Open → Option Row
close_at = mark_close open_step open_end open_begins

mark_ends : (mark : Mark) (o : Open) → may_end mark ≡ true → close_at (marked mark o) ≡ open_end o
mark_ends Bare o e = refl
mark_ends Within o e = absurd (false≢true e)
mark_ends Behind o e = refl
mark_ends Returned o e = refl

mark_open : (mark : Mark) (o : Open) → may_end mark ≡ false → close_at (marked mark o) ≡ None
mark_open Bare o e = absurd (true≢false e)
mark_open Within o e = refl
mark_open Behind o e = absurd (true≢false e)
mark_open Returned o e = absurd (true≢false e)

abbrev reached : List ℕ → Option (Marked Open) → Reached
reached line None = broken bad_row 0
reached line (Some m) = in_row 0 (0 + length line) [] m

module _ (H : ℕ) (line : List ℕ) (begun : Line) (reader : Reader) (legs entries legs' entries' : List ℕ) (first : begun ≡ first_line) (alone : Alone H line)
    (lined : Lined H begun Empty Bare 0 line 0 reader (tables legs entries) (tables legs' entries')) where
  abbrev lent : Tables
  lent = tables legs entries

  abbrev now : Tables
  now = tables legs' entries'

  abbrev at_end : Option (Marked Open)
  at_end = run (mark_step open_step open_end open_begins) (on bare start) line

  by_line : fold (drafted H lent) (in_row 0 0 [] (on bare start)) line ≡ reached line at_end
  unfolding reach
  by_line = in_line (machine H timetable_file (draft_room lent)) 0 0 [] (on bare start) line (unbroken line alone.unbroken) ∙ go at_end
    where
      go : (m : Option (Marked Open)) → opened (machine H timetable_file (draft_room lent)) 0 (0 + length line) [] m ≡ reached line m
      go None = refl
      go (Some m) = refl

  abbrev HeldAt : Option (Marked Open) → Type 0
  HeldAt m = Holds H lent (0 + length line) reader.mark (length timetable_header) reader.number reader.line now (reached line m)

  -- what is held where the bytes lead
  settled : (a : (p : Reached) × Holds H lent (0 + length line) reader.mark (length timetable_header) reader.number reader.line now p
      × (fold (drafted H lent) p (drop (length line) line) ≡ fold (drafted H lent) (in_row 0 0 [] (on bare start)) line)) → HeldAt at_end
  settled a =
      let over : a.0 ≡ reached line at_end = ap (fold (drafted H lent) a.0) (sym (drop-length line)) ∙ a.2 ∙ by_line in
      subst (λ (p : Reached). Holds H lent (0 + length line) reader.mark (length timetable_header) reader.number reader.line now p) over a.1

  at-end : HeldAt at_end
  at-end =
      let begins : Holds H lent (0 + 0) Bare (length timetable_header) Empty begun lent (in_row 0 0 [] (on bare start)) =
      rw first (start, refl, refl, refl, first_row_lem H lent 0 (omega (arith, alone.horizon)), omega arith) in
      settled (lined.lines.leads lent (in_row 0 0 [] (on bare start)) begins)

  -- what holds of every end of the line holds of the line
  by_end : (line' : Line) → ((m : Option (Marked Open)) → HeldAt m → SaidOf H (m >>= close_at) line') → SaidOf H (form_of (less_return line)) line'
  by_end line' h = subst (λ (f : Option Row). SaidOf H f line') (sym (form_run_lem line)) (h at_end at-end)

  -- it has stopped
  pub said_stopped : (reader.line.fault ≡ None → ⊥) → SaidOf H (form_of (less_return line)) reader.line
  said_stopped fault = by_end reader.line go
    where
      go : (m : Option (Marked Open)) → HeldAt m → SaidOf H (m >>= close_at) reader.line
      go None h = h.0
      go (Some m) h = absurd (fault h.4.going)

  module _ (line' : Line) (t : Bool) (f : reader.line.fault ≡ None) (ends : t ≡ may_end reader.mark) where
    -- a quote is open
    pub said_open : t ≡ false → line' ≡ stopped_with reader.line bad_row → SaidOf H (form_of (less_return line)) line'
    said_open u l = by_end line' go
      where
        go : (m : Option (Marked Open)) → HeldAt m → SaidOf H (m >>= close_at) line'
        go None h = cc
        go (Some m) h =
            subst (λ (x : Option Row). SaidOf H x line') (sym (ap close_at h.2 ∙ mark_open reader.mark h.0 (sym ends ∙ u))) (ap (λ (x : Line). x.fault) l)

    -- its last number is closed
    pub said_closed : t ≡ true → RowClosed H reader.line reader.number entries' line' → SaidOf H (form_of (less_return line)) line'
    said_closed u closed = by_end line' go
      where
        go : (m : Option (Marked Open)) → HeldAt m → SaidOf H (m >>= close_at) line'
        go None h = cc
        go (Some m) h =
            subst (λ (x : Option Row). SaidOf H x line') (sym (ap close_at h.2 ∙ mark_ends reader.mark h.0 (sym ends ∙ u))) (closed.closes lent legs' 0 h.0 h.4 h.3)
