-- A byte that the open number does not take: LF ends the row and has it judged, another byte closes the number or breaks the row's form. Assumes nothing.
use Prim.Native.Nat.{ℕ, ◌+◌, ◌≤◌, ◌<◌}
use mathlib.Core.Path.{◌≡◌, refl, ap, sym, ◌∙◌}
use mathlib.Core.Bool.{Bool, true, false, not, cond, ◌&&◌, true≢false, false≢true}
use mathlib.Core.List.{List, [], ◌∷◌, ◌++◌, append-nil}
use native.Mathlib.Omega.{arith}
use lib.Dec.{leb, ltb}
use lib.ListN.{length, get_or}
use borrow.Author.Tests.{leb-true, ltb-true, le-ltb, lt-leb, eq-eqb, ne_eqb}
use Rattle.std.specs.Prelude.{Option, Some, None}
use Rattle.rules.specs.Limits.{most_text, most_id, most_legs, least_listed, most_listed, most_configurations, leg_width}
use Rattle.rules.specs.Lists.{◌>>=◌, every}
use Rattle.rules.specs.Answers.{bad_row}
use Rattle.rules.specs.Bytes.{line_feed, is_digit}
use Rattle.rules.specs.Timetable.{Row, configuration, in_range, judge_form}
use Rattle.rules.specs.Verdict.{All}
use Rattle.rules.specs.declared.sizes.Configuration.{Configuration}
use Rattle.rules.proofs.Truth.{and_first, and_second}
use Rattle.csv_machine.specs.Number as Row
use Rattle.timetable_row.specs.declared.line.Line.{Line}
use Rattle.timetable_row.specs.declared.number.Number.{Number}
use Rattle.timetable_row.specs.Digits.{held, is_empty, value_of}
use Rattle.timetable.specs.Held.{number_held, Shaped, in_head, in_first, in_second, in_third, Tables, tables, InLine, AfterByte, Entered, Closed}
use Rattle.timetable.specs.Open.{Open, partly, separate, open_step, open_end}
use Rattle.timetable_row.specs.Slots.{last_slot, entry_slot, nominal_of, held_ids}
use Rattle.timetable_row.specs.RowOver.{stopped_with, stored_at, range_holds, counts_hold, is_new, room_holds, line_tests, lowest, held_leg, leg_held, stored_leg, leg_of, Bounded, next_line}
use Rattle.timetable.specs.Ended.{draft_room, AfterLine, Ended}
use Rattle.timetable.specs.Text.{Signed}
use Rattle.timetable.proofs.Words.{ids_low}
use Rattle.timetable.proofs.Close.{entry_slot_lem}
use Rattle.timetable.proofs.Judge.{row_from, eight_make, outcome, judged, lowest_none, lowest_positive}
use Rattle.timetable.proofs.Accept.{accepted}
use Rattle.rules.specs.declared.sizes.Leg.{Leg}

-- ---- the row that ends

pub end_row : (closed : List ℕ) (list : List Configuration) (d t v : ℕ) (m : Row.Number) → length closed ≡ entry_slot → Row.number_end m ≡ Some v
    → open_end (partly closed list (d ∷ t ∷ []) m) ≡ Some (row_from closed (list ++ configuration d t v ∷ []))
unfolding open_end
end_row closed list d t v m eight e = rw e (eight_make closed (list ++ configuration d t v ∷ []) eight)

pub end_none : (closed : List ℕ) (list : List Configuration) (entry : List ℕ) (m : Row.Number) (v : ℕ) → Shaped closed list entry → (length (closed ++ entry) ≡ last_slot → ⊥)
    → Row.number_end m ≡ Some v → open_end (partly closed list entry m) ≡ None
unfolding open_end
end_none closed list entry m v (in_head h) n e = rw e
end_none closed list entry m v (in_first k) n e = rw e
end_none closed list (d ∷ []) m v (in_second k) n e = rw e
end_none closed list (d ∷ t ∷ []) m v (in_third k) n e = absurd (n (entry_slot_lem closed (d ∷ t ∷ []) 2 k refl))

-- ---- what the code knows of a row with no fault

pub row_bounds : (H : ℕ) (line : Line) (legs : List ℕ) (room at : ℕ) (k : Option ℕ) → k ≡ lowest (line_tests H line legs room) → k ≡ None → at < most_text
    → Bounded line at
row_bounds H line legs room at k e z a =
    let holds = lowest_none (range_holds H line) (counts_hold line) (is_new line.rows line.above (get_or line.numbers 0 0) legs) (ltb line.nominal line.entries) (room_holds line (length legs) room) (sym e ∙ z) in
    let counts = holds.1 in
    let ids : every (λ id. leb id most_id) (held_ids line.numbers) ≡ true =
    and_first (every (λ id. leb id most_id) (held_ids line.numbers)) (in_range H (nominal_of line.numbers) && not line.wide) holds.0 in
    record {
      at_low = a;
      rows_low = ltb-true line.rows most_legs (and_first (ltb line.rows most_legs) _ counts);
      configurations_low =
          leb-true (line.configurations + line.entries) most_configurations (and_second (leb line.entries most_listed) _ (and_second (ltb line.rows most_legs) _ counts));
      id_low = (ids_low (held_ids line.numbers) ids).0;
    }

-- the constructor makes its leg
pub leg-made : (H : ℕ) (line : Line) (legs : List ℕ) (room : ℕ) → lowest (line_tests H line legs room) ≡ None
    → leg_held line ≡ Some (leg_of line.numbers line.configurations line.entries line.nominal)
leg-made H line legs room z =
    let holds = lowest_none (range_holds H line) (counts_hold line) (is_new line.rows line.above (get_or line.numbers 0 0) legs) (ltb line.nominal line.entries) (room_holds line (length legs) room) z in
    let n = line.numbers in
    let low : All (λ id. id ≤ most_id) (held_ids n) = ids_low (held_ids n) (and_first (every (λ id. leb id most_id) (held_ids n)) _ holds.0) in
    let listed-low : line.entries ≤ most_listed = leb-true line.entries most_listed (and_first (leb line.entries most_listed) _ (and_second (ltb line.rows most_legs) _ holds.1)) in
    let nominal-low : line.nominal < line.entries = ltb-true line.nominal line.entries holds.3 in
    rw (
      le-ltb most_id (get_or n 0 0) low.0,
      le-ltb most_id (get_or n 1 0) low.1.0,
      le-ltb most_id (get_or n 2 0) low.1.1.0,
      le-ltb most_id (get_or n 3 0) low.1.1.1.0,
      le-ltb most_id (get_or n 4 0) low.1.1.1.1.0,
      le-ltb line.entries least_listed (omega (arith, nominal-low)),
      le-ltb most_listed line.entries listed-low,
      lt-leb line.entries line.nominal nominal-low,
    )

-- ---- the three ways of an LF

pub ended_short : (H : ℕ) (line line' : Line) (n at : ℕ) (now : Tables) → (line.slot ≡ last_slot → ⊥) → line' ≡ stopped_with line bad_row → Ended H line n at line' now now
ended_short H line line' n at now s l =
    record {
      ends = λ lent place before o v g e nv.
          rw (end_none o.closed o.list o.entry o.number v g.opened.shaped (λ k. s (g.opened.slot_is ∙ k)) e, l) (refl, g.placed, omega arith);
    }

-- the last entry is closed, and the row judged
module _ (H : ℕ) (line whole line' : Line) (n at : ℕ) (k : Option ℕ) (legs legs' table table' : List ℕ) (last : line.slot ≡ last_slot) (entered : Entered H line n whole table table')
    (lowest_is : k ≡ lowest (line_tests H whole legs (length table'))) where
  -- what is to be shown of the row
  abbrev Judges : Type 0
  Judges =
      (lent : Tables) (place : ℕ) (before : List Row) (closed : List ℕ) (list : List Configuration) → length closed ≡ entry_slot
      → InLine H lent whole (tables legs table') place before closed list []
      → AfterLine H lent line' (tables legs' table') place at before (outcome k (row_from closed list))

  by_judging : Judges → Ended H line n at line' (tables legs table) (tables legs' table')
  by_judging judges =
      record {
        ends = λ lent place before o v g e nv. go lent place before o.closed o.list o.entry o.number v g e nv g.opened.shaped;
      }
    where
      go : (lent : Tables) (place : ℕ) (before : List Row) (closed : List ℕ) (list : List Configuration) (entry : List ℕ) (m : Row.Number) (v : ℕ)
          → InLine H lent line (tables legs table) place before closed list entry → Row.number_end m ≡ Some v → n ≡ held v → Shaped closed list entry
          → AfterLine H lent line' (tables legs' table') place at before (judge_form H (draft_room lent) before (open_end (partly closed list entry m)))
      go lent place before closed list entry m v g e nv (in_head h) = absurd (omega (arith, g.opened.slot_is, ap length (append-nil closed)))
      go lent place before closed list entry m v g e nv (in_first h) = absurd (omega (arith, g.opened.slot_is, entry_slot_lem closed [] 0 h refl))
      go lent place before closed list (d ∷ []) m v g e nv (in_second h) = absurd (omega (arith, g.opened.slot_is, entry_slot_lem closed (d ∷ []) 1 h refl))
      go lent place before closed list (d ∷ t ∷ []) m v g e nv (in_third h) =
          let all : List Configuration = list ++ configuration d t v ∷ [] in
          let g' : InLine H lent whole (tables legs table') place before closed all [] = entered.entered lent legs place before closed list d t v g nv in
          rw (end_row closed list d t v m h e, judged H lent whole (tables legs table') place before closed all g' h (length table') g'.long, ← lowest_is)
          (judges lent place before closed all h g')

  pub ended_fault : (j : ℕ) → legs' ≡ legs → k ≡ Some j → line' ≡ stopped_with whole j → Ended H line n at line' (tables legs table) (tables legs' table')
  ended_fault j s z l =
      by_judging (λ lent place before closed list h g. rw (z, l) (refl, g.placed, positive))
    where
      positive : 0 < j
      positive =
          lowest_positive (range_holds H whole) (counts_hold whole) (is_new whole.rows whole.above (get_or whole.numbers 0 0) legs) (ltb whole.nominal whole.entries) (room_holds whole (length legs) (length table')) j
          (sym z ∙ lowest_is)

  pub ended_right : k ≡ None → (made : Option Leg) → made ≡ leg_held whole → legs' ≡ stored_leg whole.rows made legs → line' ≡ next_line whole at
      → Ended H line n at line' (tables legs table) (tables legs' table')
  ended_right z made m s l =
      by_judging
      (λ lent place before closed list h g.
      rw (z, l) (accepted H lent whole (tables legs table') place before closed list g h (length table') g.long (sym lowest_is ∙ z) legs' at stored))
    where
      stored : legs' ≡ stored_at leg_width whole.rows (held_leg whole) legs
      stored = s ∙ ap (λ x. stored_leg whole.rows x legs) (m ∙ leg-made H whole legs (length table') (sym lowest_is ∙ z))

-- ---- a byte that the open number does not take

pub not-empty : (m : Row.Number) (x : Number) → x ≡ number_held m → is_empty x ≡ false → (v : ℕ) × (Row.number_end m ≡ Some v) × (value_of x ≡ held v)
not-empty Row.empty x e q = absurd (true≢false (sym (ap is_empty e) ∙ q))
not-empty Row.zero x e q = (0, refl, ap value_of e)
not-empty (Row.digits n) x e q = (n, refl, ap value_of e)

pub is_empty_lem : (m : Row.Number) (x : Number) → x ≡ number_held m → is_empty x ≡ true → m ≡ Row.empty
is_empty_lem Row.empty x e q = refl
is_empty_lem Row.zero x e q = absurd (false≢true (sym (ap is_empty e) ∙ q))
is_empty_lem (Row.digits n) x e q = absurd (false≢true (sym (ap is_empty e) ∙ q))

module _ (H : ℕ) (line line' : Line) (number : Number) (b at : ℕ) where
  -- no digit before it
  pub sign_empty : (now : Tables) (r : Bool) → r ≡ is_empty number → r ≡ true → line' ≡ stopped_with line bad_row → Signed H line number b at line' now now
  unfolding open_step open_end
  sign_empty now r e t l =
      record {
        signs = λ lent place before o g x q.
            let none_there : o.number ≡ Row.empty = is_empty_lem o.number number x (sym e ∙ t) in
            (λ f. rw (none_there, l) (refl, g.placed, omega arith), λ f. go lent place before o g none_there (is_digit b) q);
      }
    where
      go : (lent : Tables) (place : ℕ) (before : List Row) (o : Open) → InLine H lent line now place before o.closed o.list o.entry → o.number ≡ Row.empty
          → (d : Bool) → Row.number_step o.number b ≡ None
          → AfterByte H lent line' now place before
          (cond d (Row.number_step o.number b >>= (λ m. Some (partly o.closed o.list o.entry m))) (Row.number_end o.number >>= (λ n. separate o b n)))
      go lent place before o g n true q = rw (q, l) (refl, g.placed)
      go lent place before o g n false q = rw (n, l) (refl, g.placed)

  -- LF
  pub sign_line : (now now' : Tables) (r : Bool) (n : ℕ) → r ≡ is_empty number → r ≡ false → n ≡ value_of number → b ≡ line_feed → Ended H line n at line' now now'
      → Signed H line number b at line' now now'
  sign_line now now' r n e t nv f ended =
      record {
        signs = λ lent place before o g x q.
            let v = not-empty o.number number x (sym e ∙ t) in
            (λ k. ended.ends lent place before o v.0 g v.1 (nv ∙ v.2), λ k. absurd (true≢false (sym (eq-eqb b line_feed f) ∙ k)));
      }

  -- another byte
  pub sign_close : (legs table table' : List ℕ) (r : Bool) (n : ℕ) → r ≡ is_empty number → r ≡ false → n ≡ value_of number → (b ≡ line_feed → ⊥) → Closed H line n b line' table table'
      → Signed H line number b at line' (tables legs table) (tables legs table')
  sign_close legs table table' r n e t nv f closed =
      record {
        signs = λ lent place before o g x q.
            let v = not-empty o.number number x (sym e ∙ t) in
            (λ k. absurd (true≢false (sym k ∙ ne_eqb b line_feed f)), λ k. closed.closes lent legs place before o v.0 g v.1 (nv ∙ v.2) q);
      }
