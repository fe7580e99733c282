-- The rows that are left are the events of the lines that are left: each line is a row without fault. Assumes nothing.
use Prim.Native.Nat.{ℕ, zero, suc, ◌+◌, ◌-◌, ◌≤◌, ◌<◌}
use mathlib.Core.Path.{◌≡◌, refl, sym, ap, ◌∙◌}
use mathlib.Core.Bool.{Bool, true, false, cond, ◌&&◌}
use mathlib.Core.List.{List, [], ◌∷◌, ◌++◌, append_assoc, append-nil}
use native.Mathlib.Omega.{arith}
use lib.Dec.{ltb}
use lib.ListN.{length, take, drop, drop_of_length-le}
use borrow.Author.Tests.{ltb-true, ltb-false}
use Rattle.rules.specs.Answers.{Judged, Reading, refused, good, refusal, duties_file, bad_row, out_of_range}
use Rattle.rules.specs.Bytes.{line_feed, split_on, less_return}
use Rattle.rules.specs.Rows.{on_row, rows_from}
use Rattle.rules.specs.Duties.{duty_column, from_column, to_column, Event, is_name, nodes_of, row_of}
use Rattle.rules.proofs.Truth.{and_first, and_second}
use Rattle.text_read.specs.Places.{up_to}
use Rattle.text_read.proofs.Laws.{pieces_next}
use Rattle.duties_fields.specs.Fields.{content_in, is_ten}
use Rattle.duties_row.specs.Rowed.{is_row, is_named, has_wholes, in_range, event_in, line_fault, count_fault, judged_by}
use Rattle.duties_nodes.specs.Nodes.{with_both}
use Rattle.duties.specs.Steps.{row_fault, left_at}
use Rattle.duties.specs.Turns.{line_at, events_in, rest_at}
use Rattle.duties.proofs.Viewing.{step_judged}
use Rattle.duties.proofs.Holding.{split_some, row_good, row_wrong, row_open}
use Rattle.duties.proofs.Passing.{or_zero_lem, line_zero, name_byte_lem}
use Rattle.duties.proofs.Turning.{line_cut}

-- a reading that is good is not refused
not_refused : {P : Type 0} {es : List Event} {n place : ℕ} → refused (refusal n duties_file place) ≡ good es → P
not_refused e = let z : ◌≡◌ {A = ℕ} 0 1 = cc in absurd (omega arith)

same_good : {es fs : List Event} → good es ≡ good fs → fs ≡ es
same_good e = cc

module _ (room : ℕ) where
  abbrev fault_of : List Event → List ℕ → ℕ
  fault_of before line = row_fault (nodes_of before) (length before) room line

  judged_by_lem : (before : List Event) (line : List ℕ) → row_of room before line ≡ judged_by (fault_of before line) (event_in line)
  judged_by_lem before line = step_judged room before line (fault_of before line) (length before) (nodes_of before) refl refl refl

  -- ---- all lines

  rows_rest : (place : ℕ) (before : List Event) (lines : List (List ℕ)) (es : List Event) → rows_from duties_file (row_of room) place before lines ≡ good es → es ≡ before ++ events_in lines
  rows_rest place before [] es e = same_good e ∙ sym (append-nil before)
  rows_rest place before ([] ∷ []) es e = same_good e ∙ sym (append-nil before)
  rows_rest place before ((b ∷ s) ∷ []) es e = not_refused e
  rows_rest place before (line ∷ next ∷ lines) es e =
      go (fault_of before (less_return line)) (ap (λ (j : Judged Event). on_row duties_file (row_of room) place j more) (sym (judged_by_lem before (less_return line))) ∙ e)
      (rows_rest (place + length line + 1) (before ++ event_in (less_return line) ∷ []) (next ∷ lines) es)
    where
      more : Event → Reading (List Event)
      more row = rows_from duties_file (row_of room) (place + length line + 1) (before ++ row ∷ []) (next ∷ lines)

      go : (f : ℕ) → on_row duties_file (row_of room) place (judged_by f (event_in (less_return line))) more ≡ good es
          → (more (event_in (less_return line)) ≡ good es → es ≡ (before ++ event_in (less_return line) ∷ []) ++ events_in (next ∷ lines))
          → es ≡ before ++ (event_in (less_return line) ∷ events_in (next ∷ lines))
      go zero w ih = ih w ∙ append_assoc before (event_in (less_return line) ∷ []) (events_in (next ∷ lines))
      go (suc f) w ih = not_refused w

  pub rest_is : (text : List ℕ) (place : ℕ) (before es : List Event) → left_at room text place before ≡ good es → es ≡ before ++ rest_at text place
  rest_is text place before es e = rows_rest place before (split_on line_feed (drop place text)) es e

-- ---- one line

pub record Row (room : ℕ) (text : List ℕ) (place end : ℕ) (before es : List Event) : Type 0 where
  pub ends : end < length text
  pub range : in_range (line_at text place) ≡ true
  pub duty : 1 ≤ length (content_in duty_column (line_at text place))
  pub left : left_at room text (end + 1) (before ++ event_in (line_at text place) ∷ []) ≡ good es
  pub rest : rest_at text place ≡ event_in (line_at text place) ∷ rest_at text (end + 1)

range_zero : (r i : Bool) → ◌≡◌ {A = ℕ} (cond r (cond i 0 out_of_range) bad_row) 0 → i ≡ true
range_zero true true e = refl
range_zero true false e = absurd (omega arith)
range_zero false i e = absurd (omega arith)

module _ (room : ℕ) (text : List ℕ) (place end : ℕ) (before es : List Event) (q : end ≡ place + up_to line_feed (drop place text)) (w : place < length text) (l : left_at room text place before ≡ good es) where
  abbrev cut : List ℕ
  cut = take (end - place) (drop place text)

  abbrev line : List ℕ
  line = line_at text place

  is_cut : less_return cut ≡ line
  is_cut = line_cut text place end q

  has_end : end < length text
  has_end = go (ltb end (length text)) refl
    where
      go : (t : Bool) → ltb end (length text) ≡ t → end < length text
      go true e = ltb-true end (length text) e
      go false e = not_refused (sym (row_open room text place end before q w (ltb-false end (length text) e)) ∙ l)

  no_fault : fault_of room before line ≡ 0
  no_fault = go (fault_of room before line) refl
    where
      go : (f : ℕ) → fault_of room before line ≡ f → f ≡ 0
      go zero e = refl
      go (suc f) e =
          not_refused
          (sym (row_wrong room text place end before q (omega arith) has_end (suc f) (ap (row_of room before) is_cut ∙ judged_by_lem room before line ∙ ap (λ (x : ℕ). judged_by x (event_in line)) e)) ∙ l)

  line_fault_lem : line_fault line ≡ 0
  line_fault_lem = (or_zero_lem (line_fault line) (count_fault line (length before) (length (with_both (nodes_of before) (content_in from_column line) (content_in to_column line))) room) no_fault).0

  is_row_lem : is_row line ≡ true
  is_row_lem = line_zero (is_row line) (in_range line) line_fault_lem

  named : is_named line ≡ true
  named = and_first (is_named line) (has_wholes line) (and_second (is_ten line) (is_named line && has_wholes line) is_row_lem)

  pub row_here : Row room text place end before es
  row_here =
      record {
        ends = has_end;
        range = range_zero (is_row line) (in_range line) line_fault_lem;
        duty = name_byte_lem (content_in duty_column line) (and_first (is_name (content_in duty_column line)) _ named);
        left =
            sym (row_good room text place end before q (omega arith) has_end (event_in line) (ap (row_of room before) is_cut ∙ judged_by_lem room before line ∙ ap (λ (x : ℕ). judged_by x (event_in line)) no_fault)) ∙ l;
        rest =
            ap events_in (pieces_next text line_feed place end q has_end)
            ∙ split_some (λ ps. events_in (cut ∷ ps) ≡ event_in (less_return cut) ∷ events_in ps) line_feed (drop (end + 1) text) (λ p ps. refl)
            ∙ ap (λ (x : List ℕ). event_in x ∷ rest_at text (end + 1)) is_cut;
      }

pub rest_end : (text : List ℕ) (place : ℕ) → length text ≤ place → rest_at text place ≡ []
rest_end text place h = ap (λ (s : List ℕ). events_in (split_on line_feed s)) (drop_of_length-le text {i = place} h)
