-- The loop over a solution's lines: its invariant, kept by each turn, and what it gives at each return. Assumes nothing.
use Prim.Native.Nat.{ℕ, suc, ◌+◌, ◌*◌, ◌-◌, ◌/◌, ◌≤◌, ◌<◌}
use mathlib.Core.Path.{◌≡◌, refl, ap, sym, ◌∙◌}
use mathlib.Core.Bool.{Bool, true, false, cond}
use mathlib.Core.List.{List, [], ◌∷◌, ◌++◌}
use native.Mathlib.Omega.{arith}
use lib.Dec.{ltb}
use lib.ListN.{length, get_or, take, drop, drop_of_length-le, length-drop, length-take}
use lib.Seq.{drop-cons}
use borrow.Author.Tests.{ltb-true, eqb-true}
use Rattle.std.specs.Prelude.{Option, Some, None, Result, Err}
use Rattle.std.specs.Option.{is_some}
use Rattle.rules.specs.Limits.{leg_width, configuration_width}
use Rattle.rules.specs.Lists.{flat, over}
use Rattle.rules.specs.Answers.{refusal, bad_row, Reading, refused, good, Judged, wrong, right}
use Rattle.rules.specs.Bytes.{line_feed, split_on, start_of, less_return}
use Rattle.rules.specs.Rows.{on_row, rows_from}
use Rattle.rules.specs.Timetable.{Row, row_of, solution_fits}
use Rattle.rules.proofs.Pieces.{split_not-empty, split_free}
use Rattle.rules.proofs.Lists.{over-length}
use Rattle.tables_ids.specs.Column.{column, is_new}
use Rattle.tables_ids.proofs.Lone.{lone_new}
use Rattle.text_read.specs.Places.{up_to}
use Rattle.text_read.proofs.Laws.{pieces_next, pieces-last}
use Rattle.timetable_row.specs.declared.line.Line.{Line}
use Rattle.timetable.specs.Text.{first_line}
use Rattle.timetable.proofs.Words.{length_snoc}
use Rattle.rules.specs.declared.answers.Fault.{Fault}
use Rattle.timetable_row.specs.Faults.{fault_at}
use Rattle.solution_row.specs.Tests.{Earlier}
use Rattle.solution_row.specs.Against.{none_differs, next_id, is_known, compared_with, compared_answer}
use Rattle.solution.specs.Said.{Alone}
use Rattle.solution.specs.Before.{packed_row, Counted, AfterRow, Turned}
use Rattle.solution.specs.Promise.{HoldsRows}
use Rattle.solution.specs.Whole.{Headed, rows_after, RowsRead}
use Rattle.solution.proofs.Judging.{packed-length, ids-written}
use Rattle.solution.proofs.Differing.{Compares, compares_on, compared_right, Follows, follows_on, read_all}

-- ---- the invariant

-- a line that others follow is a row
row_first : (file : ℕ) (judge : List Row → List ℕ → Judged Row) (place : ℕ) (before : List Row) (line : List ℕ) (lines : List (List ℕ)) → (lines ≡ [] → ⊥)
    → rows_from file judge place before (line ∷ lines) ≡ on_row file judge place (judge before (less_return line)) (λ r. rows_from file judge (place + length line + 1) (before ++ r ∷ []) lines)
row_first file judge place before line [] h = absurd (h refl)
row_first file judge place before line (next ∷ lines) h = refl

abbrev judge_of : (H : ℕ) (lent : List ℕ) → List Row → List ℕ → Judged Row
judge_of H lent = row_of H (solution_fits (length lent / configuration_width))

-- the rows before; what is left of the text gives the rest of the reading, of the places and of the comparison
pub record Going (H : ℕ) (text legs : List ℕ) (n from : ℕ) (lent : List ℕ) (line : Line) (compared : Option ℕ) (choices : List ℕ) (i : ℕ) : Type 0 where
  pub headed : Headed H text legs n from
  pub within : i ≤ length text
  pub long : length choices ≡ length lent
  pub before : List Row
  pub counted : Counted H lent line choices before
  pub left : (file : ℕ) → rows_from file (judge_of H lent) i before (split_on line_feed (drop i text)) ≡ rows_after H file from lent text
  pub places : (k : ℕ) → start_of (suc (length before + k)) (split_on line_feed text) ≡ i + start_of k (split_on line_feed (drop i text))
  pub compares : (draft : List Row) → HoldsRows legs n draft → Compares text draft before compared
  pub follows : Follows legs before compared

-- before the first row
none-counted : (H : ℕ) (lent : List ℕ) → Counted H lent first_line lent []
unfolding over
none-counted H lent =
    record {
      going = refl;
      rows_are = refl;
      configurations_are_lem = refl;
      below = tt;
      in_range_lem = tt;
      few = omega arith;
      many = omega arith;
      fits = omega arith;
      choices_are = refl;
    }

pub going_first : (H : ℕ) (text legs : List ℕ) (n from : ℕ) (lent : List ℕ) (line : Line) (compared : Option ℕ) → Headed H text legs n from → line ≡ first_line → compared ≡ none_differs
    → Going H text legs n from lent line compared lent from
unfolding column
going_first H text legs n from lent line compared h e d =
    record {
      headed = h;
      within = h.inside;
      long = refl;
      before = [];
      counted = rw e (none-counted H lent);
      left = λ file. refl;
      places = λ k.
          let at : 0 + k ≡ k = omega arith in
          ap (λ (m : ℕ). start_of (suc m) (split_on line_feed text)) at
          ∙ ap (λ (ps : List (List ℕ)). start_of (suc k) ps) h.first_is
          ∙ ap (λ (x : ℕ). x + start_of k (split_on line_feed (drop from text))) (sym h.from_is);
      compares = λ draft holds rest. rw d;
      follows = λ e. refl;
    }

module _ {H : ℕ} {text legs : List ℕ} {n from : ℕ} {lent : List ℕ} {line : Line} {compared : Option ℕ} {choices : List ℕ} {i : ℕ}
    (g : Going H text legs n from lent line compared choices i) where
  pub whole : n * leg_width ≤ length legs
  whole = g.headed.able.legs_there.records.whole

  -- the draft's next id is not among those of the rows before
  pub earlier : {fresh : Option ℕ} → fresh ≡ next_id compared legs n line.rows → Earlier line.rows fresh choices
  earlier {fresh} f =
      record {
        held = omega (arith, g.counted.rows_are, g.counted.fits, g.long);
        lacks = λ id q. go id compared (ltb line.rows n) refl refl (sym (ap (λ (x : Option ℕ). is_known x id) f) ∙ q);
      }
    where
      ids_are : compared ≡ None → column configuration_width line.rows choices ≡ column leg_width line.rows legs
      ids_are e = rw g.counted.rows_are (ids-written g.counted ∙ sym (g.follows e))

      go : (id : ℕ) (x : Option ℕ) (u : Bool) → compared ≡ x → ltb line.rows n ≡ u → is_known (cond (is_some x) None (cond u (Some (get_or legs (line.rows * leg_width) 0)) None)) id ≡ true
          → is_new id (column configuration_width line.rows choices) ≡ true
      go id (Some p) u e l q = let z : ◌≡◌ {A = ℕ} 0 1 = cc in absurd (omega arith)
      go id None false e l q = let z : ◌≡◌ {A = ℕ} 0 1 = cc in absurd (omega arith)
      go id None true e l q =
          let same : id ≡ get_or legs (line.rows * leg_width) 0 = sym (eqb-true (get_or legs (line.rows * leg_width) 0) id q) in
          rw (ids_are e, same) (lone_new leg_width n legs g.headed.able.legs_there line.rows (ltb-true line.rows n l))

  -- the text is over
  pub gone_over : (answer : Result ℕ Fault) → length text ≤ i → answer ≡ compared_answer compared line.rows n (length text) → RowsRead H text legs n from lent answer choices
  gone_over answer o e =
      record {
        answers = λ draft file holds.
            rw (← all_read file)
            (e ∙ ap (λ (m : ℕ). compared_answer compared m n (length text)) g.counted.rows_are ∙ compared_right holds text file g.before compared (g.compares draft holds));
        packs = λ file rows q.
            let same : g.before ≡ rows = cc (all_read file) in
            rw (← same) (record { packed_are = g.counted.choices_are; in_range_lem = g.counted.in_range_lem });
        fits = λ m q. omega (arith, read_all compared line.rows n (length text) m answer e q, g.counted.rows_are, g.counted.fits, g.long);
      }
    where
      all_read : (file : ℕ) → good g.before ≡ rows_after H file from lent text
      all_read file = rw (drop_of_length-le text o) at (g.left file)

  -- what is refused
  refused_rows : (k : ℕ) (now : List ℕ) → ((file : ℕ) → refused (refusal k file i) ≡ rows_after H file from lent text) → RowsRead H text legs n from lent (Err (fault_at k i)) now
  refused_rows k now r =
      record {
        answers = λ draft file holds. rw (← r file);
        packs = λ file rows q. let z : ◌≡◌ {A = ℕ} 0 1 = cc (r file) in absurd (omega arith);
        fits = λ m q. let z : ◌≡◌ {A = ℕ} 0 1 = cc in absurd (omega arith);
      }

  module _ (e : ℕ) (found : e ≡ i + up_to line_feed (drop i text)) where
    -- a row that lacks its LF
    pub gone_short : i < length text → length text ≤ e → RowsRead H text legs n from lent (Err (fault_at bad_row i)) choices
    gone_short a b = refused_rows bad_row choices (λ file. rw (pieces-last text line_feed i e found b, drop-cons text i 0 a) at (g.left file))

    abbrev bytes : List ℕ
    bytes = take (e - i) (drop i text)

    module _ (inside : e < length text) where
      bytes-length : length bytes ≡ e - i
      bytes-length = length-take (e - i) (drop i text) ∙ omega (arith, length-drop i text, found)

      pub alone : Alone H bytes
      alone =
          record {
            horizon = g.headed.able.horizon;
            unbroken = let f = split_free line_feed (drop i text) in (rw (pieces_next text line_feed i e found inside) at f).0;
            short = omega (arith, bytes-length, g.headed.short);
          }

      -- the lines from i on: this one, and those after it
      abbrev onward : (file : ℕ) → Row → Reading (List Row)
      onward file r = rows_from file (judge_of H lent) (e + 1) (g.before ++ r ∷ []) (split_on line_feed (drop (e + 1) text))

      next_line_lem : (file : ℕ) → on_row file (judge_of H lent) i (judge_of H lent g.before (less_return bytes)) (onward file) ≡ rows_after H file from lent text
      next_line_lem file =
          let at : i + length bytes + 1 ≡ e + 1 = omega (arith, bytes-length, found) in
          let after : List (List ℕ) = split_on line_feed (drop (e + 1) text) in
          let lines : rows_from file (judge_of H lent) i g.before (bytes ∷ after) ≡ rows_after H file from lent text =
          rw (pieces_next text line_feed i e found inside) at (g.left file) in
          sym (row_first file (judge_of H lent) i g.before bytes after (split_not-empty line_feed (drop (e + 1) text)) ∙ rw at) ∙ lines

      next_place : (r : Row) (k : ℕ) → start_of (suc (length (g.before ++ r ∷ []) + k)) (split_on line_feed text) ≡ e + 1 + start_of k (split_on line_feed (drop (e + 1) text))
      next_place r k =
          let at : length (g.before ++ r ∷ []) + k ≡ length g.before + suc k = omega (arith, length_snoc g.before r) in
          let there = rw (pieces_next text line_feed i e found inside) at (g.places (suc k)) in
          ap (λ (m : ℕ). start_of (suc m) (split_on line_feed text)) at ∙ there ∙ omega (arith, bytes-length, found)

      here : start_of (suc (length g.before)) (split_on line_feed text) ≡ i
      here =
          let at : length g.before ≡ length g.before + 0 = omega arith in
          ap (λ (m : ℕ). start_of (suc m) (split_on line_feed text)) at ∙ g.places 0 ∙ omega arith

      module _ (line' : Line) (choices' : List ℕ) (turned : Turned H bytes line choices line' choices') where
        judged : AfterRow H lent line' choices' g.before (judge_of H lent g.before (less_return bytes))
        judged = turned.turns lent g.before g.counted

        pub goes_on : (compared' : Option ℕ) → line'.fault ≡ None → compared' ≡ compared_with compared line'.numbers legs n line.rows i
            → Going H text legs n from lent line' compared' choices' (e + 1)
        goes_on compared' f d = go (judge_of H lent g.before (less_return bytes)) judged next_line_lem
          where
            go : (j : Judged Row) → AfterRow H lent line' choices' g.before j → ((file : ℕ) → on_row file (judge_of H lent) i j (onward file) ≡ rows_after H file from lent text)
                → Going H text legs n from lent line' compared' choices' (e + 1)
            go (wrong k) a r = cc (a.0, f)
            go (right r) a l =
                record {
                  headed = g.headed;
                  within = omega arith;
                  long =
                      ap length a.0.choices_are
                      ∙ over-length (flat packed_row (g.before ++ r ∷ [])) lent (omega (arith, packed-length (g.before ++ r ∷ []), a.0.fits));
                  before = g.before ++ r ∷ [];
                  counted = a.0;
                  left = l;
                  places = next_place r;
                  compares = λ draft holds.
                      rw (d, g.counted.rows_are) (compares_on holds text g.before compared r line'.numbers i (g.compares draft holds) a.1 here);
                  follows = rw (d, g.counted.rows_are) (follows_on legs n whole g.before compared r line'.numbers i g.follows a.1);
                }

        -- the first fault
        pub gone_fault : (j : ℕ) → line'.fault ≡ Some j → RowsRead H text legs n from lent (Err (fault_at j i)) choices'
        gone_fault j f = go (judge_of H lent g.before (less_return bytes)) judged next_line_lem
          where
            go : (x : Judged Row) → AfterRow H lent line' choices' g.before x → ((file : ℕ) → on_row file (judge_of H lent) i x (onward file) ≡ rows_after H file from lent text)
                → RowsRead H text legs n from lent (Err (fault_at j i)) choices'
            go (wrong k) a l = let same : j ≡ k = cc (a.0, f) in rw same (refused_rows k choices' l)
            go (right r) a l = cc (f, a.0.going)
