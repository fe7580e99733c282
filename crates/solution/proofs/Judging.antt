-- A line after the rows before is judged as the definition judges it, and where it is right the table holds its id and its choice.
-- Assumes nothing.
use Prim.Native.Nat.{ℕ, suc, ◌+◌, ◌*◌, ◌/◌, ◌≤◌, ◌<◌}
use mathlib.Core.Path.{◌≡◌, refl, ap, sym, ◌∙◌}
use mathlib.Core.Bool.{Bool, true, false, not, cond, ◌&&◌}
use mathlib.Core.List.{List, [], ◌∷◌, ◌++◌, map}
use native.Mathlib.Omega.{arith}
use lib.Dec.{leb, ltb, eqb}
use lib.ListN.{length, get_or, drop}
use lib.Seq.{sets}
use mir.Syntax.{w32}
use mir.Val.{Fits}
use borrow.Author.Tests.{leb-true, leb-false, lt-leb, ltb-true}
use Rattle.std.specs.Prelude.{Option, Some, None}
use Rattle.rules.specs.Limits.{most_id, least_travel, most_travel, most_legs, most_listed, most_configurations, configuration_width}
use Rattle.rules.specs.Lists.{every, any, flat, over}
use Rattle.rules.specs.Answers.{judge}
use Rattle.rules.specs.Bytes.{less_return}
use Rattle.rules.specs.Timetable.{Row, form_of, ids_of, in_range, offers, listed, row_tests, judge_form, solution_fits}
use Rattle.rules.specs.declared.sizes.Configuration.{Configuration}
use Rattle.rules.proofs.Truth.{all_append, all_map, and_first, and_second}
use Rattle.rules.proofs.Lists.{flat_append, flat-length, over-more, over-length}
use Rattle.tables_ids.specs.Column.{column, is_new}
use Rattle.tables_ids.proofs.Written.{column-written, new_among}
use Rattle.timetable_row.specs.declared.line.Line.{Line}
use Rattle.timetable_row.specs.RowOver.{stopped_with, stored_at, range_holds, counts_hold, lowest, Bounded, next_line}
use Rattle.timetable_row.specs.Slots.{nominal_of, held_ids}
use Rattle.timetable.proofs.Words.{length_snoc, stored_fits}
use Rattle.timetable.proofs.Judge.{outcome, judge-lowest, lowest_none, lowest_positive, any_below}
use Rattle.timetable.proofs.Accept.{listed_more, above_grows}
use Rattle.solution_row.specs.Tests.{new_after, choice_tests, Earlier}
use Rattle.solution.specs.Said.{Alone, range_of, Said, SaidOf}
use Rattle.solution.specs.Before.{travels, packed, packed_row, counted_as, Counted, AfterRow, Turned}

-- how long the table's written part is
pub packed-length : (rows : List Row) → length (flat packed_row rows) ≡ length rows * configuration_width
packed-length rows = flat-length packed_row configuration_width (λ r. refl) rows

-- the counts do not change what a line says
said-counted : (H : ℕ) (r : Row) (line before : Line) → Said H r line → Said H r (counted_as line before)
said-counted H r line before s =
    record {
      going = s.going;
      range_is = s.range_is;
      entries_are = s.entries_are;
      listed_is = s.listed_is;
      ids_are = s.ids_are;
      nominal_is = s.nominal_is;
    }

pub counted-earlier : (alone before line : Line) (fresh : Option ℕ) (choices : List ℕ) → line ≡ counted_as alone before → Earlier before.rows fresh choices → Earlier line.rows fresh choices
counted-earlier alone before line fresh choices e h = rw e h

counted-line : (H : ℕ) (lent : List ℕ) (line before : Line) (choices : List ℕ) (rows : List Row) → line.fault ≡ None → Counted H lent before choices rows → Counted H lent (counted_as line before) choices rows
counted-line H lent line before choices rows f c =
    record {
      going = f;
      rows_are = c.rows_are;
      configurations_are_lem = c.configurations_are_lem;
      below = c.below;
      in_range_lem = c.in_range_lem;
      few = c.few;
      many = c.many;
      fits = c.fits;
      choices_are = c.choices_are;
    }

-- the ids of the rows before stand in the table
pub ids-written : {H : ℕ} {lent : List ℕ} {line : Line} {choices : List ℕ} {before : List Row} → Counted H lent line choices before
    → column configuration_width (length before) choices ≡ map (λ x. x.leg) before
unfolding over
ids-written {lent = lent} {before = before} c =
    rw c.choices_are (column-written packed_row configuration_width (omega arith) (λ x. refl) before (drop (length (flat packed_row before)) lent))

-- ---- the tests

module _ (H : ℕ) (lent : List ℕ) (line : Line) (choices : List ℕ) (before : List Row) (r : Row) (s : Said H r line) (c : Counted H lent line choices before) where
  abbrev counted : Bool
  counted = ltb (length before) most_legs && (leb (length r.list) most_listed && leb (listed before + length r.list) most_configurations)

  few_of : counted ≡ true → length r.list ≤ most_listed
  few_of e =
      leb-true (length r.list) most_listed
      (and_first (leb (length r.list) most_listed) (leb (listed before + length r.list) most_configurations)
      (and_second (ltb (length before) most_legs) (leb (length r.list) most_listed && leb (listed before + length r.list) most_configurations) e))

  few_is : length r.list ≤ most_listed → line.entries ≡ length r.list
  few_is h = s.entries_are ∙ omega arith

  counts_same : counts_hold line ≡ counted
  counts_same = rw (c.rows_are, c.configurations_are_lem) (go (leb (length r.list) most_listed) refl)
    where
      go : (t : Bool) → leb (length r.list) most_listed ≡ t
          → (ltb (length before) most_legs && (leb line.entries most_listed && leb (listed before + line.entries) most_configurations))
          ≡ (ltb (length before) most_legs && (t && leb (listed before + length r.list) most_configurations))
      go true e = let k : line.entries ≡ length r.list = few_is (leb-true (length r.list) most_listed e) in rw (k, e)
      go false e =
          let k : most_listed < line.entries = omega (arith, s.entries_are, leb-false (length r.list) most_listed e) in
          rw (lt-leb line.entries most_listed k)

  long : length choices ≡ length lent
  long = ap length c.choices_are ∙ over-length (flat packed_row before) lent (omega (arith, packed-length before, c.fits))

  leg_is_lem : range_of H r ≡ true → get_or line.numbers 0 0 ≡ r.leg
  leg_is_lem a = ap (λ (l : List ℕ). get_or l 0 0) (s.ids_are a)

  new_same : range_of H r ≡ true → new_after line.rows line.above (get_or line.numbers 0 0) choices ≡ not (any (λ b. eqb b.leg r.leg) before)
  new_same a = rw (leg_is_lem a, c.rows_are) (go (leb line.above r.leg) refl)
    where
      go : (t : Bool) → leb line.above r.leg ≡ t
          → cond t true (is_new r.leg (column configuration_width (length before) choices)) ≡ not (any (λ b. eqb b.leg r.leg) before)
      go true e = rw (any_below line.above r.leg (leb-true line.above r.leg e) before c.below)
      go false e = rw (ids-written c) (new_among (λ (x : Row). x.leg) r.leg before)

  room_same : ltb line.rows (length choices / configuration_width) ≡ solution_fits (length lent / configuration_width) before r
  room_same = rw (c.rows_are, long)

  -- the row is judged by the lowest number of the reader's tests
  judged : judge (row_tests H (solution_fits (length lent / configuration_width)) before r) r ≡ outcome (lowest (choice_tests H line choices)) r
  judged =
      judge-lowest r (range_of H r) counted (not (any (λ b. eqb b.leg r.leg) before)) (offers r.list r.nominal) (solution_fits (length lent / configuration_width) before r)
      (range_holds H line) (counts_hold line) (new_after line.rows line.above (get_or line.numbers 0 0) choices) (ltb line.nominal line.entries) (ltb line.rows (length choices / configuration_width))
      s.range_is counts_same new_same (λ a b. s.listed_is a (few_of b)) (λ b. room_same)

  -- ---- the row is right

  module _ (none-fails : lowest (choice_tests H line choices) ≡ None) where
    holds : (range_holds H line ≡ true) × (counts_hold line ≡ true) × (new_after line.rows line.above (get_or line.numbers 0 0) choices ≡ true)
        × (ltb line.nominal line.entries ≡ true) × (ltb line.rows (length choices / configuration_width) ≡ true)
    holds =
        lowest_none (range_holds H line) (counts_hold line) (new_after line.rows line.above (get_or line.numbers 0 0) choices) (ltb line.nominal line.entries) (ltb line.rows (length choices / configuration_width)) none-fails

    ranged : range_of H r ≡ true
    ranged = sym s.range_is ∙ holds.0

    counts : counted ≡ true
    counts = sym counts_same ∙ holds.1

    legs_few : length before < most_legs
    legs_few = ltb-true (length before) most_legs (and_first (ltb (length before) most_legs) _ counts)

    all_few : listed before + length r.list ≤ most_configurations
    all_few =
        leb-true (listed before + length r.list) most_configurations (and_second (leb (length r.list) most_listed) _ (and_second (ltb (length before) most_legs) _ counts))

    nominal_right : in_range H r.nominal ≡ true
    nominal_right = and_first (in_range H r.nominal) (every (in_range H) r.list) (and_second (every (λ id. leb id most_id) (ids_of r)) _ ranged)

    room : length before < length lent / configuration_width
    room = ltb-true (length before) (length lent / configuration_width) (sym room_same ∙ holds.4)

    choices_now : (choices' : List ℕ) → choices' ≡ stored_at configuration_width line.rows (packed (get_or line.numbers 0 0) (nominal_of line.numbers)) choices
        → choices' ≡ over (flat packed_row (before ++ r ∷ [])) lent
    choices_now choices' e =
        let written : List ℕ = flat packed_row before in
        let one : List ℕ = packed_row r in
        let at : line.rows * configuration_width ≡ length written = ap (λ (n : ℕ). n * configuration_width) c.rows_are ∙ sym (packed-length before) in
        let inside : length written + length one ≤ length lent = omega (arith, packed-length before, room) in
        e
        ∙ stored_fits configuration_width line.rows (packed (get_or line.numbers 0 0) (nominal_of line.numbers)) choices (omega (arith, c.rows_are, long, room))
        ∙ ap (λ (n : ℕ). sets choices (line.rows * configuration_width) (packed n (nominal_of line.numbers))) (leg_is_lem ranged)
        ∙ ap (λ (x : Configuration). sets choices (line.rows * configuration_width) (packed r.leg x)) (s.nominal_is ranged)
        ∙ ap (λ (k : ℕ). sets choices k one) at
        ∙ ap (λ (l : List ℕ). sets l (length written) one) c.choices_are
        ∙ over-more written lent one inside
        ∙ ap (λ (l : List ℕ). over l lent) (sym (flat_append packed_row before (r ∷ [])))

    accepted : (choices' : List ℕ) (at : ℕ) → choices' ≡ stored_at configuration_width line.rows (packed (get_or line.numbers 0 0) (nominal_of line.numbers)) choices
        → Counted H lent (next_line line at) choices' (before ++ r ∷ [])
    accepted choices' at e =
        let grows = above_grows line.above (get_or line.numbers 0 0) in
        let top : ℕ = cond (leb line.above (get_or line.numbers 0 0)) (get_or line.numbers 0 0 + 1) line.above in
        let more : listed (before ++ r ∷ []) ≡ listed before + length r.list = listed_more before r in
        let one : length (before ++ r ∷ []) ≡ suc (length before) = length_snoc before r in
        record {
          going = c.going;
          rows_are = omega (arith, c.rows_are);
          configurations_are_lem = omega (arith, c.configurations_are_lem, few_is (few_of counts));
          below =
              all_append (λ (x : Row). x.leg < top) before (r ∷ [])
              (all_map (λ (x : Row). x.leg < line.above) (λ (x : Row). x.leg < top) (λ x h. omega (arith, grows.0)) before c.below)
              (omega (arith, leg_is_lem ranged, grows.1), tt);
          in_range_lem = all_append (λ (x : Row). in_range H x.nominal ≡ true) before (r ∷ []) c.in_range_lem (nominal_right, tt);
          few = omega (arith, legs_few);
          many = omega (arith, all_few);
          fits = omega (arith, room);
          choices_are = choices_now choices' e;
        }

-- ---- the three ways of a line

module _ (H : ℕ) (bytes : List ℕ) (before alone line' : Line) (choices choices' : List ℕ) (said : SaidOf H (form_of (less_return bytes)) alone) where
  by_form : ((lent : List ℕ) (rows : List Row) → Counted H lent before choices rows → (f : Option Row) → SaidOf H f alone
      → AfterRow H lent line' choices' rows (judge_form H (solution_fits (length lent / configuration_width)) rows f)) → Turned H bytes before choices line' choices'
  by_form h = record { turns = λ lent rows c. h lent rows c (form_of (less_return bytes)) said }

  -- it breaks a row's form
  broken : (alone.fault ≡ None → ⊥) → line' ≡ alone → choices' ≡ choices → Turned H bytes before choices line' choices'
  broken f l e = by_form go
    where
      go : (lent : List ℕ) (rows : List Row) → Counted H lent before choices rows → (o : Option Row) → SaidOf H o alone
          → AfterRow H lent line' choices' rows (judge_form H (solution_fits (length lent / configuration_width)) rows o)
      go lent rows c None s = (ap (λ (x : Line). x.fault) l ∙ s, omega arith)
      go lent rows c (Some r) s = absurd (f s.going)

  module _ (line : Line) (k : Option ℕ) (right-form : alone.fault ≡ None) (line-is : line ≡ counted_as alone before) (lowest_is : k ≡ lowest (choice_tests H line choices)) where
    -- what is to be shown of the row
    by_judging : ((lent : List ℕ) (rows : List Row) (r : Row) → Said H r line → Counted H lent line choices rows → AfterRow H lent line' choices' rows (outcome k r))
        → Turned H bytes before choices line' choices'
    by_judging h = by_form go
      where
        go : (lent : List ℕ) (rows : List Row) → Counted H lent before choices rows → (o : Option Row) → SaidOf H o alone
            → AfterRow H lent line' choices' rows (judge_form H (solution_fits (length lent / configuration_width)) rows o)
        go lent rows c None s = cc (s, right-form)
        go lent rows c (Some r) s =
            let s' : Said H r line = rw line-is (said-counted H r alone before s) in
            let c' : Counted H lent line choices rows = rw line-is (counted-line H lent alone before choices rows right-form c) in
            rw (judged H lent line choices rows r s' c', ← lowest_is) (h lent rows r s' c')

    faulty : (j : ℕ) → k ≡ Some j → line' ≡ stopped_with line j → choices' ≡ choices → Turned H bytes before choices line' choices'
    faulty j z l e = by_judging (λ lent rows r s c. rw z (ap (λ (x : Line). x.fault) l, positive))
      where
        positive : 0 < j
        positive =
            lowest_positive (range_holds H line) (counts_hold line) (new_after line.rows line.above (get_or line.numbers 0 0) choices) (ltb line.nominal line.entries)
            (ltb line.rows (length choices / configuration_width)) j (sym z ∙ lowest_is)

    pub turned_right : k ≡ None → choices' ≡ stored_at configuration_width line.rows (packed (get_or line.numbers 0 0) (nominal_of line.numbers)) choices → line' ≡ next_line line 0
        → Turned H bytes before choices line' choices'
    turned_right z e l =
        by_judging
        (λ lent rows r s c.
        rw (z, l)
        (accepted H lent line choices rows r s c (sym lowest_is ∙ z) choices' 0 e, s.ids_are (ranged H lent line choices rows r s c (sym lowest_is ∙ z))))

-- a row at fault leaves the table as it was
pub turned-broken : (H : ℕ) (bytes : List ℕ) (before alone : Line) (choices : List ℕ) → SaidOf H (form_of (less_return bytes)) alone → (alone.fault ≡ None → ⊥) → Turned H bytes before choices alone choices
turned-broken H bytes before alone choices said f = broken H bytes before alone alone choices choices said f refl refl

pub turned_fault : (H : ℕ) (bytes : List ℕ) (before alone line line' : Line) (k : Option ℕ) (j : ℕ) (choices : List ℕ) → SaidOf H (form_of (less_return bytes)) alone → alone.fault ≡ None → line ≡ counted_as alone before
    → k ≡ lowest (choice_tests H line choices) → k ≡ Some j → line' ≡ stopped_with line j → Turned H bytes before choices line' choices
turned_fault H bytes before alone line line' k j choices said f e l z s = faulty H bytes before alone line' choices choices said line k f e l j z s refl

-- ---- what the code knows of a row with no fault

module _ (H : ℕ) (line : Line) (choices : List ℕ) (k : Option ℕ) (lowest_is : k ≡ lowest (choice_tests H line choices)) (z : k ≡ None) where
  passes : (range_holds H line ≡ true) × (counts_hold line ≡ true) × (new_after line.rows line.above (get_or line.numbers 0 0) choices ≡ true)
      × (ltb line.nominal line.entries ≡ true) × (ltb line.rows (length choices / configuration_width) ≡ true)
  passes =
      lowest_none (range_holds H line) (counts_hold line) (new_after line.rows line.above (get_or line.numbers 0 0) choices) (ltb line.nominal line.entries) (ltb line.rows (length choices / configuration_width)) (sym lowest_is ∙ z)

  ids_low : every (λ id. leb id most_id) (held_ids line.numbers) ≡ true
  ids_low = and_first (every (λ id. leb id most_id) (held_ids line.numbers)) (in_range H (nominal_of line.numbers) && not line.wide) passes.0

  pub row_bounds : Bounded line 0
  row_bounds =
      record {
        at_low = omega arith;
        rows_low = ltb-true line.rows most_legs (and_first (ltb line.rows most_legs) _ passes.1);
        configurations_low =
            leb-true (line.configurations + line.entries) most_configurations (and_second (leb line.entries most_listed) _ (and_second (ltb line.rows most_legs) _ passes.1));
        id_low = leb-true (get_or line.numbers 0 0) most_id (and_first (leb (get_or line.numbers 0 0) most_id) (every (λ id. leb id most_id) (drop 1 (held_ids line.numbers))) ids_low);
      }

  -- departure plus travel is at most the horizon
  pub ends_by : (nominal_of line.numbers).departure + (nominal_of line.numbers).travel ≤ H
  ends_by =
      let n : Configuration = nominal_of line.numbers in
      let i = and_first (in_range H n) (not line.wide) (and_second (every (λ id. leb id most_id) (held_ids line.numbers)) _ passes.0) in
      let j = and_second (leb n.travel most_travel) _ (and_second (leb least_travel n.travel) _ i) in
      leb-true (n.departure + n.travel) H (and_first (leb (n.departure + n.travel) H) _ j)

  -- so it can be packed
  module _ {bytes : List ℕ} (alone : Alone H bytes) where
    pub product_fits : Fits w32 ((nominal_of line.numbers).departure * travels)
    product_fits = omega (arith, ends_by, alone.horizon)

    pub packed-fits : Fits w32 ((nominal_of line.numbers).departure * travels + (nominal_of line.numbers).travel)
    packed-fits = omega (arith, ends_by, alone.horizon)
