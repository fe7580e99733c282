-- The loop of the first pass: each way through its body. Assumes nothing.
use Rattle.std.specs.Prelude.{Ok, Err}
use Prim.Native.Nat.{ℕ, zero, suc, ◌+◌, ◌*◌, ◌-◌, ◌≤◌, ◌<◌, min}
use mathlib.Core.Path.{◌≡◌, refl, sym, ap, ap₂, ◌∙◌}
use mathlib.Core.Bool.{Bool, true, false, cond, ◌&&◌}
use mathlib.Core.List.{List, [], ◌∷◌, ◌++◌, append_assoc, append-nil}
use native.Mathlib.Omega.{arith}
use lib.Dec.{leb, ltb}
use lib.ListN.{length, take, drop, length-drop, length-take, length-append}
use lib.Seq.{sets, length-sets, length-take-le}
use borrow.Author.Tests.{leb-true, ltb-true}
use Rattle.rules.specs.Limits.{node_width, most_text, most_events, most_nodes}
use Rattle.rules.specs.Answers.{bad_row, out_of_range, too_many, unknown_name, no_room}
use Rattle.rules.specs.Lists.{any, same_list, over}
use Rattle.rules.specs.Bytes.{line_feed, start_of, less_return}
use Rattle.rules.specs.Rows.{place_of_row}
use Rattle.rules.proofs.Lists.{over-more}
use Rattle.text_read.proofs.Laws.{pieces_next}
use Rattle.rules.proofs.Truth.{and_first, and_second}
use Rattle.text_read.specs.Places.{up_to}
use Rattle.rules.specs.Duties.{Event, with_name, with_nodes, nodes_from, nodes_of, places_from, row_of, seen_at, is_name, is_known, place_in, from_column, to_column, duty_column, type_column}
use Rattle.duties_fields.specs.Fields.{content_in, is_ten}
use Rattle.duties_row.specs.Rowed.{is_row, is_named, has_wholes, in_range, event_in, line_fault, count_fault, or_fault, judged_by}
use Rattle.duties_nodes.specs.Nodes.{names_from, view, with_both}
use Rattle.duties.specs.Steps.{row_fault, RowsAt, Good, PutsBoth, Begins, Holding, Passes, all_read, at_fault}
use Rattle.duties.proofs.Viewing.{step_judged, put_shows, not_fewer}
use Rattle.duties.proofs.Standing.{stands, stands_text, less_front}
use Rattle.duties.proofs.Holding.{row_good, row_wrong, row_open, rows_end, nodes_next}

-- ---- what no fault says

pub or_zero_lem : (a b : ℕ) → or_fault a b ≡ 0 → (a ≡ 0) × (b ≡ 0)
or_zero_lem zero b e = (refl, e)
or_zero_lem (suc a) b e = absurd (omega arith)

pub line_zero : (r i : Bool) → ◌≡◌ {A = ℕ} (cond r (cond i 0 out_of_range) bad_row) 0 → r ≡ true
line_zero true i e = refl
line_zero false i e = absurd (omega arith)

count_zero : (a b k r : Bool) → ◌≡◌ {A = ℕ} (cond (a && b) (cond k (cond r 0 no_room) unknown_name) too_many) 0 → (a ≡ true) × (b ≡ true) × (r ≡ true)
count_zero false b k r e = absurd (omega arith)
count_zero true false k r e = absurd (omega arith)
count_zero true true false r e = absurd (omega arith)
count_zero true true true false e = absurd (omega arith)
count_zero true true true true e = (refl, refl, refl)

pub view_long : (text t : List ℕ) (i n : ℕ) → length (names_from text t i n) ≡ n
view_long text t i zero = refl
view_long text t i (suc n) = ap suc (view_long text t (i + 1) n)

pub name_byte_lem : (s : List ℕ) → is_name s ≡ true → 1 ≤ length s
name_byte_lem s e = leb-true 1 (length s) (and_first (leb 1 (length s)) _ e)

record Clean (N : List (List ℕ)) (rows room : ℕ) (line : List ℕ) : Type 0 where
  from : 1 ≤ length (content_in from_column line)
  to : 1 ≤ length (content_in to_column line)
  few : rows < most_events
  most : length (with_both N (content_in from_column line) (content_in to_column line)) ≤ most_nodes
  fits : length (with_both N (content_in from_column line) (content_in to_column line)) ≤ room

clean : (N : List (List ℕ)) (rows room : ℕ) (line : List ℕ) → row_fault N rows room line ≡ 0 → Clean N rows room line
clean N rows room line z =
    let nodes = length (with_both N (content_in from_column line) (content_in to_column line)) in
    let both = or_zero_lem (line_fault line) (count_fault line rows nodes room) z in
    let row : is_row line ≡ true = line_zero (is_row line) (in_range line) both.0 in
    let named : is_named line ≡ true = and_first (is_named line) (has_wholes line) (and_second (is_ten line) (is_named line && has_wholes line) row) in
    let rest = and_second (is_name (content_in duty_column line)) _ named in
    let counts = count_zero (ltb rows most_events) (leb nodes most_nodes) (is_known (content_in type_column line)) (leb nodes room) both.1 in
    record {
      from = name_byte_lem (content_in from_column line) (and_first (is_name (content_in from_column line)) _ rest);
      to = name_byte_lem (content_in to_column line) (and_first (is_name (content_in to_column line)) _ (and_second (is_name (content_in from_column line)) _ rest));
      few = ltb-true rows most_events counts.0;
      most = leb-true nodes most_nodes counts.1;
      fits = leb-true nodes room counts.2;
    }

-- ---- the table of places

over_none : (t : List ℕ) → over [] t ≡ t
unfolding over
over_none t = refl

-- two numbers for a node that is new
seen_wide : (N : List (List ℕ)) (x : List ℕ) (at n m : ℕ) → length N ≡ n → m ≡ length (with_name N x) → length (seen_at N x at) + n * node_width ≡ m * node_width
seen_wide N x at n m l e = go (any (same_list x) N) e
  where
    go : (b : Bool) → m ≡ length (cond b N (N ++ x ∷ [])) → length (cond b [] (at ∷ length x ∷ [])) + n * node_width ≡ m * node_width
    go true e = omega arith
    go false e = omega (arith, length-append N (x ∷ []))

module _ (text : List ℕ) where
  places_more : (i : ℕ) (N : List (List ℕ)) (es : List Event) (e : Event)
      → places_from text i N (es ++ e ∷ [])
      ≡ (places_from text i N es ++ seen_at (nodes_from N es) e.from (place_of_row text (i + length es) + e.from_at))
      ++ seen_at (with_name (nodes_from N es) e.from) e.to (place_of_row text (i + length es) + e.to_at)
  places_more i N [] e =
      let z : i + 0 ≡ i = omega arith in
      ap
      (λ (k : ℕ). (seen_at N e.from (place_of_row text k + e.from_at) ++ seen_at (with_name N e.from) e.to (place_of_row text k + e.to_at)) ++ [])
      (sym z)
      ∙ append-nil (seen_at N e.from (place_of_row text (i + 0) + e.from_at) ++ seen_at (with_name N e.from) e.to (place_of_row text (i + 0) + e.to_at))
  places_more i N (f ∷ es) e =
      let z : suc i + length es ≡ i + suc (length es) = omega arith in
      let A = seen_at N f.from (place_of_row text i + f.from_at) in
      let B = seen_at (with_name N f.from) f.to (place_of_row text i + f.to_at) in
      let M = nodes_from (with_nodes N f) es in
      let P = places_from text (suc i) (with_nodes N f) es in
      let C : ℕ → List ℕ = λ k. seen_at M e.from (place_of_row text k + e.from_at) in
      let D : ℕ → List ℕ = λ k. seen_at (with_name M e.from) e.to (place_of_row text k + e.to_at) in
      ap (λ (x : List ℕ). (A ++ B) ++ x) (places_more (suc i) (with_nodes N f) es e ∙ ap (λ (k : ℕ). (P ++ C k) ++ D k) z)
      ∙ simp append_assoc

  places_next : (es : List Event) (e : Event)
      → places_from text 0 [] (es ++ e ∷ [])
      ≡ (places_from text 0 [] es ++ seen_at (nodes_of es) e.from (place_of_row text (0 + length es) + e.from_at))
      ++ seen_at (with_name (nodes_of es) e.from) e.to (place_of_row text (0 + length es) + e.to_at)
  places_next es e = places_more 0 [] es e

  -- the rows that are left, after one more
  pub rows_next : (rows place end : ℕ) → place ≤ length text → end ≡ place + up_to line_feed (drop place text) → end < length text → RowsAt text rows place → RowsAt text (rows + 1) (end + 1)
  rows_next rows place end l q k h j =
      let z : rows + 1 + j ≡ rows + suc j = omega arith in
      let long : length (take (end - place) (drop place text)) ≡ end - place = length-take-le (end - place) (drop place text) (omega (arith, length-drop place text)) in
      ap (place_of_row text) z
      ∙ h (suc j)
      ∙ ap (λ (ps : List (List ℕ)). place + start_of (suc j) ps) (pieces_next text line_feed place end q k)
      ∙ omega (arith, long)

-- ---- the loop

pub begin_holds : (room : ℕ) (text t : List ℕ) (from : ℕ) → Begins room text t from → Holding room text from t from 0 0 t
begin_holds room text t from g =
    record { before = []; left = refl; count = refl; seen = refl; table = sym (over_none t); wide = omega arith; rows_at = g.rows_at; within = g.within; fits = omega arith; few = omega arith; most = omega arith; long = refl }

module _ (room : ℕ) (text : List ℕ) (from : ℕ) (t₀ : List ℕ) (place rows n : ℕ) (t : List ℕ) (h : Holding room text from t₀ place rows n t) where
  pub pass_end : length text ≤ place → Passes room text from t₀ (Ok (record { rows = rows; nodes = n })) t
  pass_end l = all_read {p = record { rows = rows; nodes = n }}
      h.before
      (record {
        left = sym h.left ∙ rows_end room text place h.before l;
        count = h.count;
        few = h.few;
        seen = h.seen;
        table = h.table;
        fits = h.fits;
        most = h.most;
        long = h.long;
      })

  module _ (g : Begins room text t₀ from) (end : ℕ) (q : end ≡ place + up_to line_feed (drop place text)) (l : place < length text) where
    pub pass_open : length text ≤ end → Passes room text from t₀ (Err (record { number = bad_row; place = place })) t
    pass_open k = let s : place ≤ most_text = omega (arith, g.short) in at_fault {f = record { number = bad_row; place = place }} s (sym h.left ∙ row_open room text place end h.before q l k)

    module _ (k : end < length text) (line : List ℕ) (e : line ≡ less_return (take (end - place) (drop place text))) (f : ℕ) (p : f ≡ row_fault (view text t n) rows room line) where
      judged : row_of room h.before (less_return (take (end - place) (drop place text))) ≡ judged_by f (event_in line)
      judged = ap (row_of room h.before) (sym e) ∙ step_judged room h.before line f rows (view text t n) h.count h.seen p

      pub pass_fault : (f ≡ 0 → ⊥) → Passes room text from t₀ (Err (record { number = f; place = place })) t
      pass_fault z = go f refl z
        where
          go : (x : ℕ) → f ≡ x → (x ≡ 0 → ⊥) → Passes room text from t₀ (Err (record { number = x; place = place })) t
          go zero w y = absurd (y refl)
          go (suc x) w y =
              let s : place ≤ most_text = omega (arith, g.short) in
              at_fault {f = record { number = suc x; place = place }}
              s
              (sym h.left
              ∙ row_wrong room text place end h.before q h.within k (suc x) (judged ∙ ap (λ (v : ℕ). judged_by v (event_in line)) w))

      line_short : place + length line ≤ most_text
      line_short =
          let a : length line ≡ min (length line) (length (take (end - place) (drop place text))) = ap length (e ∙ less_front (take (end - place) (drop place text))) ∙ length-take _ _ ∙ ap (λ (x : List ℕ). min (length x) (length (take (end - place) (drop place text)))) (sym e) in
          let b : length (take (end - place) (drop place text)) ≡ min (end - place) (length (drop place text)) = length-take (end - place) (drop place text) in
          omega (arith, length-drop place text, g.short)

      module _ (z : f ≡ 0) where
        fine : Clean (view text t n) rows room line
        fine = clean (view text t n) rows room line (sym p ∙ z)

        pub pass_good : Good text t n place line
        pass_good =
            record {
              fits = omega (arith, h.fits, h.long, g.room_fits);
              room = omega (arith, fine.fits, h.long, g.room_fits);
              from = record { short = line_short; some_byte = fine.from };
              to = record { short = line_short; some_byte = fine.to };
            }

        pub pass_next : (r : ℕ) (t' : List ℕ) → PutsBoth text t n place line r t' → Holding room text from t₀ (end + 1) (rows + 1) r t'
        pass_next r t' b =
            let u = b.between in
            let m = b.some_nodes in
            let c6 = content_in from_column line in
            let c7 = content_in to_column line in
            let lu : length u ≡ length t = ap length b.start.table ∙ length-sets t (n * node_width) (seen_at (view text t n) c6 (place + place_in from_column line)) in
            let lt : length t' ≡ length u = ap length b.end.table ∙ length-sets u (m * node_width) (seen_at (view text u m) c7 (place + place_in to_column line)) in
            let big : length (with_name (view text t n) c6) ≤ length (with_both (view text t n) c6 c7) = not_fewer (with_name (view text t n) c6) c7 in
            let fit : length (with_both (view text t n) c6 c7) ≤ room = fine.fits in
            let vu : view text u m ≡ with_name (view text t n) c6 =
            put_shows text t n c6 (place + place_in from_column line) (stands_text text place (end - place) line e (place_in from_column line) c6 fine.from (stands line from_column fine.from)).is
            m u (view_long text t 0 n) (omega (arith, b.start.count, h.long, g.room_fits)) b.start in
            let cr : r ≡ length (with_both (view text t n) c6 c7) = b.end.count ∙ ap (λ (x : List (List ℕ)). length (with_name x c7)) vu in
            let vt : view text t' r ≡ with_name (view text u m) c7 =
            put_shows text u m c7 (place + place_in to_column line) (stands_text text place (end - place) line e (place_in to_column line) c7 fine.to (stands line to_column fine.to)).is
            r t' (view_long text u 0 m) (omega (arith, h.long, g.room_fits)) b.end in
            let N = view text t n in
            let P = places_from text 0 [] h.before in
            let here : place_of_row text (0 + length h.before) ≡ place =
            let z : 0 + length h.before ≡ rows + 0 = omega (arith, h.count) in ap (place_of_row text) z ∙ h.rows_at 0 ∙ omega arith in
            let w = seen_at N c6 (place + place_in from_column line) in
            let v = seen_at (with_name N c6) c7 (place + place_in to_column line) in
            let lw : length w + n * node_width ≡ m * node_width = seen_wide N c6 (place + place_in from_column line) n m (view_long text t 0 n) b.start.count in
            let lv : length v + m * node_width ≡ r * node_width = seen_wide (with_name N c6) c7 (place + place_in to_column line) m r (sym b.start.count) cr in
            let lp : length (P ++ w) ≡ m * node_width = omega (arith, h.wide, length-append P w) in
            let more : places_from text 0 [] (h.before ++ event_in line ∷ []) ≡ (P ++ w) ++ v =
            places_next text h.before (event_in line)
            ∙ ap₂ (λ (N : List (List ℕ)) (k : ℕ). (P ++ seen_at N c6 (k + place_in from_column line)) ++ seen_at (with_name N c6) c7 (k + place_in to_column line)) (sym h.seen) here in
            let tu : u ≡ over (P ++ w) t₀ =
            b.start.table ∙ ap₂ (λ (x : List ℕ) (k : ℕ). sets x k w) h.table (sym h.wide) ∙ over-more P t₀ w (omega (arith, h.wide, g.room_fits, not_fewer (with_name N c6) c7)) in
            let tt : t' ≡ over ((P ++ w) ++ v) t₀ =
            b.end.table
            ∙ ap (λ (x : List (List ℕ)). sets u (m * node_width) (seen_at x c7 (place + place_in to_column line))) vu
            ∙ ap₂ (λ (x : List ℕ) (k : ℕ). sets x k v) tu (sym lp)
            ∙ over-more (P ++ w) t₀ v (omega (arith, g.room_fits)) in
            record {
              before = h.before ++ event_in line ∷ [];
              table = tt ∙ ap (λ (x : List ℕ). over x t₀) (sym more);
              wide = ap length more ∙ length-append (P ++ w) v ∙ omega arith;
              rows_at = rows_next text rows place end h.within q k h.rows_at;
              left = sym (row_good room text place end h.before q h.within k (event_in line) (judged ∙ ap (λ (v : ℕ). judged_by v (event_in line)) z)) ∙ h.left;
              count = omega (arith, h.count, length-append h.before (event_in line ∷ []));
              seen = vt ∙ ap (λ (x : List (List ℕ)). with_name x c7) (vu ∙ ap (λ (x : List (List ℕ)). with_name x c6) h.seen) ∙ sym (nodes_next h.before (event_in line));
              within = omega arith;
              fits = omega arith;
              few = omega (arith, fine.few);
              most = omega (arith, fine.most);
              long = lt ∙ lu ∙ h.long;
            }
