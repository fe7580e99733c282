-- The loop of the second pass: each way through its body. Assumes nothing.
use Rattle.std.specs.Prelude.{Ok, Err, Option, Some, None}
use Prim.Native.Nat.{ℕ, suc, ◌+◌, ◌*◌, ◌-◌, ◌≤◌, ◌<◌, min}
use mathlib.Core.Path.{◌≡◌, refl, sym, ap, ap₂, subst, ◌∙◌}
use mathlib.Core.Bool.{Bool, true, false, not, cond, ◌&&◌, ◌||◌}
use mathlib.Core.List.{List, [], ◌∷◌, ◌++◌, map}
use native.Mathlib.Omega.{arith}
use native.Mathlib.Numerals.{add-one}
use lib.Dec.{ltb, eqb}
use lib.ListN.{length, get_or, take, drop, length-append, length-drop, length-take, length-map, drop_of_length-le}
use lib.Seq.{length-sets}
use lib.IntN.{ℤ, pos, nat_abs, ◌+ℤ◌, +ℤ_idl}
use borrow.Author.Tests.{lt-ltb, le-ltb}
use Rattle.rules.specs.Limits.{most_text, most_events, node_width}
use Rattle.rules.specs.Lists.{any, same_list}
use Rattle.rules.specs.Answers.{◌needs◌, good}
use Rattle.rules.specs.Bytes.{line_feed, less_return}
use Rattle.rules.specs.Rows.{or_else, place_of_row}
use Rattle.rules.specs.Duties.{duty_column, later_rule, stays_rule, together_rule, sequence_rule, meets_rule, texts_rule, place_in, Event, Before, after, with_name, seen_at, is_train, time_text, follows, seq_after, meets, rules, lowest, broken_from, broken, balance_from}
use Rattle.text_read.specs.Places.{up_to}
use Rattle.duties_fields.specs.Fields.{content_in}
use Rattle.duties_row.specs.Rowed.{event_in}
use Rattle.duties_row.specs.Ruled.{rule_in}
use Rattle.duties_row.proofs.Ruling.{or_none, Exact, exact, exact_none, rule_is}
use Rattle.duties_nodes.specs.Nodes.{view}
use Rattle.duties_nodes.specs.Balances.{BumpRoom}
use Rattle.duties_nodes.proofs.Walking.{names_long}
use Rattle.duties.specs.Steps.{left_at, RowsAt, Ready}
use Rattle.duties.specs.Turns.{line_at, rest_at, Rules, ended_in, turned_in, TurnRoom, Starts, Judges, all_kept, one_broken}
use Rattle.duties.specs.declared.turns.Ruled.{Ruled}
use Rattle.duties.proofs.Viewing.{put_shows}
use Rattle.duties.proofs.Standing.{stands, stands_text, less_front}
use Rattle.duties.proofs.Passing.{rows_next}
use Rattle.duties.proofs.Turning.{line_cut, ended_long, turned-small, turned_long}
use Rattle.duties.proofs.Resting.{rest_is, Row, row_here, rest_end}
use Rattle.duties.proofs.Owing.{Like, first, later, turned-at, last-at, ended_past, turned-past, over_is, map_at}

-- ---- the lowest rule

-- none, where its number is 0
six_kept : (a b c d e f : Bool) → or_none (lowest (later_rule needs a ∷ stays_rule needs b ∷ together_rule needs c ∷ sequence_rule needs d ∷ meets_rule needs e ∷ texts_rule needs f ∷ [])) ≡ 0
    → lowest (later_rule needs a ∷ stays_rule needs b ∷ together_rule needs c ∷ sequence_rule needs d ∷ meets_rule needs e ∷ texts_rule needs f ∷ []) ≡ None
six_kept false b c d e f z = absurd (omega arith)
six_kept true false c d e f z = absurd (omega arith)
six_kept true true false d e f z = absurd (omega arith)
six_kept true true true false e f z = absurd (omega arith)
six_kept true true true true false f z = absurd (omega arith)
six_kept true true true true true false z = absurd (omega arith)
six_kept true true true true true true z = refl

rule_kept : (b : Before) (e : Event) → or_none (lowest (rules b e)) ≡ 0 → lowest (rules b e) ≡ None
rule_kept b e z =
    six_kept
    (ltb e.start e.end)
    (is_train e.type || same_list e.from e.to)
    (follows b.last e || not (any (same_list e.duty) b.seen))
    (eqb e.seq (cond (follows b.last e) (seq_after b.last) 1))
    (cond (follows b.last e) (meets b.last e) true)
    (same_list (time_text e.start) e.start_text && same_list (time_text e.end) e.end_text)
    z

rule_broken : (o : Option ℕ) (r : ℕ) → r ≡ or_none o → (r ≡ 0 → ⊥) → o ≡ Some r
rule_broken None r e n = absurd (n e)
rule_broken (Some k) r e n = ap Some (sym e)

-- ---- the loop's invariant: what the rows before left, and what the rows that are left will give

pub record Judging (text table : List ℕ) (n : ℕ) (d₀ : List ℕ) (z₀ : List ℤ) (from place last row m : ℕ) (d : List ℕ) (z : List ℤ) : Type 0 where
  pub room : ℕ
  pub before : List Event
  pub left : left_at room text place before ≡ good (rest_at text from)
  pub count : row ≡ length before
  pub rows_at : RowsAt text row place
  pub within : place ≤ length text
  pub prev : Option Event
  pub like : Like prev (line_at text last)
  pub exact_last : Exact (line_at text last)
  pub rules_left : broken_from row (record { seen = view text d m; last = prev }) (rest_at text place) ≡ broken (rest_at text from)
  pub duties_few : m ≤ row
  pub long_d : length d ≡ length d₀
  pub long_z : length z ≡ length z₀
  pub owed : (k : ℕ) → k < n → get_or z k (pos 0) +ℤ balance_from prev (rest_at text place) (get_or (view text table n) k []) ≡ balance_from None (rest_at text from) (get_or (view text table n) k [])
  pub past : (k : ℕ) → n ≤ k → get_or z k (pos 0) ≡ get_or z₀ k (pos 0)
  pub low : (k : ℕ) → k < n → nat_abs (get_or z k (pos 0)) ≤ row * 2

line-none : (text : List ℕ) → line_at text (length text) ≡ []
unfolding line_at
line-none text = let e : drop (length text) text ≡ [] = drop_of_length-le text {i = length text} (omega arith) in ap (λ (s : List ℕ). less_return (take (up_to line_feed s) s)) e

module _ (text table : List ℕ) (n : ℕ) (d₀ : List ℕ) (z₀ : List ℤ) (from : ℕ) (g : Starts text table n d₀ z₀ from) where
  pub judge_begin : Judging text table n d₀ z₀ from from (length text) 0 0 d₀ z₀
  judge_begin =
      record {
        room = g.room;
        before = [];
        left = g.left;
        count = refl;
        rows_at = g.rows_at;
        within = g.within;
        prev = None;
        like = subst (λ (x : List ℕ). Like None x) (sym (line-none text)) first;
        exact_last = subst Exact (sym (line-none text)) exact_none;
        rules_left = refl;
        duties_few = omega arith;
        long_d = refl;
        long_z = refl;
        owed = λ k h. ap (λ (x : ℤ). x +ℤ balance_from None (rest_at text from) (get_or (view text table n) k [])) (g.zeros k h) ∙ +ℤ_idl (balance_from None (rest_at text from) (get_or (view text table n) k []));
        past = λ k h. refl;
        low = λ k h. omega (arith, ap nat_abs (g.zeros k h));
      }

  module _ (place last row m : ℕ) (d : List ℕ) (z : List ℤ) (h : Judging text table n d₀ z₀ from place last row m d z) where
    abbrev es : List Event
    es = rest_at text from

    abbrev line : List ℕ
    line = line_at text place

    abbrev B : List ℕ
    B = line_at text last

    rows_all : length es ≡ length h.before + length (rest_at text place)
    rows_all = ap length (rest_is h.room text place h.before es h.left) ∙ length-append h.before (rest_at text place)

    pub judge_room : place < length text → TurnRoom table n z 1
    judge_room w =
        record {
          nodes = g.nodes;
          places = omega (arith, g.places, h.long_z);
          low = λ k l. omega (arith, h.low k l, rows_all, h.count, g.few);
        }

    pub judge-end_room : BumpRoom table n z (pos 1)
    judge-end_room =
        record {
          nodes = g.nodes;
          places = omega (arith, g.places, h.long_z);
          low = λ k l. omega (arith, h.low k l, rows_all, h.count, g.few);
          one = omega arith;
        }

    -- the rows are over
    pub judge-end : length text ≤ place → (z' : List ℤ) → z' ≡ ended_in B (view text table n) z → Judges text table n z₀ from (Ok tt) z'
    judge-end l z' e =
        let none_left : rest_at text place ≡ [] = rest_end text place l in
        let names = view text table n in
        let long : length names ≡ n = names_long text table 0 n in
        let wide : length (map (balance_from None es) names) ≡ n = length-map names (balance_from None es) ∙ long in
        all_kept
        (sym h.rules_left ∙ ap (broken_from row (record { seen = view text d m; last = h.prev })) none_left)
        (over_is (pos 0) (map (balance_from None es) names) z₀ z' (omega (arith, g.places)) (ap length e ∙ ended_long text table n z B ∙ h.long_z)
        (λ k w.
        let v : k < n = omega arith in
        ap (λ (x : List ℤ). get_or x k (pos 0)) e
        ∙ sym (last-at text table n h.prev B h.like z (omega (arith, g.places, h.long_z)) k v)
        ∙ ap (λ (x : List Event). get_or z k (pos 0) +ℤ balance_from h.prev x (get_or names k [])) (sym none_left)
        ∙ h.owed k v
        ∙ sym (map_at (balance_from None es) names k (pos 0) (omega arith)))
        (λ k w. ap (λ (x : List ℤ). get_or x k (pos 0)) e ∙ ended_past text table n B z k (omega arith) ∙ h.past k (omega arith)))

    module _ (w : place < length text) where
      abbrev end : ℕ
      end = place + up_to line_feed (drop place text)

      here : Row h.room text place end h.before es
      here = row_here h.room text place end h.before es refl w h.left

      pub judge_few : row < most_events
      judge_few = omega (arith, rows_all, h.count, g.few, ap length here.rest)

      pub judge_ends : (f : ℕ) → f ≡ place + up_to line_feed (drop place text) → f < most_text
      judge_ends f e = omega (arith, here.ends, g.short)

      cut : line_at text place ≡ less_return (take (end - place) (drop place text))
      cut = sym (line_cut text place end refl)

      line_short : place + length line ≤ most_text
      line_short =
          let s = take (end - place) (drop place text) in
          let a : length line ≡ min (length line) (length s) = ap length (cut ∙ less_front s) ∙ length-take _ _ ∙ ap (λ (x : List ℕ). min (length x) (length s)) (sym cut) in
          let b : length s ≡ min (end - place) (length (drop place text)) = length-take (end - place) (drop place text) in
          omega (arith, length-drop place text, g.short)

      pub judge_ready : Ready d m place line duty_column
      judge_ready =
          record {
            fits = omega (arith, judge_few, h.duties_few, h.long_d, g.duties);
            near = record { short = line_short; some_byte = here.duty };
          }

      module _ (r : Ruled) (d' : List ℕ) (t : Rules text d m last place r d') where
        abbrev seen : List (List ℕ)
        seen = view text d m

        known : length seen ≡ m
        known = names_long text d 0 m

        fresh : ltb m r.duties ≡ not (any (same_list (content_in duty_column line)) seen)
        fresh = go (any (same_list (content_in duty_column line)) seen) t.puts.count
          where
            go : (b : Bool) → r.duties ≡ length (cond b seen (seen ++ content_in duty_column line ∷ [])) → ltb m r.duties ≡ not b
            go true e = le-ltb m r.duties (omega (arith, known))
            go false e = lt-ltb m r.duties (omega (arith, known, length-append seen (content_in duty_column line ∷ [])))

        abbrev so_far : Before
        so_far = record { seen = seen; last = h.prev }

        -- the rules of the definition, beside the line before
        lowest_like : (p : Option Event) (B : List ℕ) → Like p B → Exact B → rule_in (ltb m r.duties) B line ≡ or_none (lowest (rules (record { seen = seen; last = p }) (event_in line)))
        lowest_like p B (later k) x = rule_is seen B line (ltb m r.duties) fresh x here.range
        lowest_like p B first x =
            rule_is seen [] line (ltb m r.duties) fresh x here.range ∙ ap or_none (alike (follows (Some (event_in [])) (event_in line)) none-follows)
          where
            none-follows : same_list [] (content_in duty_column line) ≡ false
            none-follows = go (content_in duty_column line) here.duty
              where
                go : (s : List ℕ) → 1 ≤ length s → same_list [] s ≡ false
                go [] k = absurd (omega arith)
                go (b ∷ s) k = refl

            alike : (b : Bool) → b ≡ false
                → lowest
                (later_rule needs ltb (event_in line).start (event_in line).end
                ∷ stays_rule needs (is_train (event_in line).type || same_list (event_in line).from (event_in line).to)
                ∷ together_rule needs (b || not (any (same_list (event_in line).duty) seen))
                ∷ sequence_rule needs eqb (event_in line).seq (cond b (seq_after (Some (event_in []))) 1)
                ∷ meets_rule needs cond b (meets (Some (event_in [])) (event_in line)) true
                ∷ texts_rule needs (same_list (time_text (event_in line).start) (event_in line).start_text && same_list (time_text (event_in line).end) (event_in line).end_text)
                ∷ [])
                ≡ lowest (rules (record { seen = seen; last = None }) (event_in line))
            alike b e = rw e

        lowest_is : r.rule ≡ or_none (lowest (rules so_far (event_in line)))
        lowest_is = t.rule ∙ lowest_like h.prev B h.like h.exact_last

        one_row_lem : broken_from row so_far (event_in line ∷ rest_at text (end + 1)) ≡ broken es
        one_row_lem = sym (ap (broken_from row so_far) here.rest) ∙ h.rules_left

        pub judge-broken : (r.rule ≡ 0 → ⊥) → Judges text table n z₀ from (Err (record { row = row; rule = r.rule; place = place })) z
        judge-broken n =
            let a : row ≤ most_events = omega (arith, judge_few) in
            let b : place ≤ most_text = omega (arith, g.short) in
            let c : lowest (rules so_far (event_in line)) ≡ Some r.rule = rule_broken _ r.rule lowest_is n in
            let z0 : row + 0 ≡ row = omega arith in
            let p : place_of_row text row ≡ place + 0 = ap (place_of_row text) (sym z0) ∙ h.rows_at 0 in
            one_broken {b = record { row = row; rule = r.rule; place = place }} a b
            (sym one_row_lem ∙ ap (λ (o : Option ℕ). or_else row o (broken_from (suc row) (after so_far (event_in line)) (rest_at text (end + 1)))) c)
            (omega arith)

        module _ (k : r.rule ≡ 0) (z' : List ℤ) (e : z' ≡ turned_in B line (view text table n) z) where
          kept : broken_from (suc row) (after so_far (event_in line)) (rest_at text (end + 1)) ≡ broken es
          kept =
              let c : lowest (rules so_far (event_in line)) ≡ None = rule_kept so_far (event_in line) (sym lowest_is ∙ k) in
              sym (ap (λ (o : Option ℕ). or_else row o (broken_from (suc row) (after so_far (event_in line)) (rest_at text (end + 1)))) c) ∙ one_row_lem

          most : r.duties ≤ m + 1
          most = go (any (same_list (content_in duty_column line)) seen) t.puts.count
            where
              go : (b : Bool) → r.duties ≡ length (cond b seen (seen ++ content_in duty_column line ∷ [])) → r.duties ≤ m + 1
              go true e = omega (arith, known)
              go false e = omega (arith, known, length-append seen (content_in duty_column line ∷ []))

          shows : view text d' r.duties ≡ with_name seen (content_in duty_column line)
          shows =
              put_shows text d m (content_in duty_column line) (place + place_in duty_column line)
              (stands_text text place (end - place) line cut (place_in duty_column line) (content_in duty_column line) here.duty (stands line duty_column here.duty)).is
              r.duties d' known (omega (arith, most, judge_few, h.duties_few, h.long_d, g.duties)) t.puts

          long_line : 1 ≤ length line
          long_line = go line here.duty
            where
              go : (s : List ℕ) → 1 ≤ length (content_in duty_column s) → 1 ≤ length s
              go [] h = h
              go (b ∷ s) h = omega arith

          turned_low : (j : ℕ) → j < n → nat_abs (get_or z' j (pos 0)) ≤ (row + 1) * 2
          turned_low j v =
              let s : nat_abs (get_or (turned_in B line (view text table n) z) j (pos 0)) ≤ row * 2 + 2 = turned-small text table n z B line (omega (arith, g.places, h.long_z)) (row * 2) j v (h.low j v) in
              let q : nat_abs (get_or z' j (pos 0)) ≡ nat_abs (get_or (turned_in B line (view text table n) z) j (pos 0)) = ap (λ (x : List ℤ). nat_abs (get_or x j (pos 0))) e in
              omega arith

          pub judge_next : Judging text table n d₀ z₀ from (end + 1) place (row + 1) r.duties d' z'
          judge_next =
              record {
                room = h.room;
                before = h.before ++ event_in line ∷ [];
                left = here.left;
                count = omega (arith, h.count, length-append h.before (event_in line ∷ []));
                rows_at = rows_next text row place end h.within refl here.ends h.rows_at;
                within = omega (arith, here.ends);
                prev = Some (event_in line);
                like = later long_line;
                exact_last = exact line here.range;
                rules_left =
                    ap₂ (λ (j : ℕ) (s : List (List ℕ)). broken_from j (record { seen = s; last = Some (event_in line) }) (rest_at text (end + 1))) (add-one row) shows
                    ∙ kept;
                duties_few = omega (arith, most, h.duties_few);
                long_d = ap length t.puts.table ∙ length-sets d (m * node_width) (seen_at seen (content_in duty_column line) (place + place_in duty_column line)) ∙ h.long_d;
                long_z = ap length e ∙ turned_long text table n z B line ∙ h.long_z;
                owed = λ j v.
                    ap (λ (x : List ℤ). get_or x j (pos 0) +ℤ balance_from (Some (event_in line)) (rest_at text (end + 1)) (get_or (view text table n) j [])) e
                    ∙ sym (turned-at text table n h.prev B h.like line here.duty (rest_at text (end + 1)) z (omega (arith, g.places, h.long_z)) j v)
                    ∙ ap (λ (x : List Event). get_or z j (pos 0) +ℤ balance_from h.prev x (get_or (view text table n) j [])) (sym here.rest)
                    ∙ h.owed j v;
                past = λ j v. ap (λ (x : List ℤ). get_or x j (pos 0)) e ∙ turned-past text table n B line z j v ∙ h.past j v;
                low = turned_low;
              }

          -- as the code has the next place
          pub judge_on : (f : ℕ) → f ≡ place + up_to line_feed (drop place text) → Judging text table n d₀ z₀ from (f + 1) place (row + 1) r.duties d' z'
          judge_on f q = subst (λ (x : ℕ). Judging text table n d₀ z₀ from (x + 1) place (row + 1) r.duties d' z') (sym q) judge_next
