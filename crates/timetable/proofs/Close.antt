-- A number is closed by the separator that its slot wants, and by no other byte: what the reader holds keeps up with the row's machine. Assumes nothing.
use Prim.Native.Nat.{ℕ, zero, suc, ◌+◌, ◌≤◌, ◌<◌}
use mathlib.Core.Path.{◌≡◌, refl, ap, sym, ◌∙◌}
use mathlib.Core.Bool.{Bool, true, false, cond}
use mathlib.Core.List.{List, [], ◌∷◌, ◌++◌, append_assoc, append-nil, map-append}
use native.Mathlib.Omega.{arith}
use native.Mathlib.Numerals.{add-one}
use lib.Dec.{ltb}
use lib.ListN.{length, get_or, set, length-append, length-set, get_or-append}
use lib.Seq.{take-suc-set}
use borrow.Author.Tests.{ltb-true, ltb-false, lt-ltb, le-ltb, eq-eqb, ne_eqb}
use Rattle.std.proofs.lemmas.List.{get_or_default}
use Rattle.rules.specs.Limits.{most_listed}
use Rattle.rules.specs.Lists.{◌>>=◌}
use Rattle.rules.specs.Answers.{bad_row}
use Rattle.rules.specs.Bytes.{is_digit, space, underscore}
use Rattle.rules.specs.Timetable.{Row, configuration}
use Rattle.rules.specs.Verdict.{All}
use Rattle.rules.specs.declared.sizes.Configuration.{Configuration}
use Rattle.csv_machine.specs.Number.{Number, empty, number_step, number_end}
use Rattle.timetable_row.specs.declared.line.Line.{Line}
use Rattle.timetable_row.specs.Digits.{held}
use Rattle.timetable.specs.Open.{Open, partly, separate, open_step}
use Rattle.timetable_row.specs.Slots.{separators, last_slot, entry_slot, separator_of, nominal_of}
use Rattle.timetable.specs.Held.{Shaped, in_head, in_first, in_second, in_third, line_with, kept_in, leading, same_held, Opened, Tables, tables, InLine, AfterByte, Entered, Closed}
use Rattle.timetable_row.specs.RowOver.{stopped_with}
use Rattle.timetable.proofs.Words.{length_snoc}
use Rattle.std.specs.Prelude.{Some, None}

-- ---- which byte closes a number

no_digits : (bs : List ℕ) (k : ℕ) → All (λ b. is_digit b ≡ false) bs → is_digit (get_or bs k space) ≡ false
no_digits [] k f = refl
no_digits (b ∷ bs) zero f = f.0
no_digits (b ∷ bs) (suc k) f = no_digits bs k f.1

no_digit_lem : (slot : ℕ) → is_digit (separator_of slot) ≡ false
no_digit_lem slot =
    no_digits (separators ++ underscore ∷ underscore ∷ []) slot (refl, (refl, (refl, (refl, (refl, (refl, (refl, (refl, (refl, (refl, tt))))))))))

head_separator : (closed : List ℕ) → length closed < entry_slot → separator_of (length (closed ++ [])) ≡ get_or separators (length closed) 0
head_separator closed h =
    ap (λ (l : List ℕ). separator_of (length l)) (append-nil closed)
    ∙ get_or-append separators (underscore ∷ underscore ∷ []) space (length closed) h
    ∙ get_or_default separators (length closed) space 0 h

-- how many numbers stand before an entry's first, second and third
pub entry_slot_lem : (closed entry : List ℕ) (k : ℕ) → length closed ≡ entry_slot → length entry ≡ k → length (closed ++ entry) ≡ entry_slot + k
entry_slot_lem closed entry k e f = length-append closed entry ∙ ap (λ (n : ℕ). n + length entry) e ∙ ap (λ (n : ℕ). entry_slot + n) f

-- no other byte
separate-none : (o : Open) (b v : ℕ) → Shaped o.closed o.list o.entry → (b ≡ separator_of (length (o.closed ++ o.entry)) → ⊥) → separate o b v ≡ None
separate-none o b v s n = go o.closed o.list o.entry o.number s n
  where
    go : (closed : List ℕ) (list : List Configuration) (entry : List ℕ) (m : Number) → Shaped closed list entry → (b ≡ separator_of (length (closed ++ entry)) → ⊥)
        → separate (partly closed list entry m) b v ≡ None
    go closed list entry m (in_head h) n = rw (lt-ltb (length closed) entry_slot h, ne_eqb b (get_or separators (length closed) 0) (λ q. n (q ∙ sym (head_separator closed h))))
    go closed list entry m (in_first e) n =
        rw (le-ltb (length closed) entry_slot (omega arith), ne_eqb b underscore (λ q. n (q ∙ ap separator_of (sym (entry_slot_lem closed [] 0 e refl)))))
    go closed list (d ∷ []) m (in_second e) n =
        rw (le-ltb (length closed) entry_slot (omega arith), ne_eqb b underscore (λ q. n (q ∙ ap separator_of (sym (entry_slot_lem closed (d ∷ []) 1 e refl)))))
    go closed list (d ∷ t ∷ []) m (in_third e) n =
        rw (le-ltb (length closed) entry_slot (omega arith), ne_eqb b space (λ q. n (q ∙ ap separator_of (sym (entry_slot_lem closed (d ∷ t ∷ []) 2 e refl)))))

-- the row's machine at a byte that the open number does not take
step_other : (o : Open) (b v : ℕ) → is_digit b ≡ false → number_end o.number ≡ Some v → open_step o b ≡ separate o b v
unfolding open_step
step_other o b v d e = rw (d, e)

step_none : (o : Open) (b v : ℕ) → number_end o.number ≡ Some v → number_step o.number b ≡ None → separate o b v ≡ None → open_step o b ≡ None
unfolding open_step
step_none o b v e q n = go (is_digit b)
  where
    go : (d : Bool) → cond d (number_step o.number b >>= (λ m. Some (partly o.closed o.list o.entry m))) (number_end o.number >>= (λ n. separate o b n)) ≡ None
    go true = rw q
    go false = rw e n

-- ---- another byte: the row breaks its form

pub close_stop : (H : ℕ) (line line' : Line) (n b : ℕ) (table : List ℕ) (w : ℕ) → w ≡ separator_of line.slot → (b ≡ w → ⊥) → line' ≡ stopped_with line bad_row
    → Closed H line n b line' table table
close_stop H line line' n b table w ws other l =
    record {
      closes = λ lent legs place before o v g e nv q.
          let none_of : separate o b v ≡ None =
          separate-none o b v g.opened.shaped (λ z. other (z ∙ ap separator_of (sym g.opened.slot_is) ∙ sym ws)) in
          rw (step_none o b v e q none_of, l) (refl, g.placed);
    }

-- ---- the separator: one number more

more-opened : {H slot : ℕ} {numbers : List ℕ} {entries nominal : ℕ} {wide : Bool} {closed : List ℕ} {list : List Configuration} {entry : List ℕ}
    → Opened H slot numbers entries nominal wide closed list entry → slot < last_slot → (v : ℕ) (closed' entry' : List ℕ) → Shaped closed' list entry'
    → closed' ++ entry' ≡ closed ++ entry ++ v ∷ [] → (length list ≤ most_listed → nominal ≡ leading (same_held (nominal_of closed')) list)
    → Opened H (slot + 1) (set numbers slot (held v)) entries nominal wide closed' list entry'
more-opened {slot = slot} {numbers = numbers} {closed = closed} {entry = entry} o h v closed' entry' s e nominal =
    record {
      shaped = s;
      slot_is = rw (e, length_snoc (closed ++ entry) v) (add-one slot ∙ ap suc o.slot_is);
      ten = length-set numbers slot (held v) ∙ o.ten;
      numbers_are =
          rw (add-one slot, e, map-append held (closed ++ entry) (v ∷ []))
          (take-suc-set numbers slot (held v) (omega (arith, o.ten)) ∙ ap (λ (l : List ℕ). l ++ held v ∷ []) o.numbers_are);
      entries_are = o.entries_are;
      wide_is = o.wide_is;
      nominal_is = nominal;
    }

-- after the eighth number the list begins
head_next : (closed : List ℕ) (v : ℕ) → length closed < entry_slot → Shaped (closed ++ v ∷ []) [] []
head_next closed v k = go (ltb (suc (length closed)) entry_slot) refl
  where
    go : (t : Bool) → ltb (suc (length closed)) entry_slot ≡ t → Shaped (closed ++ v ∷ []) [] []
    go true e = let h : length (closed ++ v ∷ []) < entry_slot = omega (arith, ltb-true (suc (length closed)) entry_slot e, length_snoc closed v) in in_head h
    go false e = let h : length (closed ++ v ∷ []) ≡ entry_slot = omega (arith, ltb-false (suc (length closed)) entry_slot e, length_snoc closed v) in in_first h

module _ (H : ℕ) (line : Line) (n b : ℕ) (table : List ℕ) (w : ℕ) (ws : w ≡ separator_of line.slot) (bw : b ≡ w) where
  -- the row's machine goes on to the next slot
  to_next : (o : Open) (v : ℕ) (next : Open) → line.slot ≡ length (o.closed ++ o.entry) → number_end o.number ≡ Some v
      → separate o (separator_of (length (o.closed ++ o.entry))) v ≡ Some next → open_step o b ≡ Some next
  to_next o v next s e q =
      let k : b ≡ separator_of line.slot = bw ∙ ws in
      step_other o b v (ap is_digit k ∙ no_digit_lem line.slot) e ∙ ap (λ (x : ℕ). separate o x v) (k ∙ ap separator_of s) ∙ q

  -- a number before the list, or the first or second of an entry
  pub close_slot : line.slot < last_slot → Closed H line n b (kept_in line n) table table
  close_slot h =
      record {
        closes = λ lent legs place before o v g e nv q. rw nv (go lent legs place before o v g e g.opened.shaped);
      }
    where
      moved : (v : ℕ) → Line
      moved v = line_with line (line.slot + 1) (set line.numbers line.slot (held v)) line.entries line.nominal line.wide

      held_on : (lent : Tables) (legs : List ℕ) (place : ℕ) (before : List Row) (closed : List ℕ) (list : List Configuration) (entry : List ℕ)
          → InLine H lent line (tables legs table) place before closed list entry → (v : ℕ) (closed' entry' : List ℕ) → Shaped closed' list entry'
          → closed' ++ entry' ≡ closed ++ entry ++ v ∷ [] → (length list ≤ most_listed → line.nominal ≡ leading (same_held (nominal_of closed')) list)
          → InLine H lent (moved v) (tables legs table) place before closed' list entry'
      held_on lent legs place before closed list entry g v closed' entry' s e nominal =
          record {
            horizon = g.horizon;
            going = g.going;
            placed = g.placed;
            opened = more-opened g.opened h v closed' entry' s e nominal;
            rowed = g.rowed;
            long = g.long;
            kept = g.kept;
          }

      go : (lent : Tables) (legs : List ℕ) (place : ℕ) (before : List Row) (o : Open) (v : ℕ)
          → InLine H lent line (tables legs table) place before o.closed o.list o.entry → number_end o.number ≡ Some v → Shaped o.closed o.list o.entry
          → AfterByte H lent (moved v) (tables legs table) place before (open_step o b)
      go lent legs place before o v g e s = by_shape o.closed o.list o.entry o.number g e s
        where
          by_shape : (closed : List ℕ) (list : List Configuration) (entry : List ℕ) (m : Number)
              → InLine H lent line (tables legs table) place before closed list entry → number_end m ≡ Some v → Shaped closed list entry
              → AfterByte H lent (moved v) (tables legs table) place before (open_step (partly closed list entry m) b)
          by_shape closed list entry m g e (in_head k) =
              let o : Open = partly closed [] [] m in
              let next : Open = partly (closed ++ v ∷ []) [] [] empty in
              let at : separate o (separator_of (length (closed ++ []))) v ≡ Some next =
              rw (lt-ltb (length closed) entry_slot k, head_separator closed k, eq-eqb (get_or separators (length closed) 0) (get_or separators (length closed) 0) refl) in
              rw (to_next o v next g.opened.slot_is e at) (
                held_on lent legs place before closed [] [] g v (closed ++ v ∷ []) [] (head_next closed v k)
                    (append-nil (closed ++ v ∷ []) ∙ ap (λ (l : List ℕ). l ++ v ∷ []) (sym (append-nil closed)))
                    g.opened.nominal_is,
                refl,
              )
          by_shape closed list [] m g e (in_first k) =
              let o : Open = partly closed list [] m in
              let next : Open = partly closed list (v ∷ []) empty in
              let at : separate o (separator_of (length (closed ++ []))) v ≡ Some next = rw (entry_slot_lem closed [] 0 k refl, le-ltb (length closed) entry_slot (omega arith)) in
              rw (to_next o v next g.opened.slot_is e at)
              (held_on lent legs place before closed list [] g v closed (v ∷ []) (in_second k) (ap (λ (l : List ℕ). l ++ v ∷ []) (sym (append-nil closed))) g.opened.nominal_is, refl)
          by_shape closed list (d ∷ []) m g e (in_second k) =
              let o : Open = partly closed list (d ∷ []) m in
              let next : Open = partly closed list (d ∷ v ∷ []) empty in
              let at : separate o (separator_of (length (closed ++ d ∷ []))) v ≡ Some next = rw (entry_slot_lem closed (d ∷ []) 1 k refl, le-ltb (length closed) entry_slot (omega arith)) in
              rw (to_next o v next g.opened.slot_is e at)
              (held_on lent legs place before closed list (d ∷ []) g v closed (d ∷ v ∷ []) (in_third k) (sym (append_assoc closed (d ∷ []) (v ∷ []))) g.opened.nominal_is, refl)
          by_shape closed list (d ∷ t ∷ []) m g e (in_third k) = absurd (omega (arith, g.opened.slot_is, entry_slot_lem closed (d ∷ t ∷ []) 2 k refl))

  pub close_kept : (line' : Line) → line.slot < last_slot → line' ≡ kept_in line n → Closed H line n b line' table table
  close_kept line' h e = rw e (close_slot h)

  -- the third number of an entry
  pub close_entry_lem : (line' : Line) (table' : List ℕ) → last_slot ≤ line.slot → Entered H line n line' table table' → Closed H line n b line' table table'
  close_entry_lem line' table' h x =
      record {
        closes = λ lent legs place before o v g e nv q. go lent legs place before o.closed o.list o.entry o.number v g e nv g.opened.shaped;
      }
    where
      go : (lent : Tables) (legs : List ℕ) (place : ℕ) (before : List Row) (closed : List ℕ) (list : List Configuration) (entry : List ℕ) (m : Number) (v : ℕ)
          → InLine H lent line (tables legs table) place before closed list entry → number_end m ≡ Some v → n ≡ held v → Shaped closed list entry
          → AfterByte H lent line' (tables legs table') place before (open_step (partly closed list entry m) b)
      go lent legs place before closed list entry m v g e nv (in_head k) = absurd (omega (arith, g.opened.slot_is, ap length (append-nil closed)))
      go lent legs place before closed list entry m v g e nv (in_first k) = absurd (omega (arith, g.opened.slot_is, entry_slot_lem closed [] 0 k refl))
      go lent legs place before closed list (d ∷ []) m v g e nv (in_second k) = absurd (omega (arith, g.opened.slot_is, entry_slot_lem closed (d ∷ []) 1 k refl))
      go lent legs place before closed list (d ∷ t ∷ []) m v g e nv (in_third k) =
          let o : Open = partly closed list (d ∷ t ∷ []) m in
          let next : Open = partly closed (list ++ configuration d t v ∷ []) [] empty in
          let at : separate o (separator_of (length (closed ++ d ∷ t ∷ []))) v ≡ Some next = rw (entry_slot_lem closed (d ∷ t ∷ []) 2 k refl, le-ltb (length closed) entry_slot (omega arith)) in
          rw (to_next o v next g.opened.slot_is e at) (x.entered lent legs place before closed list d t v g nv, refl)
