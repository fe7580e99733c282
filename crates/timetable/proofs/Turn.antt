-- One turn of the loop over rows: the digits that the open number takes, and the byte after them. Assumes nothing.
use Prim.Native.Nat.{ℕ, suc, ◌+◌, ◌*◌, ◌-◌, ◌≤◌, ◌<◌}
use mathlib.Core.Path.{◌≡◌, refl, ap, sym, subst, ◌∙◌}
use mathlib.Core.Bool.{Bool, true, false, cond, true≢false}
use mathlib.Core.List.{List, [], ◌∷◌}
use native.Mathlib.Omega.{arith}
use native.Mathlib.Nat.{add-zero}
use native.Mathlib.Numerals.{add-one}
use lib.Dec.{leb, eqb}
use lib.ListN.{length, get_or, drop, length-drop}
use lib.Seq.{drop-cons, drop-drop, drop-length, get_or-drop}
use borrow.Author.Tests.{leb-true, ne_eqb}
use Rattle.std.specs.Prelude.{None, Some}
use Rattle.rules.specs.Bytes.{is_digit, digit_zero, digit_nine, line_feed, carriage_return, quote, comma}
use Rattle.rules.specs.Answers.{bad_row}
use Rattle.rules.specs.Timetable.{Row, timetable_header}
use Rattle.rules.specs.declared.sizes.Configuration.{Configuration}
use Rattle.rules.proofs.Truth.{and_second}
use Rattle.csv_machine.specs.Fold.{fold}
use Rattle.csv_machine.specs.Marks.{Marked}
use Rattle.csv_machine.specs.Number as Row
use Rattle.csv_machine.specs.Machine.{in_header, in_row, broken, stopped, Faulty, is_broken, is_stopped}
use Rattle.timetable_row.specs.declared.line.Line.{Line}
use Rattle.timetable_row.specs.declared.number.Number.{Number}
use Rattle.timetable_row.specs.declared.number.Number.TheVariants.{Empty, Zero, Digits}
use Rattle.timetable_row.specs.declared.number.Taken.{Taken}
use Rattle.timetable_row.specs.RowOver.{stopped_with}
use Rattle.timetable_row.specs.Digits.{held, taken, digits_from, first_from, taken_from}
use Rattle.timetable.specs.Held.{number_held, Tables, InLine}
use Rattle.csv_marks.specs.declared.Mark.{Mark}
use Rattle.csv_marks.specs.declared.Act.{Act}
use Rattle.csv_marks.specs.declared.Act.TheVariants.{To, Content, Broken}
use Rattle.csv_marks.specs.declared.Move.{Move}
use Rattle.csv_marks.specs.Turns.{marked, takes, plain_under, turned, moved_by, moved_under}
use Rattle.csv_marks.proofs.Follow.{plain_other}
use Rattle.csv_marks.proofs.Moves.{left}
use Rattle.timetable.specs.Open.{Open, Reached, partly, open_step, open_begins}
use Rattle.timetable.specs.Text.{Holds, drafted, Signed, line_begins, Leads}
use Rattle.timetable.proofs.Faults.{faulty_fold, faulty_held}
use Rattle.timetable.proofs.Lands.{lands_to, lands_broken, lands_left, lands_plain, lands_step}
use Rattle.timetable.proofs.Marking.{begins_is}

-- ---- a digit

other_byte : (b c : ℕ) → is_digit c ≡ false → is_digit b ≡ true → eqb b c ≡ false
other_byte b c f d = ne_eqb b c (λ e. true≢false (sym d ∙ ap is_digit e ∙ f))

digit_plain : (mark : Mark) (b : ℕ) → takes mark ≡ true → is_digit b ≡ true → plain_under mark b ≡ true
digit_plain mark b t d =
    plain_other mark b t (other_byte b quote refl d) (other_byte b carriage_return refl d) (other_byte b line_feed refl d) (other_byte b comma refl d)

digit_taken : (closed : List ℕ) (list : List Configuration) (entry : List ℕ) (m m' : Row.Number) (b : ℕ) → is_digit b ≡ true → Row.number_step m b ≡ Some m'
    → open_step (partly closed list entry m) b ≡ Some (partly closed list entry m')
unfolding open_step
digit_taken closed list entry m m' b d e = rw (d, e)

digit_held : (b : ℕ) → is_digit b ≡ true → held (b - digit_zero) ≡ b - digit_zero
digit_held b d = let k : b ≤ digit_nine = leb-true b digit_nine (and_second (leb digit_zero b) (leb b digit_nine) d) in omega arith

module _ (H : ℕ) (lent : Tables) (mark : Mark) (open_mark : takes mark ≡ true) where
  abbrev step : Reached → ℕ → Reached
  step = drafted H lent

  digit_step : (place n : ℕ) (before : List Row) (closed : List ℕ) (list : List Configuration) (entry : List ℕ) (m m' : Row.Number) (b : ℕ)
      → is_digit b ≡ true → Row.number_step m b ≡ Some m'
      → step (in_row place n before (marked mark (partly closed list entry m))) b ≡ in_row place (suc n) before (marked mark (partly closed list entry m'))
  digit_step place n before closed list entry m m' b d e =
      lands_step H lent place n before mark (partly closed list entry m) b (partly closed list entry m') (digit_plain mark b open_mark d) (other_byte b line_feed refl d)
      (digit_taken closed list entry m m' b d e)

  -- what the open number takes of a text
  pub record Took (m₀ : Row.Number) (s : List ℕ) (i : ℕ) (t : Taken) : Type 0 where
    pub count : ℕ
    pub number : Row.Number
    pub inside : count ≤ length s
    pub next_is : t.next ≡ i + count
    pub number_is : t.number ≡ number_held number
    pub stops : count < length s → Row.number_step number (get_or s count 0) ≡ None
    pub same : (place n : ℕ) (before : List Row) (closed : List ℕ) (list : List Configuration) (entry : List ℕ)
        → fold step (in_row place (n + count) before (marked mark (partly closed list entry number))) (drop count s)
        ≡ fold step (in_row place n before (marked mark (partly closed list entry m₀))) s

  -- nothing more
  took_none : (m : Row.Number) (s : List ℕ) (i : ℕ) → (0 < length s → Row.number_step m (get_or s 0 0) ≡ None) → Took m s i (taken (number_held m) i)
  took_none m s i h =
      record {
        count = 0;
        number = m;
        inside = omega arith;
        next_is = sym (add-zero i);
        number_is = refl;
        stops = h;
        same = λ place n before closed list entry.
            ap (λ (k : ℕ). fold step (in_row place k before (marked mark (partly closed list entry m))) s) (add-zero n);
      }

  -- a digit more
  took_one : (m₀ m : Row.Number) (b : ℕ) (s : List ℕ) (i : ℕ) (t : Taken) → is_digit b ≡ true → Row.number_step m₀ b ≡ Some m → Took m s (i + 1) t → Took m₀ (b ∷ s) i t
  took_one m₀ m b s i t d e w =
      record {
        count = suc w.count;
        number = w.number;
        inside = omega (arith, w.inside);
        next_is = w.next_is ∙ omega arith;
        number_is = w.number_is;
        stops = λ h. w.stops (omega arith);
        same = λ place n before closed list entry.
            let k : n + suc w.count ≡ suc n + w.count = omega arith in
            ap (λ (x : ℕ). fold step (in_row place x before (marked mark (partly closed list entry w.number))) (drop w.count s)) k
            ∙ w.same place (suc n) before closed list entry
            ∙ ap (λ (x : Reached). fold step x s) (sym (digit_step place n before closed list entry m₀ m b d e));
      }

  took_digit : (b : ℕ) (s : List ℕ) (v i : ℕ) (d : Bool) → is_digit b ≡ d
      → Took (Row.digits (v * 10 + (b - digit_zero))) s (i + 1) (digits_from (held (v * 10 + (b - digit_zero))) (i + 1) s)
      → Took (Row.digits v) (b ∷ s) i (cond d (digits_from (held (held v * 10 + (b - digit_zero))) (i + 1) s) (taken (Digits (held v)) i))
  took_digit b s v i true d w =
      let q : held (v * 10 + (b - digit_zero)) ≡ held (held v * 10 + (b - digit_zero)) = omega arith in
      let w' : Took (Row.digits (v * 10 + (b - digit_zero))) s (i + 1) (digits_from (held (held v * 10 + (b - digit_zero))) (i + 1) s) =
      subst (λ (x : ℕ). Took (Row.digits (v * 10 + (b - digit_zero))) s (i + 1) (digits_from x (i + 1) s)) q w in
      took_one (Row.digits v) (Row.digits (v * 10 + (b - digit_zero))) b s i (digits_from (held (held v * 10 + (b - digit_zero))) (i + 1) s) d (rw d) w'
  took_digit b s v i false d w = took_none (Row.digits v) (b ∷ s) i (λ h. rw d)

  took_digits : (s : List ℕ) (v i : ℕ) → Took (Row.digits v) s i (digits_from (held v) i s)
  took_digits [] v i = took_none (Row.digits v) [] i (λ h. absurd (omega arith))
  took_digits (b ∷ s) v i = took_digit b s v i (is_digit b) refl (took_digits s (v * 10 + (b - digit_zero)) (i + 1))

  took_begin : (b : ℕ) (s : List ℕ) (i : ℕ) (d : Bool) → is_digit b ≡ d → (z : Bool) → eqb b digit_zero ≡ z
      → Took Row.empty (b ∷ s) i (cond d (cond z (taken Zero (i + 1)) (digits_from (b - digit_zero) (i + 1) s)) (taken Empty i))
  took_begin b s i true d true z = took_one Row.empty Row.zero b s i (taken Zero (i + 1)) d (rw (d, z)) (took_none Row.zero s (i + 1) (λ h. refl))
  took_begin b s i true d false z =
      let q : held (b - digit_zero) ≡ b - digit_zero = digit_held b d in
      took_one Row.empty (Row.digits (b - digit_zero)) b s i (digits_from (b - digit_zero) (i + 1) s) d (rw (d, z))
      (subst (λ (x : ℕ). Took (Row.digits (b - digit_zero)) s (i + 1) (digits_from x (i + 1) s)) q (took_digits s (b - digit_zero) (i + 1)))
  took_begin b s i false d z q = took_none Row.empty (b ∷ s) i (λ h. rw d)

  took_first : (s : List ℕ) (i : ℕ) → Took Row.empty s i (first_from i s)
  took_first [] i = took_none Row.empty [] i (λ h. absurd (omega arith))
  took_first (b ∷ s) i = took_begin b s i (is_digit b) refl (eqb b digit_zero) refl

  pub took : (m : Row.Number) (s : List ℕ) (i : ℕ) → Took m s i (taken_from (number_held m) i s)
  took Row.empty s i = took_first s i
  took Row.zero s i = took_none Row.zero s i (λ h. refl)
  took (Row.digits v) s i = took_digits s v i

-- the place after the digits is not before their first
digits_forward : (s : List ℕ) (v i : ℕ) → i ≤ (digits_from v i s).next
digits_forward [] v i = omega arith
digits_forward (b ∷ s) v i = go (is_digit b) (held (v * 10 + (b - digit_zero))) (digits_forward s (held (v * 10 + (b - digit_zero))) (i + 1))
  where
    go : (d : Bool) (x : ℕ) → i + 1 ≤ (digits_from x (i + 1) s).next → i ≤ (cond d (digits_from x (i + 1) s) (taken (Digits v) i)).next
    go true x w = omega arith
    go false x w = omega arith

first_forward : (s : List ℕ) (i : ℕ) → i ≤ (first_from i s).next
first_forward [] i = omega arith
first_forward (b ∷ s) i = go (is_digit b) (eqb b digit_zero) (b - digit_zero) (digits_forward s (b - digit_zero) (i + 1))
  where
    go : (d z : Bool) (x : ℕ) → i + 1 ≤ (digits_from x (i + 1) s).next → i ≤ (cond d (cond z (taken Zero (i + 1)) (digits_from x (i + 1) s)) (taken Empty i)).next
    go true true x w = omega arith
    go true false x w = omega arith
    go false z x w = omega arith

forward : (m : Number) (s : List ℕ) (i : ℕ) → i ≤ (taken_from m i s).next
forward Empty s i = first_forward s i
forward Zero s i = omega arith
forward (Digits v) s i = digits_forward s v i

pub taken_forward : (m : Number) (part : List ℕ) (i : ℕ) (t : Taken) → t ≡ taken_from m i (drop i part) → i ≤ t.next
taken_forward m part i t e = rw e (forward m (drop i part) i)

-- nor past the text's end
digits_within : (s : List ℕ) (v i : ℕ) → (digits_from v i s).next ≤ i + length s
digits_within [] v i = omega arith
digits_within (b ∷ s) v i = go (is_digit b) (held (v * 10 + (b - digit_zero))) (digits_within s (held (v * 10 + (b - digit_zero))) (i + 1))
  where
    go : (d : Bool) (x : ℕ) → (digits_from x (i + 1) s).next ≤ i + 1 + length s → (cond d (digits_from x (i + 1) s) (taken (Digits v) i)).next ≤ i + suc (length s)
    go true x w = omega arith
    go false x w = omega arith

first_within : (s : List ℕ) (i : ℕ) → (first_from i s).next ≤ i + length s
first_within [] i = omega arith
first_within (b ∷ s) i = go (is_digit b) (eqb b digit_zero) (b - digit_zero) (digits_within s (b - digit_zero) (i + 1))
  where
    go : (d z : Bool) (x : ℕ) → (digits_from x (i + 1) s).next ≤ i + 1 + length s
        → (cond d (cond z (taken Zero (i + 1)) (digits_from x (i + 1) s)) (taken Empty i)).next ≤ i + suc (length s)
    go true true x w = omega arith
    go true false x w = omega arith
    go false z x w = omega arith

within_all : (m : Number) (s : List ℕ) (i : ℕ) → (taken_from m i s).next ≤ i + length s
within_all Empty s i = first_within s i
within_all Zero s i = omega arith
within_all (Digits v) s i = digits_within s v i

pub taken_within : (m : Number) (part : List ℕ) (i : ℕ) (t : Taken) → i ≤ length part → t ≡ taken_from m i (drop i part) → t.next ≤ length part
taken_within m part i t h e = rw e (omega (arith, within_all m (drop i part) i, length-drop i part))

-- ---- from place to place

-- one way after another
pub led_then : {H read : ℕ} {part : List ℕ} {from : ℕ} {mark₀ : Mark} {number₀ : Number} {line₀ : Line} {now₀ : Tables} {i : ℕ} {mark : Mark} {number : Number} {line : Line} {now : Tables} {i' : ℕ} {mark' : Mark} {number' : Number} {line' : Line} {now' : Tables}
    → Leads H read part from mark₀ number₀ line₀ now₀ i mark number line now → Leads H read part i mark number line now i' mark' number' line' now'
    → Leads H read part from mark₀ number₀ line₀ now₀ i' mark' number' line' now'
led_then a b =
    record { leads = λ lent reached h. let x = a.leads lent reached h in let y = b.leads lent x.0 x.1 in (y.0, y.1, y.2 ∙ x.2) }

module _ (H read : ℕ) (part : List ℕ) (from : ℕ) (mark₀ : Mark) (number₀ : Number) (line₀ : Line) (now₀ : Tables) where
  pub led_none : Leads H read part from mark₀ number₀ line₀ now₀ from mark₀ number₀ line₀ now₀
  led_none = record { leads = λ lent reached h. (reached, h, refl) }

  module _ (i : ℕ) (mark : Mark) (number : Number) (line : Line) (now : Tables) (led : Leads H read part from mark₀ number₀ line₀ now₀ i mark number line now) where
    -- the reader is in a row: what holds of every row holds
    in_row_lem : (i' : ℕ) (mark' : Mark) (number' : Number) (line' : Line) (now' : Tables) → line.fault ≡ None
        → ((lent : Tables) (place : ℕ) (before : List Row) (o : Open) → number ≡ number_held o.number → InLine H lent line now place before o.closed o.list o.entry
        → (reached' : Reached) × Holds H lent (read + i') mark' (length timetable_header) number' line' now' reached'
        × (fold (drafted H lent) reached' (drop i' part) ≡ fold (drafted H lent) (in_row place (read + i) before (marked mark o)) (drop i part)))
        → Leads H read part from mark₀ number₀ line₀ now₀ i' mark' number' line' now'
    in_row_lem i' mark' number' line' now' clear turn =
        record {
          leads = λ lent reached h. let a = led.leads lent reached h in go lent a.0 a.1 (fold (drafted H lent) reached (drop from part)) a.2;
        }
      where
        go : (lent : Tables) (at : Reached) → Holds H lent (read + i) mark (length timetable_header) number line now at → (end : Reached) → fold (drafted H lent) at (drop i part) ≡ end
            → (reached' : Reached) × Holds H lent (read + i') mark' (length timetable_header) number' line' now' reached' × (fold (drafted H lent) reached' (drop i' part) ≡ end)
        go lent (in_header k m) h end e = absurd (omega (arith, h.2))
        go lent (broken k place) h end e = cc (h.0)
        go lent (stopped k place) h end e = cc (h.0)
        go lent (in_row place n before m) h end e =
            let a = turn lent place before h.0 h.3 h.4 in (
              a.0,
              a.1,
              a.2
                  ∙ ap (λ (x : ℕ). fold (drafted H lent) (in_row place x before (marked mark h.0)) (drop i part)) (sym h.1)
                  ∙ ap (λ (x : Marked Open). fold (drafted H lent) (in_row place n before x) (drop i part)) (sym h.2)
                  ∙ e,
            )

    -- what the open number takes, up to a place
    pub led_taken : (t : Taken) → takes mark ≡ true → line.fault ≡ None → i < length part → t ≡ taken_from number i (drop i part) → t.next ≤ length part
        → Leads H read part from mark₀ number₀ line₀ now₀ t.next mark t.number line now
    led_taken t open_mark clear inside e h =
        in_row_lem t.next mark t.number line now clear
        (λ lent place before o m g.
        let w = took H lent mark open_mark o.number (drop i part) i in
        let q : t ≡ taken_from (number_held o.number) i (drop i part) = e ∙ ap (λ (x : Number). taken_from x i (drop i part)) m in
        let next : t.next ≡ i + w.count = ap (λ (x : Taken). x.next) q ∙ w.next_is in
        let o' : Open = partly o.closed o.list o.entry w.number in
        let at : read + i + w.count ≡ read + t.next = omega arith in (
          in_row place (read + i + w.count) before (marked mark o'),
          (o', at, refl, ap (λ (x : Taken). x.number) q ∙ w.number_is, g, omega arith),
          ap (λ (s : List ℕ). fold (drafted H lent) (in_row place (read + i + w.count) before (marked mark o')) s)
              (ap (λ (x : ℕ). drop x part) next ∙ sym (drop-drop w.count i part))
              ∙ w.same place (read + i) before o.closed o.list o.entry,
        ))

    -- a plain byte closes the open number
    pub led_signed : (t : Taken) (at : ℕ) (line' : Line) (now' : Tables) → takes mark ≡ true → line.fault ≡ None → i < length part
        → t ≡ taken_from number i (drop i part) → t.next < length part → at ≡ read + t.next → plain_under mark (get_or part t.next 0) ≡ true
        → Signed H line t.number (get_or part t.next 0) at line' now now'
        → Leads H read part from mark₀ number₀ line₀ now₀ (t.next + 1) mark Empty line' now'
    led_signed t at line' now' open_mark clear inside e h at-is plain signed =
        in_row_lem (t.next + 1) mark Empty line' now' clear
        (λ lent place before o m g.
        let w = took H lent mark open_mark o.number (drop i part) i in
        let q : t ≡ taken_from (number_held o.number) i (drop i part) = e ∙ ap (λ (x : Number). taken_from x i (drop i part)) m in
        let next : t.next ≡ i + w.count = ap (λ (x : Taken). x.next) q ∙ w.next_is in
        let o' : Open = partly o.closed o.list o.entry w.number in
        let b : ℕ = get_or part t.next 0 in
        let byte : get_or (drop i part) w.count 0 ≡ b = get_or-drop i part w.count 0 ∙ ap (λ (x : ℕ). get_or part x 0) (sym next) in
        let stops : Row.number_step w.number b ≡ None = sym (ap (Row.number_step w.number) byte) ∙ w.stops (omega (arith, length-drop i part)) in
        let there : at ≡ read + i + w.count = omega arith in
        let after : suc at ≡ read + (t.next + 1) = omega arith in
        let here : Reached = in_row place at before (marked mark o') in
        let held' : Holds H lent (suc at) mark (length timetable_header) Empty line' now' (drafted H lent here b) =
        lands_plain H lent place at before mark o' b line' now' plain (signed.signs lent place before o' g (ap (λ (x : Taken). x.number) q ∙ w.number_is) stops) in (
          drafted H lent here b,
          subst (λ (x : ℕ). Holds H lent x mark (length timetable_header) Empty line' now' (drafted H lent here b)) after held',
          ap (λ (x : ℕ). fold (drafted H lent) (drafted H lent here b) (drop x part)) (add-one t.next)
              ∙ ap (λ (s : List ℕ). fold (drafted H lent) here s) (sym (drop-cons part t.next 0 h))
              ∙ ap (λ (x : ℕ). fold (drafted H lent) (in_row place x before (marked mark o')) (drop t.next part)) there
              ∙ ap (λ (s : List ℕ). fold (drafted H lent) (in_row place (read + i + w.count) before (marked mark o')) s) (ap (λ (x : ℕ). drop x part) next ∙ sym (drop-drop w.count i part))
              ∙ w.same place (read + i) before o.closed o.list o.entry,
        ))

    -- a byte that is not plain moves the mark, is left for the contents, or breaks the row
    module _ (begins : Bool) (clear : line.fault ≡ None) (h : i < length part) (begins-at : begins ≡ line_begins line number) where
      turn_is : (lent : Tables) (place : ℕ) (before : List Row) (o : Open) → InLine H lent line now place before o.closed o.list o.entry → number ≡ number_held o.number
          → (t : Act) → t ≡ turned mark (get_or part i 0) begins → t ≡ turned mark (get_or part i 0) (open_begins o)
      turn_is lent place before o g n t e = e ∙ ap (turned mark (get_or part i 0)) (begins-at ∙ begins_is H lent line now place before o number g n)

      led_to : (m : Mark) → To m ≡ turned mark (get_or part i 0) begins → Leads H read part from mark₀ number₀ line₀ now₀ (i + 1) m number line now
      led_to m t =
          in_row_lem (i + 1) m number line now clear
          (λ lent place before o n g.
          let b : ℕ = get_or part i 0 in
          let after : suc (read + i) ≡ read + (i + 1) = omega arith in
          let here : Reached = in_row place (read + i) before (marked mark o) in
          let there : Reached = in_row place (suc (read + i)) before (marked m o) in
          let q : drafted H lent here b ≡ there = lands_to H lent place (read + i) before mark o b m (turn_is lent place before o g n (To m) t) in (
            there,
            (o, after, refl, n, g, omega arith),
            ap (λ (x : ℕ). fold (drafted H lent) there (drop x part)) (add-one i)
                ∙ ap (λ (x : Reached). fold (drafted H lent) x (drop (suc i) part)) (sym q)
                ∙ ap (λ (s : List ℕ). fold (drafted H lent) here s) (sym (drop-cons part i 0 h)),
          ))

      led_left : (m : Mark) → Content m ≡ turned mark (get_or part i 0) begins → Leads H read part from mark₀ number₀ line₀ now₀ (i + 0) m number line now
      led_left m t =
          in_row_lem (i + 0) m number line now clear
          (λ lent place before o n g.
          let b : ℕ = get_or part i 0 in
          let same : read + i ≡ read + (i + 0) = omega arith in
          let here : Reached = in_row place (read + i) before (marked mark o) in
          let there : Reached = in_row place (read + i) before (marked m o) in
          let u : Content m ≡ turned mark b (open_begins o) = turn_is lent place before o g n (Content m) t in (
            there,
            (o, same, refl, n, g, omega arith),
            ap (λ (x : ℕ). fold (drafted H lent) there (drop x part)) (add-zero i)
                ∙ ap (λ (s : List ℕ). fold (drafted H lent) there s) (drop-cons part i 0 h)
                ∙ ap (λ (x : Reached). fold (drafted H lent) x (drop (suc i) part))
                (lands_left H lent place (read + i) before mark o b m u (left m b (open_begins o) mark u).again)
                ∙ ap (λ (s : List ℕ). fold (drafted H lent) here s) (sym (drop-cons part i 0 h)),
          ))

      pub led_moved : (v : Move) → Some v ≡ moved_under mark (get_or part i 0) begins → Leads H read part from mark₀ number₀ line₀ now₀ (i + v.step) v.mark number line now
      led_moved v moved = go (turned mark (get_or part i 0) begins) refl moved
        where
          go : (t : Act) → turned mark (get_or part i 0) begins ≡ t → Some v ≡ moved_by t → Leads H read part from mark₀ number₀ line₀ now₀ (i + v.step) v.mark number line now
          go (To m) t e = let q : v ≡ record { mark = m; step = 1 } = cc in rw q (led_to m (sym t))
          go (Content m) t e = let q : v ≡ record { mark = m; step = 0 } = cc in rw q (led_left m (sym t))
          go Broken t e = cc

      pub led_broken : None ≡ moved_under mark (get_or part i 0) begins → (line' : Line) → line' ≡ stopped_with line bad_row → Leads H read part from mark₀ number₀ line₀ now₀ (i + 1) mark number line' now
      led_broken moved line' l = go (turned mark (get_or part i 0) begins) refl moved
        where
          go : (t : Act) → turned mark (get_or part i 0) begins ≡ t → None ≡ moved_by t → Leads H read part from mark₀ number₀ line₀ now₀ (i + 1) mark number line' now
          go (To m) t e = cc
          go (Content m) t e = cc
          go Broken t e =
              in_row_lem (i + 1) mark number line' now clear
              (λ lent place before o n g.
              let b : ℕ = get_or part i 0 in
              let here : Reached = in_row place (read + i) before (marked mark o) in (
                drafted H lent here b,
                faulty_held H lent (drafted H lent here b) (read + (i + 1)) mark (length timetable_header) number line' now
                    (lands_broken H lent place (read + i) before mark o b (turn_is lent place before o g n Broken (sym t)))
                    (ap (λ (x : Line). x.fault) l) (ap (λ (x : Line). x.place) l ∙ g.placed) (omega arith),
                ap (λ (x : ℕ). fold (drafted H lent) (drafted H lent here b) (drop x part)) (add-one i)
                    ∙ ap (λ (s : List ℕ). fold (drafted H lent) here s) (sym (drop-cons part i 0 h)),
              ))

    -- after a fault the rest of the part is not looked at
    pub led_stopped : (mark' : Mark) (number' : Number) → (line.fault ≡ None → ⊥) → Leads H read part from mark₀ number₀ line₀ now₀ (length part) mark' number' line now
    led_stopped mark' number' fault =
        record {
          leads = λ lent reached h. let a = led.leads lent reached h in go lent a.0 a.1 (fold (drafted H lent) reached (drop from part)) a.2;
        }
      where
        at-end : (lent : Tables) (at : Reached) {k place : ℕ} → Faulty k place at → line.fault ≡ Some k → line.place ≡ place → 0 < k → (end : Reached) → fold (drafted H lent) at (drop i part) ≡ end
            → (reached' : Reached) × Holds H lent (read + length part) mark' (length timetable_header) number' line now reached' × (fold (drafted H lent) reached' (drop (length part) part) ≡ end)
        at-end lent at f l p z end e =
            let there : Reached = fold (drafted H lent) at (drop i part) in (
              there,
              faulty_held H lent there (read + length part) mark' (length timetable_header) number' line now (faulty_fold H lent at (drop i part) f) l p z,
              ap (λ (s : List ℕ). fold (drafted H lent) there s) (drop-length part) ∙ e,
            )

        go : (lent : Tables) (at : Reached) → Holds H lent (read + i) mark (length timetable_header) number line now at → (end : Reached) → fold (drafted H lent) at (drop i part) ≡ end
            → (reached' : Reached) × Holds H lent (read + length part) mark' (length timetable_header) number' line now reached' × (fold (drafted H lent) reached' (drop (length part) part) ≡ end)
        go lent (in_header k m) h end e = absurd (omega (arith, h.2))
        go lent (broken k place) h end e = at-end lent (broken k place) is_broken h.0 h.1 h.2 end e
        go lent (stopped k place) h end e = at-end lent (stopped k place) is_stopped h.0 h.1 h.2 end e
        go lent (in_row place n before m) h end e = absurd (fault h.4.going)

    -- the part is over
    pub led_over : i ≤ length part → length part ≤ i → Leads H read part from mark₀ number₀ line₀ now₀ (length part) mark number line now
    led_over h k =
        let q : i ≡ length part = omega arith in
        subst (λ (x : ℕ). Leads H read part from mark₀ number₀ line₀ now₀ x mark number line now) q led
