-- Whole ids in quotes lead where their bytes lead: a quote, the digits, a quote and the comma behind it. Assumes nothing.
use Prim.Native.Nat.{ℕ, zero, suc, ◌+◌, ◌≤◌, ◌<◌}
use mathlib.Core.Path.{◌≡◌, refl, ap, sym, subst, ◌∙◌}
use mathlib.Core.Bool.{Bool, true, false, false≢true}
use mathlib.Core.List.{List, ◌∷◌}
use native.Mathlib.Omega.{arith}
use lib.ListN.{length, get_or, drop}
use lib.Seq.{drop-cons}
use Rattle.std.specs.Prelude.{Option, Some, None}
use Rattle.rules.specs.Bytes.{comma, quote, line_feed}
use Rattle.timetable_row.specs.Slots.{nominal_slot, separator_of}
use Rattle.timetable_row.specs.Digits.{taken, taken_from, is_empty}
use Rattle.timetable_row.specs.declared.line.Line.{Line}
use Rattle.timetable_row.specs.declared.number.Number.{Number}
use Rattle.timetable_row.specs.declared.number.Number.TheVariants.{Empty, Zero, Digits}
use Rattle.timetable_row.specs.declared.number.Taken.{Taken}
use Rattle.csv_marks.specs.declared.Mark.{Mark}
use Rattle.csv_marks.specs.declared.Mark.TheVariants.{Bare, Within, Behind}
use Rattle.csv_marks.specs.Turns.{plain_under, moved_under}
use Rattle.timetable_entry.specs.declared.Cut.{Cut}
use Rattle.timetable_entry.specs.Spots.{QuotedAt, Quotes, quoted}
use Rattle.timetable.specs.declared.entries.Listed.{Listed}
use Rattle.timetable.specs.declared.reader.Run.{Run}
use Rattle.timetable.specs.Held.{Tables, tables, kept_in, Closed}
use Rattle.timetable.specs.Text.{Signed, Leads, Ran, line_begins}
use Rattle.timetable.specs.Entries.{Begun, Passes}
use Rattle.timetable.proofs.Close.{close_slot}
use Rattle.timetable.proofs.Ended.{sign_close}
use Rattle.timetable.proofs.Marking.{field_head}
use Rattle.timetable.proofs.Turn.{taken_forward, led_then, led_none, led_taken, led_signed, led_moved}

-- ---- a byte that moves the mark

module _ (H read : ℕ) (part : List ℕ) (i : ℕ) (mark : Mark) (number : Number) (line : Line) (now : Tables) (clear : line.fault ≡ None) (inside : i < length part) where
  led_by : (m : Mark) (step : ℕ) → moved_under mark (get_or part i 0) (line_begins line number) ≡ Some (record { mark = m; step = step })
      → Leads H read part i mark number line now (i + step) m number line now
  led_by m step e =
      led_moved H read part i mark number line now i mark number line now (led_none H read part i mark number line now) (line_begins line number) clear inside refl (record { mark = m; step = step }) (sym e)

-- ---- an id

id_closed : (slot : ℕ) → slot < nominal_slot → comma ≡ separator_of slot
id_closed zero h = refl
id_closed (suc zero) h = refl
id_closed (suc (suc zero)) h = refl
id_closed (suc (suc (suc zero))) h = refl
id_closed (suc (suc (suc (suc zero)))) h = refl
id_closed (suc (suc (suc (suc (suc n))))) h = absurd (omega arith)

-- a comma is no digit
stays : (m : Number) (i : ℕ) (s : List ℕ) → taken m i ≡ taken_from m i (comma ∷ s)
stays Empty i s = refl
stays Zero i s = refl
stays (Digits v) i s = refl

quoted_digits : {part : List ℕ} {i v next : ℕ} (q : QuotedAt part i v next) → i + 1 ≤ q.number.number.next
quoted_digits {part} {i} q = taken_forward Empty part (i + 1) q.number.number q.number.number_is

quoted_forward : {part : List ℕ} {i v next : ℕ} → QuotedAt part i v next → i < next
quoted_forward q = omega (arith, quoted_digits q, q.number.behind, q.behind)

module _ (H read : ℕ) {part : List ℕ} {i v next : ℕ} (line : Line) (legs table : List ℕ) (clear : line.fault ≡ None) (among : line.slot < nominal_slot) (q : QuotedAt part i v next) where
  abbrev now : Tables
  now = tables legs table

  abbrev t : Taken
  t = q.number.number

  -- the quote before it
  opened : Leads H read part i Bare Empty line now (i + 1) Within Empty line now
  opened =
      let begins : line_begins line Empty ≡ true = sym (field_head line.slot line.entries (omega arith)) in
      led_by H read part i Bare Empty line now clear (omega (arith, quoted_digits q, q.number.inside)) Within 1 (ap (λ (b : ℕ). moved_under Bare b (line_begins line Empty)) q.opens ∙ ap (moved_under Bare quote) begins)

  -- its digits
  counted : Leads H read part (i + 1) Within Empty line now t.next Within t.number line now
  counted =
      led_taken H read part (i + 1) Within Empty line now (i + 1) Within Empty line now (led_none H read part (i + 1) Within Empty line now) t refl clear
      (omega (arith, quoted_digits q, q.number.inside)) q.number.number_is (omega (arith, q.number.inside))

  -- the quote behind it
  closed : Leads H read part t.next Within t.number line now (t.next + 1) Behind t.number line now
  closed =
      led_by H read part t.next Within t.number line now clear q.number.inside Behind 1 (ap (λ (b : ℕ). moved_under Within b (line_begins line t.number)) q.number.byte)

  -- the comma, which is left for the contents
  freed : Leads H read part q.shut Behind t.number line now (q.shut + 0) Bare t.number line now
  freed =
      led_by H read part q.shut Behind t.number line now clear (omega (arith, q.within, q.behind)) Bare 0 (ap (λ (b : ℕ). moved_under Behind b (line_begins line t.number)) q.comma_there)

  signed : Leads H read part q.shut Bare t.number line now (q.shut + 1) Bare Empty (kept_in line v) now
  signed =
      let inside : q.shut < length part = omega (arith, q.within, q.behind) in
      let rest : drop q.shut part ≡ comma ∷ drop (suc q.shut) part = drop-cons part q.shut 0 inside ∙ ap (λ (b : ℕ). b ∷ drop (suc q.shut) part) q.comma_there in
      let same : taken t.number q.shut ≡ taken_from t.number q.shut (drop q.shut part) =
      stays t.number q.shut (drop (suc q.shut) part) ∙ ap (taken_from t.number q.shut) (sym rest) in
      let by : Closed H line v comma (kept_in line v) table table = close_slot H line v comma table comma (id_closed line.slot among) refl (omega arith) in
      let by' : Closed H line v (get_or part q.shut 0) (kept_in line v) table table = rw q.comma_there by in
      let other : get_or part q.shut 0 ≡ line_feed → ⊥ = λ e. let z : comma ≡ line_feed = sym q.comma_there ∙ e in omega arith in
      let sign : Signed H line t.number (get_or part q.shut 0) (read + q.shut) (kept_in line v) now now =
      sign_close H line (kept_in line v) t.number (get_or part q.shut 0) (read + q.shut) legs table table false v (sym q.number.digits) refl q.number.value other by' in
      led_signed H read part q.shut Bare t.number line now q.shut Bare t.number line now (led_none H read part q.shut Bare t.number line now)
      (taken t.number q.shut) (read + q.shut) (kept_in line v) now refl clear inside same inside refl (ap (plain_under Bare) q.comma_there) sign

  led_quoted : Leads H read part i Bare Empty line now next Bare Empty (kept_in line v) now
  led_quoted =
      let here : q.shut + 0 ≡ q.shut = omega arith in
      let shut-led : Leads H read part t.next Within t.number line now q.shut Behind t.number line now =
      subst (λ (x : ℕ). Leads H read part t.next Within t.number line now x Behind t.number line now) (sym q.number.behind) closed in
      let freed-led : Leads H read part q.shut Behind t.number line now q.shut Bare t.number line now =
      subst (λ (x : ℕ). Leads H read part q.shut Behind t.number line now x Bare t.number line now) here freed in
      let signed-led : Leads H read part q.shut Bare t.number line now next Bare Empty (kept_in line v) now =
      subst (λ (x : ℕ). Leads H read part q.shut Bare t.number line now x Bare Empty (kept_in line v) now) (sym q.behind) signed in
      led_then opened (led_then counted (led_then shut-led (led_then freed-led signed-led)))

-- ---- ids one after the other

quoted_of : {part : List ℕ} {from : ℕ} {r : Option Cut} (x : Cut) → Quotes part from r → r ≡ Some x → QuotedAt part from x.number x.next
quoted_of {part} {from} {r} x c e = go (rw e at c)
  where
    go : Quotes part from (Some x) → QuotedAt part from x.number x.next
    go (quoted n) = n

pub record Passing (part : List ℕ) (from : ℕ) (line₀ : Line) (line : Line) (i : ℕ) : Type 0 where
  pub forward : from ≤ i
  pub inside : i ≤ length part
  pub clear : line.fault ≡ None
  pub passed : (H read : ℕ) (legs table : List ℕ) → Leads H read part from Bare Empty line₀ (tables legs table) i Bare Empty line (tables legs table)

pub passing : (part : List ℕ) (from : ℕ) (line : Line) → Begun part from line → Passing part from line line from
passing part from line b =
    record { forward = omega arith; inside = b.within; clear = b.clear; passed = λ H read legs table. led_none H read part from Bare Empty line (tables legs table) }

module _ {part : List ℕ} {from : ℕ} {line₀ line : Line} {i : ℕ} (g : Passing part from line₀ line i) where
  pub passing_next : {r : Option Cut} (x : Cut) (line' : Line) → Quotes part i r → r ≡ Some x → line.slot < nominal_slot → line' ≡ kept_in line x.number → Passing part from line₀ line' x.next
  passing_next {r} x line' found e among l =
      let q = quoted_of x found e in
      rw l
      (record {
        forward = omega (arith, g.forward, quoted_forward q);
        inside = q.within;
        clear = g.clear;
        passed = λ H read legs table. led_then (g.passed H read legs table) (led_quoted H read line legs table g.clear among q);
      })

  pub passing_over : Passes line₀ Empty Bare part from (record { line = line; next = i })
  passing_over = record { forward = g.forward; inside = g.inside; clear = g.clear; passed = g.passed }

-- nothing is passed
pub passes_none : (part : List ℕ) (from : ℕ) (line : Line) (number : Number) (mark : Mark) → Begun part from line → Passes line number mark part from (record { line = line; next = from })
passes_none part from line number mark b =
    record { forward = omega arith; inside = b.within; clear = b.clear; passed = λ H read legs table. led_none H read part from mark number line (tables legs table) }

-- neither a number nor a quote is open
pub passes_open : {part : List ℕ} {from : ℕ} {line : Line} {r : Listed} (number : Number) (mark : Mark) (e : Bool) → mark ≡ Bare → e ≡ is_empty number → e ≡ true
    → Passes line Empty Bare part from r → Passes line number mark part from r
passes_open {part} {from} {line} {r} number mark e m n t p =
    subst (λ (x : Mark). Passes line number x part from r) (sym m) (go number (sym n ∙ t))
  where
    go : (k : Number) → is_empty k ≡ true → Passes line k Bare part from r
    go Empty h = p
    go Zero h = absurd (false≢true h)
    go (Digits v) h = absurd (false≢true h)

-- ---- behind plain bytes

pub ran_begun : {H read : ℕ} {part : List ℕ} {from : ℕ} {line : Line} {number : Number} {mark : Mark} {now now' : Tables} {r : Run}
    → Ran H line number mark read part from r now now' → r.next < length part → Begun part r.next r.line
ran_begun ran h = record { within = ran.inside; clear = ran.clear h }

pub ran_passed : {H read : ℕ} {part : List ℕ} {from : ℕ} {line : Line} {number : Number} {mark : Mark} {legs configurations legs' configurations' : List ℕ} (r : Run) (q : Listed)
    → Ran H line number mark read part from r (tables legs configurations) (tables legs' configurations') → Passes r.line r.number mark part r.next q → r.next < length part
    → Ran H line number mark read part from (record { next = q.next; number = r.number; line = q.line }) (tables legs configurations) (tables legs' configurations')
ran_passed {H} {read} {part} {from} {mark = mark} {legs' = legs'} {configurations' = configurations'} r q ran p h =
    record {
      onward = omega (arith, ran.onward, p.forward);
      inside = p.inside;
      clear = λ x. p.clear;
      halts = λ x same.
          let back : r.next ≡ from = omega (arith, ran.onward, p.forward) in
          let here : q.next ≡ r.next = omega arith in
          ap (λ (at : ℕ). plain_under mark (get_or part at 0)) here ∙ ran.halts h back;
      runs = led_then ran.runs (p.passed H read legs' configurations');
    }

pub ruleset passings = (passing, passing_next, passing_over, passes_none)
