-- The loops over the rows of a part: their invariants, kept by each turn, and what they give at each return. Assumes nothing.
use Prim.Native.Nat.{ℕ, ◌+◌, ◌*◌, ◌-◌, ◌≤◌, ◌<◌}
use mathlib.Core.Path.{◌≡◌, refl, ap, sym, subst, ◌∙◌}
use mathlib.Core.Bool.{Bool, true, false, true≢false}
use mathlib.Core.List.{List}
use native.Mathlib.Omega.{arith}
use native.Mathlib.Nat.{add-zero}
use lib.ListN.{length, get_or, drop}
use lib.Dec.{eqb}
use borrow.Author.Tests.{eq-eqb, eqb-true}
use Rattle.std.specs.Prelude.{None, Some}
use Rattle.rules.specs.Limits.{most_text}
use Rattle.rules.specs.Answers.{bad_row}
use Rattle.rules.specs.Timetable.{timetable_header}
use Rattle.timetable_row.specs.declared.line.Line.{Line}
use Rattle.timetable_row.specs.declared.number.Number.{Number}
use Rattle.timetable_row.specs.declared.number.Number.TheVariants.{Empty}
use Rattle.timetable_row.specs.declared.number.Taken.{Taken}
use Rattle.timetable_row.specs.RowOver.{stopped_with}
use Rattle.timetable_row.specs.Digits.{taken_from}
use Rattle.csv_marks.specs.declared.Mark.{Mark}
use Rattle.csv_marks.specs.declared.Move.{Move}
use Rattle.csv_marks.specs.declared.Act.{Act}
use Rattle.csv_marks.specs.declared.Act.TheVariants.{To, Content, Broken}
use Rattle.csv_marks.specs.Turns.{takes, plain_under, turned, moved_by, moved_under}
use Rattle.csv_marks.proofs.Follow.{never_plain}
use Rattle.csv_marks.proofs.Late.{late, late_most, late_open, late_shut}
use Rattle.csv_marks.proofs.Moves.{Left, left, step_most}
use Rattle.timetable.specs.Held.{tables}
use Rattle.timetable.specs.Text.{Signed, line_begins, Frees, kept, freed, Leads, Placed, Opens, Ran, Lined}
use Rattle.timetable.specs.declared.entries.Listed.{Listed}
use Rattle.timetable.specs.declared.reader.Run.{Run}
use Rattle.timetable.specs.Entries.{Lists}
use Rattle.timetable.proofs.Turn.{taken_forward, taken_within, led_then, led_none, led_taken, led_signed, led_moved, led_broken, led_stopped, led_over}

-- ---- plain bytes

pub record Going (H read : ℕ) (part : List ℕ) (from : ℕ) (mark : Mark) (legs₀ configurations₀ : List ℕ) (line₀ : Line) (number₀ : Number) (legs configurations : List ℕ) (line : Line) (number : Number) (i : ℕ) : Type 0 where
  pub in_limit : read + length part ≤ most_text
  pub open_mark : takes mark ≡ true
  pub onward : from ≤ i
  pub within : i ≤ length part
  pub clear : line.fault ≡ None
  pub legs_long : length legs ≡ length legs₀
  pub configurations_long : length configurations ≡ length configurations₀
  pub led : Leads H read part from mark number₀ line₀ (tables legs₀ configurations₀) i mark number line (tables legs configurations)

-- less is left
pub less_left : (number : Number) (part : List ℕ) (i : ℕ) (t : Taken) (H : ℕ) (line : Line) (r : Listed) (table table' : List ℕ) → t ≡ taken_from number i (drop i part) → i < length part
    → Lists H line part (t.next + 1) r table table' → length part - r.next < length part - i
less_left number part i t H line r table table' e h l = omega (arith, taken_forward number part i t e, l.forward)

pub going : (H read : ℕ) (part : List ℕ) (from : ℕ) (mark : Mark) (legs configurations : List ℕ) (line : Line) (number : Number) → Opens read part from line mark
    → Going H read part from mark legs configurations line number legs configurations line number from
going H read part from mark legs configurations line number p =
    record {
      in_limit = p.placed.in_limit;
      open_mark = p.open_mark;
      onward = omega arith;
      within = p.placed.inside;
      clear = p.placed.no_fault;
      legs_long = refl;
      configurations_long = refl;
      led = led_none H read part from mark number line (tables legs configurations);
    }

module _ {H read : ℕ} {part : List ℕ} {from : ℕ} {mark : Mark} {legs₀ configurations₀ : List ℕ} {line₀ : Line} {number₀ : Number} {legs configurations : List ℕ} {line : Line} {number : Number} {i : ℕ}
    (g : Going H read part from mark legs₀ configurations₀ line₀ number₀ legs configurations line number i) where
  -- a byte that closes a number
  signs : (t : Taken) (at : ℕ) (line' : Line) (legs' configurations' : List ℕ) → i < length part → t ≡ taken_from number i (drop i part)
      → t.next < length part → at ≡ read + t.next → (p : Bool) → p ≡ plain_under mark (get_or part t.next 0) → p ≡ true
      → Signed H line t.number (get_or part t.next 0) at line' (tables legs configurations) (tables legs' configurations')
      → Leads H read part from mark number₀ line₀ (tables legs₀ configurations₀) (t.next + 1) mark Empty line' (tables legs' configurations')
  signs t at line' legs' configurations' h e k a p q y s =
      led_signed H read part from mark number₀ line₀ (tables legs₀ configurations₀) i mark number line (tables legs configurations) g.led t at line' (tables legs' configurations')
      g.open_mark g.clear h e k a (sym q ∙ y) s

  -- a turn: a byte that closes a number, and then whole entries
  pub goes_on : (t : Taken) (at : ℕ) (line' : Line) (legs' configurations' : List ℕ) (r : Listed) (configurations'' : List ℕ) → i < length part → t ≡ taken_from number i (drop i part)
      → t.next < length part → at ≡ read + t.next → (p : Bool) → p ≡ plain_under mark (get_or part t.next 0) → p ≡ true
      → Signed H line t.number (get_or part t.next 0) at line' (tables legs configurations) (tables legs' configurations')
      → length legs' ≡ length legs → length configurations' ≡ length configurations
      → Lists H line' part (t.next + 1) r configurations' configurations'' → length configurations'' ≡ length configurations'
      → Going H read part from mark legs₀ configurations₀ line₀ number₀ legs' configurations'' r.line Empty r.next
  goes_on t at line' legs' configurations' r configurations'' h e k a p q y s l m x n =
      record {
        in_limit = g.in_limit;
        open_mark = g.open_mark;
        onward = omega (arith, g.onward, x.forward, taken_forward number part i t e);
        within = x.inside;
        clear = x.clear;
        legs_long = l ∙ g.legs_long;
        configurations_long = n ∙ m ∙ g.configurations_long;
        led = led_then (signs t at line' legs' configurations' h e k a p q y s) (x.listed read mark legs' g.open_mark);
      }

  -- the part ends in a number
  pub ran_taken : (t : Taken) → i < length part → t ≡ taken_from number i (drop i part) → length part ≤ t.next
      → Ran H line₀ number₀ mark read part from (record { next = length part; number = t.number; line = line }) (tables legs₀ configurations₀) (tables legs configurations)
  ran_taken t h e l =
      let k : t.next ≤ length part = taken_within number part i t g.within e in
      record {
        onward = omega (arith, g.onward);
        inside = omega arith;
        clear = λ x. absurd (omega arith);
        halts = λ x same. absurd (omega arith);
        runs =
            led_over H read part from mark number₀ line₀ (tables legs₀ configurations₀) t.next mark t.number line (tables legs configurations)
            (led_taken H read part from mark number₀ line₀ (tables legs₀ configurations₀) i mark number line (tables legs configurations) g.led t g.open_mark g.clear h e k) k l;
      }

  -- a byte is not plain
  pub ran_halted : (t : Taken) → i < length part → t ≡ taken_from number i (drop i part) → t.next < length part
      → (p : Bool) → p ≡ plain_under mark (get_or part t.next 0) → p ≡ false
      → Ran H line₀ number₀ mark read part from (record { next = t.next; number = t.number; line = line }) (tables legs₀ configurations₀) (tables legs configurations)
  ran_halted t h e k p q y =
      record {
        onward = omega (arith, g.onward, taken_forward number part i t e);
        inside = omega arith;
        clear = λ x. g.clear;
        halts = λ x same. sym q ∙ y;
        runs = led_taken H read part from mark number₀ line₀ (tables legs₀ configurations₀) i mark number line (tables legs configurations) g.led t g.open_mark g.clear h e (omega arith);
      }

  -- the row has a fault
  pub ran_stopped : (t : Taken) (at : ℕ) (line' : Line) (legs' configurations' : List ℕ) → i < length part → t ≡ taken_from number i (drop i part) → t.next < length part
      → at ≡ read + t.next → (p : Bool) → p ≡ plain_under mark (get_or part t.next 0) → p ≡ true
      → Signed H line t.number (get_or part t.next 0) at line' (tables legs configurations) (tables legs' configurations')
      → (line'.fault ≡ None → ⊥)
      → Ran H line₀ number₀ mark read part from (record { next = length part; number = Empty; line = line' }) (tables legs₀ configurations₀) (tables legs' configurations')
  ran_stopped t at line' legs' configurations' h e k a p q y s c =
      record {
        onward = omega (arith, g.onward, g.within);
        inside = omega arith;
        clear = λ x. absurd (omega arith);
        halts = λ x same. absurd (omega arith);
        runs =
            led_stopped H read part from mark number₀ line₀ (tables legs₀ configurations₀) (t.next + 1) mark Empty line' (tables legs' configurations')
            (signs t at line' legs' configurations' h e k a p q y s) mark Empty c;
      }

  -- the part is over
  pub ran_over : length part ≤ i
      → Ran H line₀ number₀ mark read part from (record { next = i; number = number; line = line }) (tables legs₀ configurations₀) (tables legs configurations)
  ran_over h =
      record {
        onward = g.onward;
        inside = g.within;
        clear = λ x. absurd (omega arith);
        halts = λ x same. absurd (omega arith);
        runs = g.led;
      }

pub opening : (read : ℕ) (part : List ℕ) (from : ℕ) (line : Line) (mark : Mark) (t : Bool) → Placed read part from line → t ≡ takes mark → t ≡ true → Opens read part from line mark
opening read part from line mark t p e q = record { placed = p; open_mark = sym e ∙ q }

-- behind a pair of quotes and behind a CR nothing is plain
pub ran_none : (H read : ℕ) (part : List ℕ) (from : ℕ) (mark : Mark) (legs configurations : List ℕ) (line : Line) (number : Number) (t : Bool) → Placed read part from line → t ≡ takes mark → t ≡ false
    → Ran H line number mark read part from (record { next = from; number = number; line = line }) (tables legs configurations) (tables legs configurations)
ran_none H read part from mark legs configurations line number t p e q =
    record {
      onward = omega arith;
      inside = p.inside;
      clear = λ x. p.no_fault;
      halts = λ x same. never_plain mark (get_or part from 0) (sym e ∙ q);
      runs = led_none H read part from mark number line (tables legs configurations);
    }

-- ---- plain bytes, and one that is not

pub record Lining (H read : ℕ) (part : List ℕ) (from : ℕ) (legs₀ configurations₀ : List ℕ) (line₀ : Line) (number₀ : Number) (mark₀ : Mark) (legs configurations : List ℕ) (line : Line) (number : Number) (mark : Mark) (i : ℕ) : Type 0 where
  pub placed : Placed read part i line
  pub legs_long : length legs ≡ length legs₀
  pub configurations_long : length configurations ≡ length configurations₀
  pub led : Leads H read part from mark₀ number₀ line₀ (tables legs₀ configurations₀) i mark number line (tables legs configurations)

pub lining : (H read : ℕ) (part : List ℕ) (from : ℕ) (legs configurations : List ℕ) (line : Line) (number : Number) (mark : Mark) → Placed read part from line
    → Lining H read part from legs configurations line number mark legs configurations line number mark from
lining H read part from legs configurations line number mark p =
    record { placed = p; legs_long = refl; configurations_long = refl; led = led_none H read part from mark number line (tables legs configurations) }

module _ {H read : ℕ} {part : List ℕ} {from : ℕ} {legs₀ configurations₀ : List ℕ} {line₀ : Line} {number₀ : Number} {mark₀ : Mark} {legs configurations : List ℕ} {line : Line} {number : Number} {mark : Mark} {i : ℕ}
    (g : Lining H read part from legs₀ configurations₀ line₀ number₀ mark₀ legs configurations line number mark i) where
  -- plain bytes to the part's end, or to a fault
  pub lined_ran : (r : Run) (legs' configurations' : List ℕ) → Ran H line number mark read part i r (tables legs configurations) (tables legs' configurations') → length part ≤ r.next
      → Lined H line₀ number₀ mark₀ read part from (record { read = read + length part; head = length timetable_header; mark = mark; number = r.number; line = r.line }) (tables legs₀ configurations₀) (tables legs' configurations')
  lined_ran r legs' configurations' ran h =
      record {
        ran_to = refl;
        head_whole = refl;
        lines =
            led_over H read part from mark₀ number₀ line₀ (tables legs₀ configurations₀) r.next mark r.number r.line (tables legs' configurations') (led_then g.led ran.runs) ran.inside h;
      }

  -- what stands behind the plain bytes
  module _ (r : Run) (legs' configurations' : List ℕ) (ran : Ran H line number mark read part i r (tables legs configurations) (tables legs' configurations')) (h : r.next < length part)
      (begins : Bool) (begins-at : begins ≡ line_begins r.line r.number) where
    -- the byte breaks the row
    pub lined_stopped : (line' : Line) → None ≡ moved_under mark (get_or part r.next 0) begins → line' ≡ stopped_with r.line bad_row
        → Lined H line₀ number₀ mark₀ read part from (record { read = read + length part; head = length timetable_header; mark = mark; number = r.number; line = line' }) (tables legs₀ configurations₀) (tables legs' configurations')
    lined_stopped line' wrong l =
        let f : line'.fault ≡ Some bad_row = ap (λ (x : Line). x.fault) l in
        record {
          ran_to = refl;
          head_whole = refl;
          lines =
              led_stopped H read part from mark₀ number₀ line₀ (tables legs₀ configurations₀) (r.next + 1) mark r.number line' (tables legs' configurations')
              (led_broken H read part from mark₀ number₀ line₀ (tables legs₀ configurations₀) r.next mark r.number r.line (tables legs' configurations') (led_then g.led ran.runs)
              begins (ran.clear h) h begins-at wrong line' l)
              mark r.number (λ z. cc (f, z));
        }

    -- the byte moves the mark, or is left
    pub lining_on : length legs' ≡ length legs → length configurations' ≡ length configurations → (v : Move) → Some v ≡ moved_under mark (get_or part r.next 0) begins
        → Lining H read part from legs₀ configurations₀ line₀ number₀ mark₀ legs' configurations' r.line r.number v.mark (r.next + v.step)
    lining_on l m v moved =
        let one : v.step ≤ 1 = step_most mark (get_or part r.next 0) begins v moved in
        record {
          placed = record { in_limit = g.placed.in_limit; inside = omega arith; no_fault = ran.clear h };
          legs_long = l ∙ g.legs_long;
          configurations_long = m ∙ g.configurations_long;
          led =
              led_moved H read part from mark₀ number₀ line₀ (tables legs₀ configurations₀) r.next mark r.number r.line (tables legs' configurations') (led_then g.led ran.runs)
              begins (ran.clear h) h begins-at v moved;
        }

  -- the mark is taken back
  pub lining_freed : {m : Mark} → Frees mark part i m → Lining H read part from legs₀ configurations₀ line₀ number₀ mark₀ legs configurations line number m i
  lining_freed {m} (kept e) = subst (λ (x : Mark). Lining H read part from legs₀ configurations₀ line₀ number₀ mark₀ legs configurations line number x i) (sym e) g
  lining_freed {m} (freed h turn bare) =
      let here : i + 0 ≡ i = add-zero i in
      record {
        placed = g.placed;
        legs_long = g.legs_long;
        configurations_long = g.configurations_long;
        led =
            subst (λ (x : ℕ). Leads H read part from mark₀ number₀ line₀ (tables legs₀ configurations₀) x m number line (tables legs configurations)) here
            (led_moved H read part from mark₀ number₀ line₀ (tables legs₀ configurations₀) i mark number line (tables legs configurations) g.led
            (line_begins line number) g.placed.no_fault h refl (record { mark = m; step = 0 }) (ap moved_by (turn (line_begins line number))));
      }

  pub lined_over : length part ≤ i
      → Lined H line₀ number₀ mark₀ read part from (record { read = read + length part; head = length timetable_header; mark = mark; number = number; line = line }) (tables legs₀ configurations₀) (tables legs configurations)
  lined_over h =
      record {
        ran_to = refl;
        head_whole = refl;
        lines = led_over H read part from mark₀ number₀ line₀ (tables legs₀ configurations₀) i mark number line (tables legs configurations) g.led g.placed.inside h;
      }

pub line_less : {H read : ℕ} {part : List ℕ} {i : ℕ} {line : Line} {number : Number} {mark : Mark} {r : Run} {legs configurations legs' configurations' : List ℕ}
    → Ran H line number mark read part i r (tables legs configurations) (tables legs' configurations') → r.next < length part
    → (begins : Bool) (v : Move) → Some v ≡ moved_under mark (get_or part r.next 0) begins
    → 2 * (length part - (r.next + v.step)) + late v.mark < 2 * (length part - i) + late mark
line_less {part = part} {i = i} {mark = mark} {r = r} ran h begins v moved = go (turned mark (get_or part r.next 0) begins) refl moved
  where
    go : (t : Act) → turned mark (get_or part r.next 0) begins ≡ t → Some v ≡ moved_by t → 2 * (length part - (r.next + v.step)) + late v.mark < 2 * (length part - i) + late mark
    go (To m) t e = let q : v ≡ record { mark = m; step = 1 } = cc in rw q (omega (arith, ran.onward, late_most m))
    go (Content m) t e = let q : v ≡ record { mark = m; step = 0 } = cc in rw q (stands (eqb r.next i) refl)
      where
        l : Left mark m (get_or part r.next 0) begins
        l = left m (get_or part r.next 0) begins mark (sym t)

        -- the byte is left: some were passed before it, or the mark is taken back
        stands : (x : Bool) → eqb r.next i ≡ x → 2 * (length part - (r.next + 0)) + late m < 2 * (length part - i) + late mark
        stands true q = omega (arith, late_open m l.open_mark, late_shut mark (l.late (ran.halts h (eqb-true r.next i q))))
        stands false q = let other : r.next ≡ i → ⊥ = λ z. true≢false (sym (eq-eqb r.next i z) ∙ q) in omega (arith, ran.onward, late_open m l.open_mark)
    go Broken t e = cc

-- a mark that is taken back leaves no byte
pub late_freed : {mark m : Mark} {part : List ℕ} {i : ℕ} → Frees mark part i m → late m ≤ late mark
late_freed (kept e) = rw e (omega arith)
late_freed (freed h turn bare) = rw bare (omega arith)
