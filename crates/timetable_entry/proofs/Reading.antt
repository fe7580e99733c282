-- A number of at most so many digits, digit by digit: it is what the definition takes, and nothing of it is held back. Assumes nothing.
use Prim.Native.Nat.{ℕ, suc, ◌+◌, ◌*◌, ◌-◌, ◌^◌, ◌≤◌, ◌<◌}
use native.Mathlib.Omega.{arith}
use native.Mathlib.Nat.{pow-suc, pow-le-pow_right, min-eq_left}
use mathlib.Core.Path.{◌≡◌, refl, sym, ◌∙◌}
use mathlib.Core.Bool.{Bool, true, false, cond}
use Rattle.std.specs.Prelude.{Option, Some, None}
use mathlib.Core.List.{List}
use lib.Dec.{eqb}
use lib.ListN.{length, get_or, drop}
use borrow.Author.Tests.{eqb-true}
use Rattle.std.specs.Char.{is_ascii_digit}
use Rattle.rules.specs.Bytes.{digit_zero, digit_nine}
use Rattle.timetable_row.specs.declared.number.Number.{Number}
use Rattle.timetable_row.specs.declared.number.Number.TheVariants.{Empty, Zero, Digits}
use Rattle.timetable_row.specs.Digits.{taken, digits_from, taken_from, is_empty, value_of, most_held}
use Rattle.timetable_row.proofs.Digits.{digits_over, digits_more, first_zero, first_digit}
use Rattle.timetable_entry.specs.declared.Cut.{Cut}
use Rattle.timetable_entry.specs.Spots.{most_digits, number_bytes, cut, Cuts, missed, cuts}

-- at place i the number so far is v
pub record Reading (part : List ℕ) (from v i : ℕ) : Type 0 where
  pub same : digits_from v i (drop i part) ≡ taken_from Empty from (drop from part)
  pub small : v < 10 ^ (i - from)
  pub past : from < i
  pub short : i ≤ from + number_bytes

-- one digit more fits
pub reading-fits : {part : List ℕ} {from v i : ℕ} → Reading part from v i → i < from + number_bytes → v < 10 ^ most_digits
reading-fits {part} {from} {v} {i} r h =
    let k : i - from ≤ most_digits = omega (arith, r.past) in
    let p : 10 ^ (i - from) ≤ 10 ^ most_digits = pow-le-pow_right {n = 10} (omega arith) k in
    omega (arith, r.small, p)

-- the byte behind a number that is over closes it, or it is a miss
ended_cut : {part : List ℕ} {from v i : ℕ} (closes : ℕ) (r : Option Cut) (n : Number) → from + number_bytes ≤ length part → i < from + number_bytes → taken n i ≡ taken_from Empty from (drop from part)
    → is_empty n ≡ false → v ≡ value_of n → r ≡ cond (eqb (get_or part i 0) closes) (Some (cut v (i + 1))) None → Cuts part from closes r
ended_cut {part} {from} {v} {i} closes r n h k e d w q = rw q (go (eqb (get_or part i 0) closes) refl)
  where
    go : (t : Bool) → eqb (get_or part i 0) closes ≡ t → Cuts part from closes (cond t (Some (cut v (i + 1))) None)
    go true b =
        cuts (record { number = taken n i; number_is = e; inside = omega arith; byte = eqb-true (get_or part i 0) closes b; digits = d; value = w; behind = refl; near = omega arith })
    go false b = missed

module _ (part : List ℕ) (from : ℕ) (h : from + number_bytes ≤ length part) where
  pub zero_cut : (closes : ℕ) (r : Option Cut) → get_or part from 0 ≡ digit_zero → r ≡ cond (eqb (get_or part (from + 1) 0) closes) (Some (cut 0 (from + 1 + 1))) None → Cuts part from closes r
  zero_cut closes r z q = ended_cut closes r Zero h (omega arith) (first_zero part from (omega arith) z) refl refl q

  pub reading-first : (v : ℕ) → digit_zero ≤ get_or part from 0 → get_or part from 0 ≤ digit_nine → (get_or part from 0 ≡ digit_zero → ⊥) → v ≡ get_or part from 0 - digit_zero
      → Reading part from v (from + 1)
  reading-first v low high z q =
      let one : from + 1 - from ≡ 1 = omega arith in
      record {
        same = rw q (first_digit part from _ (omega arith) low high z refl);
        small = rw one (omega (arith, high, low, q));
        past = omega arith;
        short = omega arith;
      }

  module _ {v i : ℕ} (s : Reading part from v i) (k : i < from + number_bytes) where
    pub reading_next : (w : ℕ) → digit_zero ≤ get_or part i 0 → get_or part i 0 ≤ digit_nine → w ≡ v * 10 + (get_or part i 0 - digit_zero) → Reading part from w (i + 1)
    reading_next w low high q =
        let fits : v < 10 ^ most_digits = reading-fits s k in
        let held : v * 10 + (get_or part i 0 - digit_zero) ≤ most_held = omega (arith, fits, high) in
        let more : i + 1 - from ≡ suc (i - from) = omega (arith, s.past) in
        let below : w < 10 ^ (i - from) * 10 = omega (arith, s.small, q, high) in
        record {
          same = digits_more part i v _ s.same w (omega arith) low high (q ∙ sym (min-eq_left held));
          small = rw (more, pow-suc 10 (i - from)) below;
          past = omega (arith, s.past);
          short = omega arith;
        }

    module _ (closes : ℕ) (r : Option Cut) (q : r ≡ cond (eqb (get_or part i 0) closes) (Some (cut v (i + 1))) None) where
      pub over_cut : false ≡ is_ascii_digit (get_or part i 0) → Cuts part from closes r
      over_cut over = ended_cut closes r (Digits v) h k (digits_over part i v _ s.same (omega arith) over) refl refl q

pub ruleset readings = (missed, zero_cut, reading-first, reading_next, over_cut)
