-- The digits that code takes one by one are those that the definition takes: a law for a digit, for the byte behind the last, and for each first digit. Assumes nothing.
use Prim.Native.Nat.{ℕ, ◌+◌, ◌*◌, ◌-◌, ◌≤◌, ◌<◌}
use mathlib.Core.Path.{◌≡◌, ap, ◌∙◌}
use mathlib.Core.Bool.{false}
use mathlib.Core.List.{List}
use native.Mathlib.Numerals.{add-one}
use lib.ListN.{length, get_or, drop}
use lib.Seq.{drop-cons}
use borrow.Author.Tests.{le-leb, ne_eqb}
use Rattle.std.specs.Char.{is_ascii_digit}
use Rattle.rules.specs.Bytes.{digit_zero, digit_nine}
use Rattle.timetable_row.specs.declared.number.Number.TheVariants.{Zero, Digits}
use Rattle.timetable_row.specs.declared.number.Taken.{Taken}
use Rattle.timetable_row.specs.Digits.{held, taken, digits_from, first_from}

module _ (s : List ℕ) (i : ℕ) where
  module _ (v : ℕ) (r : Taken) (e : digits_from v i (drop i s) ≡ r) where
    pub digits_over : i < length s → false ≡ is_ascii_digit (get_or s i 0) → taken (Digits v) i ≡ r
    digits_over h over = rw (drop-cons s i 0 h, ← over) at e

    pub digits_more : (w : ℕ) → i < length s → digit_zero ≤ get_or s i 0 → get_or s i 0 ≤ digit_nine → w ≡ held (v * 10 + (get_or s i 0 - digit_zero))
        → digits_from w (i + 1) (drop (i + 1) s) ≡ r
    digits_more w h low high q =
        rw q
        (ap (λ (k : ℕ). digits_from (held (v * 10 + (get_or s i 0 - digit_zero))) (i + 1) (drop k s)) (add-one i)
        ∙ (rw (drop-cons s i 0 h, le-leb digit_zero (get_or s i 0) low, le-leb (get_or s i 0) digit_nine high) at e))

  pub first_zero : i < length s → get_or s i 0 ≡ digit_zero → taken Zero (i + 1) ≡ first_from i (drop i s)
  first_zero h z = rw (drop-cons s i 0 h, z)

  pub first_digit : (r : Taken) → i < length s → digit_zero ≤ get_or s i 0 → get_or s i 0 ≤ digit_nine → (get_or s i 0 ≡ digit_zero → ⊥)
      → r ≡ digits_from (get_or s i 0 - digit_zero) (i + 1) (drop (i + 1) s) → r ≡ first_from i (drop i s)
  first_digit r h low high z q =
      q ∙ rw (drop-cons s i 0 h, le-leb digit_zero (get_or s i 0) low, le-leb (get_or s i 0) digit_nine high, ne_eqb (get_or s i 0) digit_zero z, ← add-one i)
