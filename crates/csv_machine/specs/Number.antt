-- A whole number byte by byte: one or more digits with no needless leading zero.
use Rattle.std.specs.Prelude.{ℕ, ◌+◌, ◌*◌, ◌-◌, cond, eqb, Option, Some, None}
use Rattle.rules.specs.Bytes.{is_digit, digit_zero}

pub data Number : Type 0 where
  empty : Number
  zero : Number
  digits : ℕ → Number

abbrev pub number_step : Number → ℕ → Option Number
number_step empty b = cond (is_digit b) (Some (cond (eqb b digit_zero) zero (digits (b - digit_zero)))) None
number_step zero b = None
number_step (digits n) b = cond (is_digit b) (Some (digits (n * 10 + (b - digit_zero)))) None

abbrev pub number_end : Number → Option ℕ
number_end empty = None
number_end zero = Some 0
number_end (digits n) = Some n
