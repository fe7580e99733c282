-- A sample byte by byte: an optional minus, a whole number, a point and one to three digits.
use Rattle.std.specs.Prelude.{ℕ, suc, ◌+◌, ◌*◌, ◌-◌, ◌^◌, Bool, true, false, cond, ◌&&◌, leb, ltb, eqb, ℤ, Option, Some, None}
use Rattle.rules.specs.Lists.{◌>>=◌}
use Rattle.rules.specs.Bytes.{is_digit, digit_zero, minus, point}
use Rattle.rules.specs.Made.{signed}
use Rattle.csv_machine.specs.Number.{Number, empty, zero, digits, number_step, number_end}

-- the digits past the point, at most
abbrev pub most_digits : ℕ
most_digits = 3

-- a megawatt in kW, and a tenth of one
abbrev pub kw_a_mw : ℕ
kw_a_mw = 1_000

abbrev pub kw_a_tenth : ℕ
kw_a_tenth = 100

-- the open whole number, after a minus or not; past the point, what stood before it, and the count and the value of the digits since
pub data Sample : Type 0 where
  whole : (negative : Bool) → Number → Sample
  fraction : (negative : Bool) (whole count value : ℕ) → Sample

abbrev pub fresh : Sample
fresh = whole false empty

-- a minus stands first or nowhere
abbrev pub negated : Bool → Number → Option Sample
negated false empty = Some (whole true empty)
negated false zero = None
negated false (digits n) = None
negated true m = None

abbrev pub whole_step : Bool → Number → ℕ → Option Sample
whole_step negative m b =
    cond (is_digit b)
    (number_step m b >>= (λ next. Some (whole negative next)))
    (cond (eqb b point) (number_end m >>= (λ n. Some (fraction negative n 0 0))) (cond (eqb b minus) (negated negative m) None))

abbrev pub fraction_step : Bool → (whole count value : ℕ) → ℕ → Option Sample
fraction_step negative n count value b =
    cond (is_digit b && ltb count most_digits) (Some (fraction negative n (suc count) (value * 10 + (b - digit_zero)))) None

abbrev pub sample_step : Sample → ℕ → Option Sample
sample_step (whole negative m) b = whole_step negative m b
sample_step (fraction negative n count value) b = fraction_step negative n count value b

-- in kW
abbrev pub kw_of : (whole count value : ℕ) → ℕ
kw_of n count value = n * kw_a_mw + value * 10 ^ (most_digits - count)

abbrev pub sample_end : Sample → Option ℤ
sample_end (whole negative m) = None
sample_end (fraction negative n count value) = cond (leb 1 count) (Some (signed negative (kw_of n count value))) None
