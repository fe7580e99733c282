-- The digits that an open number takes from a text, as the reader holds it.
use Rattle.std.specs.Prelude.{ℕ, ◌+◌, ◌*◌, ◌-◌, min, Bool, true, false, cond, List, [], ◌∷◌, eqb}
use Rattle.rules.specs.Bytes.{is_digit, digit_zero}
use Rattle.timetable_row.specs.declared.number.Number.{Number}
use Rattle.timetable_row.specs.declared.number.Number.TheVariants.{Empty, Zero, Digits}
use Rattle.timetable_row.specs.declared.number.Taken.{Taken}

-- a number is told apart up to here; all that are greater are one
abbrev pub most_held : ℕ
most_held = 4_294_967_295

abbrev pub held : ℕ → ℕ
held n = min n most_held

abbrev pub taken : Number → ℕ → Taken
taken number next = record { number = number; next = next }

-- digits that follow a number of a value, from place i on
abbrev pub digits_from : (value i : ℕ) → List ℕ → Taken
digits_from v i [] = taken (Digits v) i
digits_from v i (b ∷ s) = cond (is_digit b) (digits_from (held (v * 10 + (b - digit_zero))) (i + 1) s) (taken (Digits v) i)

abbrev pub first_from : (i : ℕ) → List ℕ → Taken
first_from i [] = taken Empty i
first_from i (b ∷ s) =
    cond (is_digit b) (cond (eqb b digit_zero) (taken Zero (i + 1)) (digits_from (b - digit_zero) (i + 1) s)) (taken Empty i)

abbrev pub taken_from : Number → (i : ℕ) → List ℕ → Taken
taken_from Empty i s = first_from i s
taken_from Zero i s = taken Zero i
taken_from (Digits v) i s = digits_from v i s

abbrev pub is_empty : Number → Bool
is_empty Empty = true
is_empty Zero = false
is_empty (Digits v) = false

abbrev pub value_of : Number → ℕ
value_of Empty = 0
value_of Zero = 0
value_of (Digits v) = v
