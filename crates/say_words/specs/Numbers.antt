-- Whole numbers with zeros in front.
use Rattle.std.specs.Prelude.{ℕ, cond, List, ◌∷◌, ltb}
use Rattle.rules.specs.Bytes.{digit_zero, spelled}

-- two digits at least
abbrev pub two_digits : ℕ → List ℕ
two_digits n = cond (ltb n 10) (digit_zero ∷ spelled n) (spelled n)

-- three digits at least
abbrev pub three_digits : ℕ → List ℕ
three_digits n = cond (ltb n 100) (digit_zero ∷ two_digits n) (spelled n)
