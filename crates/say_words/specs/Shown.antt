-- A byte as it is shown.
use Rattle.std.specs.Prelude.{ℕ, ◌+◌, ◌-◌, ◌/◌, ◌%◌, Bool, cond, ◌&&◌, List, [], ◌∷◌, leb, ltb}
use Prim.Native.Char.{code}
use Rattle.rules.specs.Bytes.{space, digit_zero}

-- a sign of ASCII or a space
abbrev pub is_plain : ℕ → Bool
is_plain b = leb space b && leb b (code "~")

abbrev pub sixteen : ℕ
sixteen = 16

abbrev pub hex_digit : ℕ → ℕ
hex_digit n = cond (ltb n 10) (digit_zero + n) (code "a" + (n - 10))

-- any other byte by its number
abbrev pub shown : ℕ → List ℕ
shown b = cond (is_plain b) (b ∷ []) (code "\\" ∷ code "x" ∷ hex_digit (b / sixteen) ∷ hex_digit (b % sixteen) ∷ [])
