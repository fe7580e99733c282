-- Places of separators.
use Rattle.std.specs.Prelude.{ℕ, Bool, not, List, eqb, length}
use Rattle.rules.specs.Lists.{lead}

abbrev pub is_other : ℕ → ℕ → Bool
is_other sep b = not (eqb b sep)

-- how many bytes stand before the first separator: all of them where there is none
abbrev pub up_to : ℕ → List ℕ → ℕ
up_to sep s = length (lead (is_other sep) s)
