-- A header's names byte by byte, with commas between: what is left of them, and whether a name begins.
use Rattle.std.specs.Prelude.{ℕ, Bool, true, false, not, cond, ◌||◌, List, [], ◌∷◌, eqb, Option, Some, None}
use Rattle.rules.specs.Lists.{every}
use Rattle.rules.specs.Bytes.{line_feed, carriage_return, comma, joined}

-- what a header may be made of: one or more names, with no comma, CR or LF in them
abbrev pub name_byte : ℕ → Bool
name_byte b = not (eqb b comma || (eqb b carriage_return || eqb b line_feed))

abbrev pub can_head : List (List ℕ) → Bool
can_head [] = false
can_head (name ∷ names) = every (every name_byte) (name ∷ names)

pub data Named : Type 0 where
  named : (begins : Bool) (left : List ℕ) → Named

abbrev pub name_step : Named → ℕ → Option Named
name_step (named begins []) b = None
name_step (named begins (c ∷ left)) b = cond (eqb b carriage_return) None (cond (eqb b c) (Some (named (eqb b comma) left)) None)

abbrev pub name_close : Named → Option (List ℕ)
name_close (named begins []) = Some []
name_close (named begins (c ∷ left)) = None

abbrev pub name_begins : Named → Bool
name_begins (named begins left) = begins

abbrev pub names_start : List (List ℕ) → Named
names_start names = named true (joined comma names)
