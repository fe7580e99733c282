-- The two sides of zero: of one power, and summed over a list of them.
use Rattle.std.specs.Prelude.{ℕ, ◌<◌, ◌^◌, ◌≡◌, List, ℤ}
use Rattle.rules.specs.Energy.{above, below}
use Rattle.rules.specs.Lists.{sum_of}
use Rattle.energy_parts.specs.declared.sides.Sides.{Sides}

-- a part of a power, which a signed number of 32 bits holds
pub record SmallPart (part r : ℕ) : Type 0 where
  pub is : r ≡ part
  pub small : r < 2 ^ 32

unfoldable pub sides_of : List ℤ → Sides
sides_of p = record { above = sum_of above p; below = sum_of below p }
