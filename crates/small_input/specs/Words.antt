-- How many words a group has.
use Rattle.std.specs.Prelude.{ℕ}

-- its own, H, the edition and four files
abbrev pub of_solution : ℕ
of_solution = 7

-- one file more, and one to write
abbrev pub of_two : ℕ
of_two = 9
