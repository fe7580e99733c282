-- How many bytes stand at the front of a room.
use Rattle.std.specs.Prelude.{◌≡◌, ℕ, ◌≤◌, List, length, take, Result, Ok, Err}
use Rattle.input.specs.declared.Unread.{Unread}
use Rattle.input.specs.declared.Unread.TheVariants.{TooLong, Broken}

-- `&xs[..n]` is in bounds and has n bytes; the second part follows from the first
abbrev pub IsPrefixLen : ℕ → List ℕ → Type 0
IsPrefixLen n xs = (n ≤ length xs) × (n ≡ length (take n xs))

-- how many bytes a reading brought, the whole or not
abbrev pub taken : Result ℕ Unread → ℕ
taken (Ok n) = n
taken (Err (TooLong n)) = n
taken (Err (Broken n)) = n
