-- Bytes that end no line.
use Rattle.std.specs.Prelude.{ℕ, ◌+◌, ◌≤◌, ◌≡◌, List, length, drop}
use Rattle.rules.specs.Bytes.{line_feed}
use Rattle.text_read.specs.Places.{up_to}

-- so many bytes are looked at together
abbrev pub together : ℕ
together = 16

-- they stand from a place on, and the line ends where it ends from behind them
pub record Clear (text : List ℕ) (at : ℕ) : Type 0 where
  pub there : at + together ≤ length text
  pub on : at + together + up_to line_feed (drop (at + together) text) ≡ at + up_to line_feed (drop at text)
