-- What the readers of numbers answer: the value where it is within a limit, and else whether it is past it or the text is malformed.
use Rattle.std.specs.Prelude.{ℕ, ◌+◌, min, cond, List, leb, length, Option, Some, None, Result, Ok, Err}
use Rattle.rules.specs.Lists.{lead}
use Rattle.rules.specs.Limits.{most_id}
use Rattle.rules.specs.Bytes.{is_digit, value_from}
use Rattle.text_read.specs.declared.numbers.Ran.{Ran}
use Rattle.text_read.specs.declared.numbers.Unread.{Unread}
use Rattle.text_read.specs.declared.numbers.Unread.TheVariants.{Beyond, Malformed}

-- past every id, and past every other limit of a number in a text
abbrev pub past_id : ℕ
past_id = most_id + 1

-- the digits at the front of s, which stands at a place and follows n: their value, at most past_id, and the place after them
abbrev pub ran_from : ℕ → ℕ → List ℕ → Ran
ran_from n at s = record { value = min (value_from n (lead is_digit s)) past_id; next = at + length (lead is_digit s) }

abbrev pub whole_held : Option ℕ → Result ℕ Unread
whole_held None = Err Malformed
whole_held (Some v) = cond (leb v most_id) (Ok v) (Err Beyond)
