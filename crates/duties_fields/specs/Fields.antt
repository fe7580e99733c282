-- The fields of a line by their numbers, and parts of a text.
use Rattle.std.specs.Prelude.{ℕ, ◌+◌, Bool, ◌&&◌, List, [], leb, eqb, length, take, drop, is_some, Option, Some, None}
use Rattle.rules.specs.Lists.{every, same_list}
use Rattle.rules.specs.Bytes.{comma, split_on, content_of}
use Rattle.rules.specs.Limits.{most_time}
use Rattle.rules.specs.Duties.{columns, field_in, time_text}

-- a field's content; nothing where it has none
abbrev pub or_empty : Option (List ℕ) → List ℕ
or_empty None = []
or_empty (Some c) = c

abbrev pub content_in : ℕ → List ℕ → List ℕ
content_in k line = or_empty (content_of (field_in k line))

-- so many fields, after n of them, and each has a content
abbrev pub sound : List ℕ → Bool
sound f = is_some (content_of f)

abbrev pub ten_from : ℕ → List (List ℕ) → Bool
ten_from n ps = every sound ps && eqb (n + length ps) columns

abbrev pub is_ten : List ℕ → Bool
is_ten line = ten_from 0 (split_on comma line)

-- a part of a text, by its first byte and its length
abbrev pub part_of : List ℕ → ℕ → ℕ → List ℕ
part_of text at n = take n (drop at text)

abbrev pub time_is : ℕ → List ℕ → Bool
time_is s text = leb s most_time && same_list (time_text s) text
