-- What a look at several bytes finds: a number and its byte, an entry and its space, a number in quotes and its comma.
use Rattle.std.specs.Prelude.{ℕ, ◌+◌, ◌<◌, ◌≤◌, ◌≡◌, false, Option, Some, None, List, length, get_or, drop}
use Rattle.rules.specs.Bytes.{space, underscore, comma, quote}
use Rattle.timetable_row.specs.declared.number.Number.TheVariants.{Empty}
use Rattle.timetable_row.specs.declared.number.Taken.{Taken}
use Rattle.timetable_row.specs.Digits.{taken_from, is_empty, value_of}
use Rattle.timetable_entry.specs.declared.Cut.{Cut}
use Rattle.timetable_entry.specs.declared.Spotted.{Spotted}

-- a number of more digits is missed
abbrev pub most_digits : ℕ
most_digits = 8

-- its digits and the byte that closes them, at most
abbrev pub number_bytes : ℕ
number_bytes = most_digits + 1

abbrev pub cut : (number next : ℕ) → Cut
cut number next = record { number = number; next = next }

abbrev pub spotted : (departure travel profile next : ℕ) → Spotted
spotted departure travel profile next = record { departure = departure; travel = travel; profile = profile; next = next }

-- the number that begins at a place, the byte that closes it, and the place behind that
pub record NumberAt (part : List ℕ) (from closes v next : ℕ) : Type 0 where
  pub number : Taken
  pub number_is : number ≡ taken_from Empty from (drop from part)
  pub inside : number.next < length part
  pub byte : get_or part number.next 0 ≡ closes
  pub digits : is_empty number.number ≡ false
  pub value : v ≡ value_of number.number
  pub behind : next ≡ number.next + 1
  pub near : next ≤ from + number_bytes

pub data Cuts (part : List ℕ) (from closes : ℕ) : Option Cut → Type 0 where
  missed : Cuts part from closes None
  cuts : {v next : ℕ} → NumberAt part from closes v next → Cuts part from closes (Some (cut v next))

-- three numbers: an entry with its space
pub record EntryAt (part : List ℕ) (from d t p next : ℕ) : Type 0 where
  pub second : ℕ
  pub third : ℕ
  pub departure : NumberAt part from underscore d second
  pub travel : NumberAt part second underscore t third
  pub profile : NumberAt part third space p next

pub data Spots (part : List ℕ) (from : ℕ) : Option Spotted → Type 0 where
  unspotted : Spots part from None
  spots : {d t p next : ℕ} → EntryAt part from d t p next → Spots part from (Some (spotted d t p next))

-- a number in quotes, the comma behind them, and the place behind that
pub record QuotedAt (part : List ℕ) (from v next : ℕ) : Type 0 where
  pub shut : ℕ
  pub opens : get_or part from 0 ≡ quote
  pub number : NumberAt part (from + 1) quote v shut
  pub comma_there : get_or part shut 0 ≡ comma
  pub behind : next ≡ shut + 1
  pub within : next ≤ length part

pub data Quotes (part : List ℕ) (from : ℕ) : Option Cut → Type 0 where
  unquoted : Quotes part from None
  quoted : {v next : ℕ} → QuotedAt part from v next → Quotes part from (Some (cut v next))
