-- What a look at several bytes finds: the state that they lead to, wherever the part begins and whatever row is open.
use Rattle.std.specs.Prelude.{ℕ, ◌+◌, ◌≤◌, ◌<◌, ◌≡◌, Bool, true, false, List, length, get_or, Option, Some, None}
use Rattle.rules.specs.Bytes.{minus, space}
use Rattle.profiles_row.specs.declared.number.Number.{Number}
use Rattle.profiles_row.specs.declared.number.Number.TheVariants.{Empty, Digits}
use Rattle.profiles_sample.specs.declared.Run.{Run}
use Rattle.profiles_sample.specs.declared.Pointed.{Pointed}
use Rattle.profiles_sample.specs.declared.Sign.{Sign}
use Rattle.profiles_sample.specs.declared.Spaced.{Spaced}
use Rattle.profiles_row.specs.declared.row.Past.{Past}
use Rattle.profiles_row.specs.declared.row.Listed.{Listed}
use Rattle.profiles_row.specs.declared.sample.Tail.{Tail}
use Rattle.profiles_state.specs.declared.state.State.{State}
use Rattle.profiles_state.specs.declared.state.State.TheVariants.{Id, Whole, Fraction}
use Rattle.profiles_state.specs.Holds.{Jump}

-- more digits of an id, or of a sample's whole part
pub record Runs (part : List ℕ) (from value : ℕ) (r : Run) : Type 0 where
  pub of_an_id : (past : Past) → Jump part from (Id past (Digits value)) r.next (Id past (Digits r.value))
  pub of_a_sample : (past : Past) (l : Listed) (negative : Bool) → Jump part from (Whole past l negative (Digits value)) r.next (Whole past l negative (Digits r.value))

abbrev pub tail : (negative : Bool) (whole digits value : ℕ) → Tail
tail negative whole digits value = record { negative = negative; whole = whole; digits = digits; value = value }

-- the whole part up to its point
pub data Points (part : List ℕ) (from : ℕ) (n : Number) : Option Pointed → Type 0 where
  missed : Points part from n None
  pointed : {p : Pointed} → p.next ≤ length part
      → ((past : Past) (l : Listed) (negative : Bool) → Jump part from (Whole past l negative n) p.next (Fraction past l (tail negative p.whole 0 0))) → Points part from n (Some p)

-- a space behind a digit
pub data Spaces (b next : ℕ) (negative : Bool) (whole digits value : ℕ) : Option Spaced → Type 0 where
  unspaced : Spaces b next negative whole digits value None
  spaced : b ≡ space → (digits ≡ 0 → ⊥) → Spaces b next negative whole digits value (Some (record { tail = tail negative whole digits value; next = next }))

-- from a state on, up to the space behind a digit past the point
pub data Lasting (part : List ℕ) (from : ℕ) (state : Past → Listed → State) : Option Spaced → Type 0 where
  unlasting : Lasting part from state None
  lasting : {s : Spaced} → s.next < length part → get_or part s.next 0 ≡ space → (s.tail.digits ≡ 0 → ⊥)
      → ((past : Past) (l : Listed) → Jump part from (state past l) s.next (Fraction past l s.tail)) → Lasting part from state (Some s)

abbrev pub Fractions : List ℕ → (from : ℕ) (negative : Bool) (whole : ℕ) → Option Spaced → Type 0
Fractions part from negative whole = Lasting part from (λ past l. Fraction past l (tail negative whole 0 0))

abbrev pub Samples : List ℕ → (from : ℕ) (negative : Bool) → Option Spaced → Type 0
Samples part from negative = Lasting part from (λ past l. Whole past l negative Empty)

-- a minus in front, or none
pub data Signs (part : List ℕ) (from : ℕ) : Sign → Type 0 where
  signed : get_or part from 0 ≡ minus → Signs part from (record { negative = true; next = from + 1 })
  unsigned : Signs part from (record { negative = false; next = from })
