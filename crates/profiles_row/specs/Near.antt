-- The code's number is the machine's, told apart up to a cap that is above every limit.
use Rattle.std.specs.Prelude.{ℕ, ◌+◌, min, ◌≡◌, Option, Some, None}
use Rattle.rules.specs.Limits.{most_id}
use Rattle.csv_machine.specs.Number.{Number as Whole, empty, zero, digits, number_step, number_end}
use Rattle.profiles_row.specs.declared.number.Number.{Number}
use Rattle.profiles_row.specs.declared.number.Number.TheVariants.{Empty, Zero, Digits}

abbrev pub cap : ℕ
cap = most_id + 1

pub data Near : Number → Whole → Type 0 where
  empty_near : Near Empty empty
  zero_near : Near Zero zero
  digits_near : {v n : ℕ} → v ≡ min n cap → Near (Digits v) (digits n)

-- after one digit more
pub data NearNext : Option Number → Option Whole → Type 0 where
  next_near : {n : Number} {m : Whole} → Near n m → NearNext (Some n) (Some m)
  next_broken : NearNext None None

abbrev pub Pushes : Number → ℕ → Option Number → Type 0
Pushes n b r = (m : Whole) → Near n m → NearNext r (number_step m b)

-- at the end
pub data NearEnd : Option ℕ → Option ℕ → Type 0 where
  end_near : {v n : ℕ} → v ≡ min n cap → NearEnd (Some v) (Some n)
  end-broken : NearEnd None None

abbrev pub Ends : Number → Option ℕ → Type 0
Ends n r = (m : Whole) → Near n m → NearEnd r (number_end m)
