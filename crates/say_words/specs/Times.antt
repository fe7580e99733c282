-- Times: seconds after midnight, and the same as a clock that goes on past 24 hours.
use Rattle.std.specs.Prelude.{ℕ, ◌+◌, ◌*◌, ◌/◌, ◌%◌, min, List, ◌∷◌, ◌++◌}
use Prim.Native.Char.{code}
use Rattle.rules.specs.Limits.{quarter_seconds}
use Rattle.rules.specs.Bytes.{bytes, spelled}
use Rattle.say_words.specs.Numbers.{two_digits}

abbrev pub minute : ℕ
minute = 60

abbrev pub hour : ℕ
hour = 3_600

abbrev pub colon : ℕ
colon = code ":"

-- hours, minutes, seconds
unfoldable pub clock_of : (seconds : ℕ) → List ℕ
clock_of s = two_digits (s / hour) ++ colon ∷ two_digits (s / minute % minute) ++ colon ∷ two_digits (s % minute)

unfoldable pub time_of : (seconds : ℕ) → List ℕ
time_of s = spelled s ++ bytes " s (" ++ clock_of s ++ bytes ")"

-- the first second after quarter k: H where H cuts it
abbrev pub quarter_end : (H k : ℕ) → ℕ
quarter_end H k = min H (quarter_seconds * k + quarter_seconds)

-- the first second of quarter k, and the first after it
unfoldable pub quarter_of : (H k : ℕ) → List ℕ
quarter_of H k = clock_of (quarter_seconds * k) ++ bytes " to " ++ clock_of (quarter_end H k)
