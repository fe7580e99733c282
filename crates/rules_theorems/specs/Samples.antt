-- "A sample is an optional minus, a whole number, a point and one to three digits; it is read as kilowatts" (document 01, "The CSV rows"): which bytes are a sample, and its value.
use Rattle.std.specs.Prelude.{ℕ, ◌+◌, ◌*◌, ◌<◌, ◌≡◌, List, [], ◌∷◌, ◌++◌, ℤ, pos, neg_ℤ}
use Rattle.rules.specs.Bytes.{minus, point, digit_zero, spelled}

-- a MW and its parts, in kW
abbrev pub megawatt : ℕ
megawatt = 1_000

abbrev pub tenth : ℕ
tenth = 100

abbrev pub hundredth : ℕ
hundredth = 10

-- a byte that is a digit, and the digit's value
pub record Digit (b n : ℕ) : Type 0 where
  pub is : b ≡ digit_zero + n
  pub single : n < 10

-- "one to three digits": tenths of a MW, then hundredths, then thousandths
pub data Fraction : List ℕ → (kw : ℕ) → Type 0 where
  one : {a n : ℕ} → Digit a n → Fraction (a ∷ []) (n * tenth)
  two : {a b n m : ℕ} → Digit a n → Digit b m → Fraction (a ∷ b ∷ []) (n * tenth + m * hundredth)
  three : {a b c n m k : ℕ} → Digit a n → Digit b m → Digit c k → Fraction (a ∷ b ∷ c ∷ []) (n * tenth + m * hundredth + k)

-- "a whole number, a point and one to three digits"
pub data Size : List ℕ → (kw : ℕ) → Type 0 where
  size : (n : ℕ) {f : List ℕ} {k : ℕ} → Fraction f k → Size (spelled n ++ point ∷ f) (n * megawatt + k)

-- "an optional minus": `-0.4` is -400, and `-0.0` is 0
pub data Sample : List ℕ → (kw : ℤ) → Type 0 where
  plain : {s : List ℕ} {k : ℕ} → Size s k → Sample s (pos k)
  negative : {s : List ℕ} {k : ℕ} → Size s k → Sample (minus ∷ s) (neg_ℤ (pos k))
