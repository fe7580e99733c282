-- What is shown of an energy, read back as document 01 reads a decimal, is the number of whole thousandths: rounded down, and no further off. Assumes nothing.
use Prim.Native.Nat.{ℕ, ◌+◌, ◌*◌, ◌/◌, ◌%◌, ◌≤◌, ◌<◌}
use native.Mathlib.Omega.{arith}
use native.Mathlib.Nat.{mod-lt, div-add-mod', mul_right_comm, mul-add-div_right, div-lt_iff_lt-mul}
use mathlib.Core.Path.{◌≡◌, refl, ap, sym, ◌∙◌}
use mathlib.Core.Bool.{Bool, true, false}
use mathlib.Core.List.{List, [], ◌∷◌, ◌++◌}
use lib.Dec.{ltb}
use borrow.Author.Tests.{ltb-true, ltb-false, lt-ltb, le-leb}
use Rattle.rules.specs.Bytes.{digit_zero, digit_nine, is_digit, point, split_on, spelled, thousandths_of, decimal_of}
use Rattle.rules.proofs.Pieces.{Free, split_front, split_alone}
use Rattle.rules.proofs.Numbers.{spelled_digit, spelled_free, whole_spelled}
use Rattle.say_words.specs.Numbers.{three_digits}
use Rattle.say_words.specs.Energies.{decimals_of}
use Rattle.say_words.proofs.Spellings.{last_digit}
use Rattle.std.specs.Prelude.{Some}

-- ---- three digits

one_digit : (n : ℕ) → n < 10 → spelled n ≡ (digit_zero + n) ∷ []
one_digit n h = spelled_digit n n [] h

two_digits_lem : (n : ℕ) → 10 ≤ n → n < 100 → spelled n ≡ (digit_zero + n / 10) ∷ (digit_zero + n % 10) ∷ []
two_digits_lem n h k = sym (last_digit n h) ∙ ap (λ (s : List ℕ). s ++ (digit_zero + n % 10) ∷ []) (one_digit (n / 10) (omega arith))

-- hundreds, tens and ones
abbrev digits_of : ℕ → List ℕ
digits_of n = (digit_zero + n / 100) ∷ (digit_zero + n / 10 % 10) ∷ (digit_zero + n % 10) ∷ []

same-three : {a b c x y z : ℕ} → a ≡ x → b ≡ y → c ≡ z → a ∷ b ∷ c ∷ [] ≡ x ∷ y ∷ z ∷ []
same-three p q r = cc

three_are : (n : ℕ) → n < 1_000 → three_digits n ≡ digits_of n
three_are n h = go (ltb n 10) (ltb n 100) refl refl
  where
    go : (ten hundred : Bool) → ltb n 10 ≡ ten → ltb n 100 ≡ hundred → three_digits n ≡ digits_of n
    go true hundred e f =
        let k : n < 10 = ltb-true n 10 e in
        rw (lt-ltb n 100 (omega arith), e, one_digit n k)
        (same-three (omega arith) (omega arith) (omega arith))
    go false true e f =
        let k : 10 ≤ n = ltb-false n 10 e in
        let l : n < 100 = ltb-true n 100 f in
        rw (f, e, two_digits_lem n k l) (same-three (omega arith) (omega arith) (omega arith))
    go false false e f =
        let k : 100 ≤ n = ltb-false n 100 f in
        rw f
        (sym (last_digit n (omega arith))
        ∙ ap (λ (s : List ℕ). s ++ (digit_zero + n % 10) ∷ []) (two_digits_lem (n / 10) (omega arith) (omega arith))
        ∙ same-three (omega arith) (omega arith) (omega arith))

digit_is : (n : ℕ) → n < 10 → is_digit (digit_zero + n) ≡ true
digit_is n h = rw (le-leb digit_zero (digit_zero + n) (omega arith), le-leb (digit_zero + n) digit_nine (omega arith))

thousandths_read : (n : ℕ) → n < 1_000 → thousandths_of (three_digits n) ≡ Some n
thousandths_read n h =
    rw (three_are n h, digit_is (n / 100) (omega arith), digit_is (n / 10 % 10) (omega arith), digit_is (n % 10) (omega arith))
    (ap (λ (m : ℕ). Some m) (omega arith))

digits_free : (n : ℕ) → n < 1_000 → Free point (three_digits n)
digits_free n h = rw (three_are n h) (λ e. omega arith, (λ e. omega arith, (λ e. omega arith, tt)))

-- ---- the whole

below_thousand : (unit n : ℕ) → 0 < unit → n % unit * 1_000 / unit < 1_000
below_thousand unit n h = (div-lt_iff_lt-mul {k = unit} h).1 (omega (arith, mod-lt n {m = unit} h))

whole_and_rest : (unit n : ℕ) → 0 < unit → n / unit * 1_000 + n % unit * 1_000 / unit ≡ n * 1_000 / unit
whole_and_rest unit n h =
    let wide : n / unit * 1_000 * unit ≡ n / unit * unit * 1_000 = mul_right_comm (n / unit) 1_000 unit in
    let parts : n / unit * 1_000 * unit + n % unit * 1_000 ≡ n * 1_000 = omega (arith, div-add-mod' n unit) in
    sym (mul-add-div_right {m = unit} h (n / unit * 1_000) (n % unit * 1_000)) ∙ ap (λ (m : ℕ). m / unit) parts

-- what is shown reads back as the whole thousandths of a unit
pub decimals_read : (unit n : ℕ) → 0 < unit → decimal_of (split_on point (decimals_of unit n)) ≡ Some (n * 1_000 / unit)
unfolding decimals_of
decimals_read unit n h =
    let rest : ℕ = n % unit * 1_000 / unit in
    let k : rest < 1_000 = below_thousand unit n h in
    rw (split_front point (spelled (n / unit)) (three_digits rest) (spelled_free point (n / unit) tt), split_alone point (three_digits rest) (digits_free rest k))
    (rw (whole_spelled (n / unit), thousandths_read rest k) (ap (λ (m : ℕ). Some m) (whole_and_rest unit n h)))
