-- A whole number has one spelling: reading what was written gives the number, and writing what was read gives the text. Assumes nothing.
use Prim.Native.Nat.{ℕ, zero, suc, ◌+◌, ◌*◌, ◌-◌, ◌^◌, ◌/◌, ◌%◌, ◌≤◌, ◌<◌}
use mathlib.Core.Path.{◌≡◌, refl, ap, sym, ◌∙◌}
use mathlib.Core.List.{List, [], ◌∷◌, ◌++◌, append-nil}
use mathlib.Core.Bool.{Bool, true, false, not, ◌&&◌, and-false}
use native.Mathlib.Omega.{arith}
use native.Mathlib.Nat.{pow-suc, div-lt_iff_lt-mul, le_refl}
use lib.Dec.{T, leb, ltb, eqb, leb→le, T_not}
use lib.ListN.{length}
use borrow.Author.Tests.{ltb-true, ltb-false, lt-ltb, le-ltb, le-leb, lt-leb, eq-eqb, ne_eqb}
use Rattle.rules.specs.Lists.{every}
use Rattle.rules.specs.Bytes.{digit_zero, digit_nine, is_digit, value_from, plain, whole_of, spelled_from, spelled}
use Rattle.rules.proofs.Truth.{is_true, holds, and_both, both_and, every_all, all_map, under-test}
use Rattle.rules.proofs.Pieces.{Free}
use Rattle.std.specs.Prelude.{Some}

-- ---- a digit is from 0 to 9

pub digit_in : (b : ℕ) → digit_zero ≤ b → b ≤ digit_nine → is_digit b ≡ true
digit_in b l h = rw (le-leb digit_zero b l, le-leb b digit_nine h)

pub digit_below : (b : ℕ) → b < digit_zero → is_digit b ≡ false
digit_below b h = rw (lt-leb digit_zero b h)

pub digit_above : (b : ℕ) → digit_nine < b → is_digit b ≡ false
digit_above b h = rw (lt-leb b digit_nine h, and-false (leb digit_zero b))

pub digit_range : (b : ℕ) → T (is_digit b) → (digit_zero ≤ b) × (b ≤ digit_nine)
digit_range b h = let k : T (leb digit_zero b) × T (leb b digit_nine) = and_both (leb digit_zero b) (leb b digit_nine) h in (leb→le digit_zero b k.0, leb→le b digit_nine k.1)

-- ---- the two cases of a number's digits

pub spelled_digit : (fuel n : ℕ) (after : List ℕ) → n < 10 → spelled_from (suc fuel) n after ≡ (digit_zero + n) ∷ after
spelled_digit fuel n after h = rw (spelled_from, lt-ltb n 10 h)

pub spelled-more : (fuel n : ℕ) (after : List ℕ) → 10 ≤ n → spelled_from (suc fuel) n after ≡ spelled_from fuel (n / 10) ((digit_zero + n % 10) ∷ after)
spelled-more fuel n after h = rw (spelled_from, le-ltb n 10 h)

-- a fact of spelled numbers: of one digit, and of one digit more
module _ (P : ℕ → List ℕ → List ℕ → Type 0)
    (digit : (n : ℕ) (after : List ℕ) → n < 10 → P n after ((digit_zero + n) ∷ after))
    (more : (n : ℕ) (after s : List ℕ) → 10 ≤ n → P (n / 10) ((digit_zero + n % 10) ∷ after) s → P n after s) where
  pub by_digits : (fuel n : ℕ) (after : List ℕ) → n < fuel → P n after (spelled_from fuel n after)
  by_digits zero n after h = absurd (omega arith)
  by_digits (suc fuel) n after h = go (ltb n 10) refl (by_digits fuel (n / 10) ((digit_zero + n % 10) ∷ after))
    where
      go : (t : Bool) → ltb n 10 ≡ t → (n / 10 < fuel → P (n / 10) ((digit_zero + n % 10) ∷ after) (spelled_from fuel (n / 10) ((digit_zero + n % 10) ∷ after)))
          → P n after (spelled_from (suc fuel) n after)
      go true e ih = rw (spelled_digit fuel n after (ltb-true n 10 e)) (digit n after (ltb-true n 10 e))
      go false e ih =
          let k : 10 ≤ n = ltb-false n 10 e in
          rw (spelled-more fuel n after k) (more n after (spelled_from fuel (n / 10) ((digit_zero + n % 10) ∷ after)) k (ih (omega arith)))

-- ---- reading what was written

-- the value of a number's digits and of what follows them
spelled_value : (fuel n : ℕ) (after : List ℕ) → n < fuel → value_from 0 (spelled_from fuel n after) ≡ value_from n after
spelled_value =
    by_digits (λ n after s. value_from 0 s ≡ value_from n after)
    (λ n after h. let e : 0 * 10 + (digit_zero + n - digit_zero) ≡ n = omega arith in ap (λ (m : ℕ). value_from m after) e)
    (λ n after s h ih. let e : n / 10 * 10 + (digit_zero + n % 10 - digit_zero) ≡ n = omega arith in ih ∙ ap (λ (m : ℕ). value_from m after) e)

is_digit_lem : (n : ℕ) → n < 10 → T (is_digit (digit_zero + n))
is_digit_lem n h = rw (le-leb digit_zero (digit_zero + n) (omega arith), le-leb (digit_zero + n) digit_nine (omega arith)) tt

spelled_digits : (fuel n : ℕ) (after : List ℕ) → n < fuel → T (every is_digit after) → T (every is_digit (spelled_from fuel n after))
spelled_digits =
    by_digits (λ n after s. T (every is_digit after) → T (every is_digit s))
    (λ n after h k. both_and (is_digit (digit_zero + n)) (every is_digit after) (is_digit_lem n h) k)
    (λ n after s h ih k. ih (both_and (is_digit (digit_zero + n % 10)) (every is_digit after) (is_digit_lem (n % 10) (omega arith)) k))

plain-first : (b : ℕ) (after : List ℕ) → digit_zero < b → T (plain (b ∷ after))
plain-first b [] h = tt
plain-first b (c ∷ after) h = rw (ne_eqb b digit_zero (omega arith)) tt

-- no needless zero in front
spelled-plain : (fuel n : ℕ) (after : List ℕ) → n < fuel → 0 < n → T (plain (spelled_from fuel n after))
spelled-plain =
    by_digits (λ n after s. 0 < n → T (plain s)) (λ n after h k. plain-first (digit_zero + n) after (omega arith)) (λ n after s h ih k. ih (omega arith))

pub plain-spelled : (n : ℕ) → T (plain (spelled n))
plain-spelled zero = tt
plain-spelled (suc n) = spelled-plain (suc (suc n)) (suc n) [] (le_refl (suc (suc n))) (omega arith)

pub digits_spelled : (n : ℕ) → T (every is_digit (spelled n))
digits_spelled n = spelled_digits (suc n) n [] (le_refl (suc n)) tt

-- a number that was written is read back
pub whole_spelled : (n : ℕ) → whole_of (spelled n) ≡ Some n
whole_spelled n =
    rw (is_true (plain (spelled n) && every is_digit (spelled n)) (both_and (plain (spelled n)) (every is_digit (spelled n)) (plain-spelled n) (digits_spelled n)))
    (ap (λ (m : ℕ). Some m) (spelled_value (suc n) n [] (le_refl (suc n))))

-- ---- writing what was read

-- any fuel that is enough gives the same digits
fuel_enough : (fuel more n : ℕ) (after : List ℕ) → n < fuel → n < more → spelled_from fuel n after ≡ spelled_from more n after
fuel_enough zero more n after h k = absurd (omega arith)
fuel_enough (suc fuel) zero n after h k = absurd (omega arith)
fuel_enough (suc fuel) (suc more) n after h k = go (ltb n 10) refl (fuel_enough fuel more (n / 10) ((digit_zero + n % 10) ∷ after))
  where
    go : (t : Bool) → ltb n 10 ≡ t
        → (n / 10 < fuel → n / 10 < more → spelled_from fuel (n / 10) ((digit_zero + n % 10) ∷ after) ≡ spelled_from more (n / 10) ((digit_zero + n % 10) ∷ after))
        → spelled_from (suc fuel) n after ≡ spelled_from (suc more) n after
    go true e ih = spelled_digit fuel n after (ltb-true n 10 e) ∙ sym (spelled_digit more n after (ltb-true n 10 e))
    go false e ih =
        let l : 10 ≤ n = ltb-false n 10 e in
        spelled-more fuel n after l ∙ ih (omega arith) (omega arith) ∙ sym (spelled-more more n after l)

-- one digit more
spelled_next : (n d : ℕ) (after : List ℕ) → 0 < n → d < 10 → spelled_from (suc (n * 10 + d)) (n * 10 + d) after ≡ spelled_from (suc n) n ((digit_zero + d) ∷ after)
spelled_next n d after h k =
    let q : (n * 10 + d) / 10 ≡ n = omega arith in
    let r : (n * 10 + d) % 10 ≡ d = omega arith in
    spelled-more (n * 10 + d) (n * 10 + d) after (omega arith)
    ∙ rw (q, r) (fuel_enough (n * 10 + d) (suc n) n ((digit_zero + d) ∷ after) (omega arith) (omega arith))

-- the digits of a number and of the digits that follow it
spelled_following : (n : ℕ) (s after : List ℕ) → 0 < n → T (every is_digit s)
    → spelled_from (suc (value_from n s)) (value_from n s) after ≡ spelled_from (suc n) n (s ++ after)
spelled_following n [] after h k = refl
spelled_following n (b ∷ s) after h k =
    let both : T (is_digit b) × T (every is_digit s) = and_both (is_digit b) (every is_digit s) k in
    let range : (digit_zero ≤ b) × (b ≤ digit_nine) = digit_range b both.0 in
    let e : digit_zero + (b - digit_zero) ≡ b = omega arith in
    spelled_following (n * 10 + (b - digit_zero)) s after (omega arith) both.1
    ∙ spelled_next n (b - digit_zero) (s ++ after) h (omega arith)
    ∙ ap (λ (c : ℕ). spelled_from (suc n) n (c ∷ s ++ after)) e

spelled-value_of : (s : List ℕ) → T (plain s) → T (every is_digit s) → spelled (value_from 0 s) ≡ s
spelled-value_of [] h k = absurd h
spelled-value_of (b ∷ []) h k =
    let range : (digit_zero ≤ b) × (b ≤ digit_nine) = digit_range b (and_both (is_digit b) true k).0 in
    let e : digit_zero + (0 * 10 + (b - digit_zero)) ≡ b = omega arith in
    spelled_digit (0 * 10 + (b - digit_zero)) (0 * 10 + (b - digit_zero)) [] (omega arith) ∙ ap (λ (c : ℕ). c ∷ []) e
spelled-value_of (b ∷ c ∷ s) h k =
    let both : T (is_digit b) × T (every is_digit (c ∷ s)) = and_both (is_digit b) (every is_digit (c ∷ s)) k in
    let range : (digit_zero ≤ b) × (b ≤ digit_nine) = digit_range b both.0 in
    let other : b ≡ digit_zero → ⊥ = λ e. T_not (eqb b digit_zero) h (holds (eqb b digit_zero) (eq-eqb b digit_zero e)) in
    let e : digit_zero + (0 * 10 + (b - digit_zero)) ≡ b = omega arith in
    spelled_following (0 * 10 + (b - digit_zero)) (c ∷ s) [] (omega arith) both.1
    ∙ spelled_digit (0 * 10 + (b - digit_zero)) (0 * 10 + (b - digit_zero)) (c ∷ s ++ []) (omega arith)
    ∙ ap (λ (a : ℕ). a ∷ c ∷ s ++ []) e
    ∙ ap (λ (r : List ℕ). b ∷ c ∷ r) (append-nil s)

-- a number that was read has no other spelling
pub spelled_whole : (s : List ℕ) (n : ℕ) → whole_of s ≡ Some n → spelled n ≡ s
spelled_whole s n e =
    let k : T (plain s && every is_digit s) × (value_from 0 s ≡ n) = under-test (plain s && every is_digit s) (value_from 0 s) n e in
    let both : T (plain s) × T (every is_digit s) = and_both (plain s) (every is_digit s) k.0 in
    ap spelled (sym k.1) ∙ spelled-value_of s both.0 both.1

-- ---- no digit is a sign of a CSV text, and how many digits there are

-- a byte that is no digit is in no number
pub spelled_free : (sep : ℕ) (n : ℕ) → T (not (is_digit sep)) → Free sep (spelled n)
spelled_free sep n h =
    all_map (λ b. T (is_digit b)) (λ b. b ≡ sep → ⊥) (λ b d e. T_not (is_digit sep) h (rw e at d)) (spelled n) (every_all is_digit (spelled n) (digits_spelled n))

spelled-length_from : (fuel n : ℕ) (after : List ℕ) → n < fuel → (k : ℕ) → n < 10 ^ suc k → length (spelled_from fuel n after) ≤ suc k + length after
spelled-length_from = by_digits (λ n after s. (k : ℕ) → n < 10 ^ suc k → length s ≤ suc k + length after) (λ n after h k l. omega arith) more
  where
    more : (n : ℕ) (after s : List ℕ) → 10 ≤ n
        → ((k : ℕ) → n / 10 < 10 ^ suc k → length s ≤ suc k + length {A = ℕ} ((digit_zero + n % 10) ∷ after))
        → (k : ℕ) → n < 10 ^ suc k → length s ≤ suc k + length after
    more n after s h ih zero l = absurd (omega arith)
    more n after s h ih (suc k) l =
        let j : n / 10 < 10 ^ suc k = (div-lt_iff_lt-mul {k = 10} (omega arith)).1 (rw (pow-suc 10 (suc k)) at l) in
        omega (arith, ih k j)

-- a number below 10 to the k has at most k digits
pub spelled-length : (n k : ℕ) → n < 10 ^ suc k → length (spelled n) ≤ suc k
spelled-length n k h = omega (arith, spelled-length_from (suc n) n [] (le_refl (suc n)) k h)
