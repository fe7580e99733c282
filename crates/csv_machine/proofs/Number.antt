-- The number machine reads what `whole_of` says. Assumes nothing.
use Prim.Native.Nat.{ℕ, ◌+◌, ◌*◌, ◌-◌}
use mathlib.Core.Path.{◌≡◌, refl, ap}
use mathlib.Core.Bool.{Bool, true, false, not, cond, ◌&&◌}
use mathlib.Core.List.{List, [], ◌∷◌}
use native.Mathlib.Omega.{arith}
use lib.Dec.{eqb}
use borrow.Author.Tests.{eqb-true}
use Rattle.rules.specs.Lists.{◌>>=◌, every}
use Rattle.rules.specs.Bytes.{is_digit, digit_zero, value_from, whole_of}
use Rattle.csv_machine.specs.Fold.{run}
use Rattle.csv_machine.proofs.Options.{never}
use Rattle.csv_machine.specs.Number.{Number, empty, zero, digits, number_step, number_end}
use Rattle.std.specs.Prelude.{Some, None}

-- a number takes digits alone
pub no_step : (m : Number) (b : ℕ) → is_digit b ≡ false → number_step m b ≡ None
no_step empty b d = rw d
no_step zero b d = refl
no_step (digits n) b d = rw d

-- one that took a byte is not empty
pub pushed : (m next : Number) (b : ℕ) → number_step m b ≡ Some next → next ≡ empty → ⊥
pushed empty next b e q = go (is_digit b) (eqb b digit_zero) e
  where
    go : (t z : Bool) → cond t (Some (cond z zero (digits (b - digit_zero)))) None ≡ Some next → ⊥
    go true true e = let y : zero ≡ empty = cc in let z : ◌≡◌ {A = ℕ} 0 1 = cc in omega arith
    go true false e = let y : digits (b - digit_zero) ≡ empty = cc in let z : ◌≡◌ {A = ℕ} 0 1 = cc in omega arith
    go false z e = never next e
pushed zero next b e q = never next e
pushed (digits n) next b e q = go (is_digit b) e
  where
    go : (t : Bool) → cond t (Some (digits (n * 10 + (b - digit_zero)))) None ≡ Some next → ⊥
    go true e = let y : digits (n * 10 + (b - digit_zero)) ≡ empty = cc in let z : ◌≡◌ {A = ℕ} 0 1 = cc in omega arith
    go false e = never next e

-- digits after a first digit that is not zero
digits_after : (n : ℕ) (s : List ℕ) → run number_step (digits n) s >>= number_end ≡ cond (every is_digit s) (Some (value_from n s)) None
digits_after n [] = refl
digits_after n (b ∷ s) = go (is_digit b) (digits_after (n * 10 + (b - digit_zero)) s)
  where
    next : ℕ
    next = n * 10 + (b - digit_zero)

    go : (t : Bool) → run number_step (digits next) s >>= number_end ≡ cond (every is_digit s) (Some (value_from next s)) None
        → cond t (Some (digits next)) None >>= (λ st. run number_step st s) >>= number_end ≡ cond (t && every is_digit s) (Some (value_from next s)) None
    go true rest = rest
    go false rest = refl

-- the first digit's value
first_digit : (b : ℕ) → 0 * 10 + (b - digit_zero) ≡ b - digit_zero
first_digit b = omega arith

-- a whole number, byte by byte
pub number_is_whole : (s : List ℕ) → run number_step empty s >>= number_end ≡ whole_of s
number_is_whole [] = refl
number_is_whole (b ∷ []) = rw (first_digit b) (go (is_digit b) (eqb b digit_zero) refl)
  where
    go : (t z : Bool) → eqb b digit_zero ≡ z
        → cond t (Some (cond z zero (digits (b - digit_zero)))) None >>= (λ st. Some st) >>= number_end ≡ cond (t && true) (Some (b - digit_zero)) None
    go true true e = let q : 0 ≡ b - digit_zero = omega (arith, eqb-true b digit_zero e) in ap Some q
    go true false e = refl
    go false z e = refl
number_is_whole (b ∷ c ∷ s) = rw (first_digit b) (go (is_digit b) (eqb b digit_zero) (digits_after (b - digit_zero) (c ∷ s)))
  where
    go : (t z : Bool) → run number_step (digits (b - digit_zero)) (c ∷ s) >>= number_end ≡ cond (every is_digit (c ∷ s)) (Some (value_from (b - digit_zero) (c ∷ s))) None
        → cond t (Some (cond z zero (digits (b - digit_zero)))) None >>= (λ st. run number_step st (c ∷ s)) >>= number_end
        ≡ cond (not z && (t && every is_digit (c ∷ s))) (Some (value_from (b - digit_zero) (c ∷ s))) None
    go true true rest = refl
    go true false rest = rest
    go false true rest = refl
    go false false rest = refl
