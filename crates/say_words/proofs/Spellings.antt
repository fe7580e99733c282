-- Numbers digit by digit, and with zeros in front: the pieces written one after the other are the whole. Assumes nothing.
use Prim.Native.Nat.{ℕ, zero, suc, ◌+◌, ◌/◌, ◌%◌, ◌≤◌, ◌<◌}
use native.Mathlib.Omega.{arith}
use mathlib.Core.Path.{◌≡◌, refl, ap, sym, subst, ◌∙◌}
use mathlib.Core.Bool.{Bool, true, false}
use mathlib.Core.List.{List, [], ◌∷◌, ◌++◌, append_assoc}
use lib.Dec.{ltb}
use lib.ListN.{length}
use borrow.Author.Tests.{ltb-true, ltb-false, lt-ltb, le-ltb}
use Rattle.rules.specs.Bytes.{digit_zero, spelled_from, spelled}
use Rattle.rules.proofs.Numbers.{spelled_digit, spelled-more, by_digits}
use Rattle.text_write.specs.Written.{last_place, Written}
use Rattle.text_write.proofs.Writing.{written_then}
use Rattle.say_words.specs.Numbers.{two_digits, three_digits}

-- ---- the last digit of a number

-- any fuel that is enough gives the same digits
same_digits : (fuel n : ℕ) (after : List ℕ) → n < fuel → (more : ℕ) → n < more → spelled_from fuel n after ≡ spelled_from more n after
same_digits = by_digits (λ n after s. (more : ℕ) → n < more → s ≡ spelled_from more n after) digit more
  where
    digit : (n : ℕ) (after : List ℕ) → n < 10 → (f : ℕ) → n < f → (digit_zero + n) ∷ after ≡ spelled_from f n after
    digit n after h zero k = absurd (omega arith)
    digit n after h (suc f) k = sym (spelled_digit f n after h)

    more : (n : ℕ) (after s : List ℕ) → 10 ≤ n → ((f : ℕ) → n / 10 < f → s ≡ spelled_from f (n / 10) ((digit_zero + n % 10) ∷ after))
        → (f : ℕ) → n < f → s ≡ spelled_from f n after
    more n after s h ih zero k = absurd (omega arith)
    more n after s h ih (suc f) k = ih f (omega arith) ∙ sym (spelled-more f n after h)

-- what follows a number's digits stands behind them
spelled-append : (fuel n : ℕ) (after : List ℕ) → spelled_from fuel n after ≡ spelled_from fuel n [] ++ after
spelled-append zero n after = refl
spelled-append (suc fuel) n after = go (ltb n 10) refl (spelled-append fuel (n / 10))
  where
    go : (t : Bool) → ltb n 10 ≡ t → ((r : List ℕ) → spelled_from fuel (n / 10) r ≡ spelled_from fuel (n / 10) [] ++ r)
        → spelled_from (suc fuel) n after ≡ spelled_from (suc fuel) n [] ++ after
    go true e ih = spelled_digit fuel n after (ltb-true n 10 e) ∙ ap (λ (r : List ℕ). r ++ after) (sym (spelled_digit fuel n [] (ltb-true n 10 e)))
    go false e ih =
        let h : 10 ≤ n = ltb-false n 10 e in
        let d : ℕ = digit_zero + n % 10 in
        spelled-more fuel n after h
        ∙ ih (d ∷ after)
        ∙ sym (append_assoc (spelled_from fuel (n / 10) []) (d ∷ []) after)
        ∙ ap (λ (r : List ℕ). r ++ after) (sym (ih (d ∷ [])) ∙ sym (spelled-more fuel n [] h))

pub last_digit : (n : ℕ) → 10 ≤ n → spelled (n / 10) ++ (digit_zero + n % 10) ∷ [] ≡ spelled n
last_digit n h =
    let d : ℕ = digit_zero + n % 10 in
    sym
    (spelled-more n n [] h
    ∙ same_digits n (n / 10) (d ∷ []) (omega arith) (suc (n / 10)) (omega arith)
    ∙ spelled-append (suc (n / 10)) (n / 10) (d ∷ []))

-- ---- written

-- a text that is equal
pub written_as_lem : {t : List ℕ} {at : ℕ} {w v t' : List ℕ} {after : ℕ} → Written t at w t' after → w ≡ v → Written t at v t' after
written_as_lem {t} {at} {t' = t'} {after = after} a e = subst (λ (x : List ℕ). Written t at x t' after) e a

module _ {n : ℕ} {t : List ℕ} {at : ℕ} {t₁ : List ℕ} {at₁ : ℕ} where
  pub three-written : 100 ≤ n → Written t at (spelled n) t₁ at₁ → Written t at (three_digits n) t₁ at₁
  three-written h a = rw (le-ltb n 100 h) a

  module _ {t₂ : List ℕ} {at₂ : ℕ} where
    pub digits_written : 10 ≤ n → Written t at (spelled (n / 10)) t₁ at₁ → Written t₁ at₁ ((digit_zero + n % 10) ∷ []) t₂ at₂ → length t ≤ last_place
        → Written t at (spelled n) t₂ at₂
    digits_written h a b k = written_as_lem (written_then a b k) (last_digit n h)

    pub zero_three-written : n < 100 → Written t at (digit_zero ∷ []) t₁ at₁ → Written t₁ at₁ (two_digits n) t₂ at₂ → length t ≤ last_place
        → Written t at (three_digits n) t₂ at₂
    zero_three-written h a b k = rw (lt-ltb n 100 h) (written_then a b k)
