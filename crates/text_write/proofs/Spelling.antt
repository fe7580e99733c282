-- A number's digits laid from the back: what is laid is what follows the number that is left. Assumes nothing.
use Prim.Native.Nat.{ℕ, zero, suc, ◌+◌, ◌-◌, ◌^◌, ◌/◌, ◌%◌, ◌≤◌, ◌<◌}
use mathlib.Core.Path.{◌≡◌, refl, sym, subst, ◌∙◌}
use mathlib.Core.List.{List, ◌∷◌}
use native.Mathlib.Omega.{arith}
use native.Mathlib.Nat.{pow-suc, div-lt_iff_lt-mul}
use lib.ListN.{length, set, take, drop, replicate, length-set, length-drop}
use lib.Seq.{drop-cons, drop-set-lt, get_or-set_same, take_all}
use Rattle.rules.specs.Bytes.{digit_zero, spelled_from, spelled}
use Rattle.rules.proofs.Numbers.{spelled_digit, spelled-more}
use Rattle.text_write.specs.Written.{Written}

-- as many digits as a u32 can have
abbrev pub most_digits : ℕ
most_digits = 10

-- the digits behind place k follow the number that is left; it has digits enough for the places up to k
pub record Spelling (n : ℕ) (digits : List ℕ) (k left : ℕ) : Type 0 where
  pub wide : length digits ≡ most_digits
  pub room : k < most_digits
  pub small : left < 10 ^ suc k
  pub fuel : ℕ
  pub enough : left < fuel
  pub is : spelled_from fuel left (drop (suc k) digits) ≡ spelled n

-- nothing is laid yet
pub spelling_none : (n : ℕ) → n < 2 ^ 32 → Spelling n (replicate most_digits 0) 9 n
spelling_none n h =
    record { wide = refl; room = omega arith; small = omega arith; fuel = suc n; enough = omega arith; is = refl }

-- a number of two digits or more has a place left in front
pub place_left : (k left : ℕ) → left < 10 ^ suc k → 10 ≤ left → 0 < k
place_left zero left h l = absurd (omega arith)
place_left (suc k) left h l = omega arith

fewer_digits : (k left : ℕ) → left < 10 ^ suc k → 0 < k → left / 10 < 10 ^ suc (k - 1)
fewer_digits zero left h l = absurd (omega arith)
fewer_digits (suc k) left h l =
    let e : suc k - 1 ≡ k = omega arith in
    rw e ((div-lt_iff_lt-mul {k = 10} (omega arith)).1 (rw (pow-suc 10 (suc k)) at h))

-- a digit laid at k, in front of those behind it
drop-laid : (digits : List ℕ) (k b : ℕ) → k < length digits → drop k (set digits k b) ≡ b ∷ drop (suc k) digits
drop-laid digits k b h =
    let l : k < length (set digits k b) = rw (length-set digits k b) h in
    drop-cons (set digits k b) k 0 l ∙ rw (get_or-set_same digits k b 0 h, drop-set-lt (suc k) digits k b (omega arith))

spelled_fewer : (fuel n : ℕ) (after : List ℕ) → n < fuel → 10 ≤ n
    → spelled_from fuel n after ≡ spelled_from (fuel - 1) (n / 10) ((digit_zero + n % 10) ∷ after)
spelled_fewer zero n after h l = absurd (omega arith)
spelled_fewer (suc fuel) n after h l =
    let e : suc fuel - 1 ≡ fuel = omega arith in
    rw e (spelled-more fuel n after l)

spelled-last : (fuel n : ℕ) (after : List ℕ) → n < fuel → n < 10 → spelled_from fuel n after ≡ (digit_zero + n) ∷ after
spelled-last zero n after h l = absurd (omega arith)
spelled-last (suc fuel) n after h l = spelled_digit fuel n after l

-- the last digit of what is left goes in front of those behind it
pub spelling_more : {n : ℕ} {digits : List ℕ} {k left : ℕ} → Spelling n digits k left → 10 ≤ left
    → Spelling n (set digits k (digit_zero + left % 10)) (k - 1) (left / 10)
spelling_more {n} {digits} {k} {left} s h =
    let p : 0 < k = place_left k left s.small h in
    let e : suc (k - 1) ≡ k = omega arith in
    let laid = drop-laid digits k (digit_zero + left % 10) (omega (arith, s.room, s.wide)) in
    record {
      wide = length-set digits k (digit_zero + left % 10) ∙ s.wide;
      room = omega (arith, s.room);
      small = fewer_digits k left s.small p;
      fuel = s.fuel - 1;
      enough = omega (arith, s.enough);
      is = rw (e, laid) (sym (spelled_fewer s.fuel left (drop (suc k) digits) s.enough h) ∙ s.is);
    }

-- the first digit in front of them: from its place on, the digits are the number
spelling_all : {n : ℕ} {digits : List ℕ} {k left : ℕ} → Spelling n digits k left → left < 10
    → take (most_digits - k) (drop k (set digits k (digit_zero + left))) ≡ spelled n
spelling_all {n} {digits} {k} {left} s h =
    take_all (most_digits - k) (drop k (set digits k (digit_zero + left))) (rw (length-drop k (set digits k (digit_zero + left)), length-set digits k (digit_zero + left)) (omega (arith, s.wide)))
    ∙ drop-laid digits k (digit_zero + left) (omega (arith, s.room, s.wide))
    ∙ sym (spelled-last s.fuel left (drop (suc k) digits) s.enough h)
    ∙ s.is

pub spelling_written : {n : ℕ} {digits : List ℕ} {k left : ℕ} {t : List ℕ} {at : ℕ} {t' : List ℕ} {after : ℕ} → Spelling n digits k left → left < 10
    → Written t at (take (most_digits - k) (drop k (set digits k (digit_zero + left)))) t' after → Written t at (spelled n) t' after
spelling_written {t = t} {at = at} {t' = t'} {after = after} s h w = subst (λ (v : List ℕ). Written t at v t' after) (spelling_all s h) w
