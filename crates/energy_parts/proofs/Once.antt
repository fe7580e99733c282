-- Two whole numbers that doubles hold exactly, one divided by the other: the exact quotient, rounded once. Assumes nothing.
use mathlib.Core.Path.{◌≡◌, sym, ap, ◌∙◌}
use mathlib.Core.Bool.{true, false, true≢false}
use Prim.Native.Nat.{ℕ, ◌*◌, ◌≤◌, ◌<◌, ◌^◌}
use native.Mathlib.Nat.{mul-one, mul_comm, mul_assoc, mul-pos}
use native.Mathlib.Omega.{arith}
use borrow.Author.Tests.{ne_eqb}
use lib.Dec.{T, eqb, le→leb}
use lib.IntN.{pos}
use lib.Ieee.{Float, nan, inf, fin, Format, binary64, up, down, round, div, of_int, in_float}
use lib.Ieee.Fits.{up_pos, down_pos}
use lib.Ieee.Exact.{HasValue}
use lib.Ieee.Positive.{first_pos}
use lib.Ieee.Scale.{round_same}
use lib.Ieee.Back.{round_whole}
use Rattle.rules.specs.Limits.{most_kj}
use Rattle.rules.specs.Energy.{quotient}

-- a cast loses nothing
pub castable : (n : ℕ) → n ≤ most_kj → T (in_float binary64 (pos n))
unfolding in_float
castable n h = le→leb n (2 ^ 53) (omega arith)

shuffle : (n x y m : ℕ) → n * x * y * m ≡ n * (m * y * x)
shuffle n x y m =
    mul_assoc (n * x) y m ∙ mul_assoc n x (y * m) ∙ ap (λ (z : ℕ). n * z) (mul_comm x (y * m) ∙ ap (λ (z : ℕ). z * x) (mul_comm y m))

-- of two finite values that are n / 1 and m / 1
divides : (f : Format) (x y : Float) (n m : ℕ) → 0 < m → HasValue x false n 1 → HasValue y false m 1 → div f x y ≡ round f false n m
unfolding div
divides f nan y n m p h k = absurd h
divides f (inf s) y n m p h k = absurd h
divides f (fin s a e) nan n m p h k = absurd k
divides f (fin s a e) (inf t) n m p h k = absurd k
divides f (fin true a e) (fin t b d) n m p h k = absurd (true≢false h.0)
divides f (fin false a e) (fin true b d) n m p h k = absurd (true≢false k.0)
divides f (fin false a e) (fin false b d) n m p h k =
    let hx : a * up e ≡ n * down e = sym (mul-one (a * up e)) ∙ h.1 in
    let hy : b * up d ≡ m * down d = sym (mul-one (b * up d)) ∙ k.1 in
    let bp : 0 < b = first_pos b (up d) (rw hy (mul-pos p (down_pos d))) in
    let nb : eqb b 0 ≡ false = ne_eqb b 0 (λ z. omega arith) in
    rw nb
    (round_same f false (a * up e * down d) (b * up d * down e) n m (mul-pos (mul-pos bp (up_pos d)) (down_pos e)) p
    (rw (hx, hy) (shuffle n (down e) (down d) m)))

-- "whole kJ cast exactly to f64, one division; the result is that single rounded quotient"
pub once : (n m : ℕ) → n ≤ most_kj → m ≤ most_kj → 0 < m → div binary64 (of_int binary64 (pos n)) (of_int binary64 (pos m)) ≡ quotient n m
unfolding of_int
once n m h k p = divides binary64 _ _ n m p (round_whole binary64 false n (omega arith)) (round_whole binary64 false m (omega arith))
