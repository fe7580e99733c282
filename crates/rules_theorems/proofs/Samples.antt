-- The definition reads bytes as a sample exactly where they are one, and the fields of a row as a profile exactly where they are its id and its samples. Assumes nothing.
use Prim.Native.Nat.{ℕ, ◌+◌, ◌*◌, ◌-◌, ◌≤◌, ◌<◌}
use mathlib.Core.Path.{◌≡◌, refl, ap}
use mathlib.Core.Bool.{Bool, true, false, not, cond, ◌&&◌}
use mathlib.Core.List.{List, [], ◌∷◌, ◌++◌}
use mathlib.Core.Logic.{◌↔◌}
use native.Mathlib.Omega.{arith}
use lib.Dec.{T, leb, eqb, leb→le, T_not}
use lib.ListN.{length}
use lib.IntN.{ℤ, pos, neg_ℤ}
use borrow.Author.Tests.{eqb-true, ne_eqb}
use Rattle.rules.specs.Limits.{least_sampled}
use Rattle.rules.specs.Lists.{every}
use Rattle.rules.specs.Bytes.{space, minus, point, digit_zero, is_digit, whole_of, thousandths_of, decimal_of, sample_of, split_on, joined, spelled}
use Rattle.rules.specs.Profiles.{Curve, samples_of, two_of}
use Rattle.rules.proofs.Truth.{holds, and_both, all_append, missing, under-test, found_first}
use Rattle.rules.proofs.Pieces.{Free, split_front, split_alone, split_joined, joined_split}
use Rattle.rules.proofs.Numbers.{digit_in, digit_range, whole_spelled, spelled_whole, spelled_free}
use Rattle.rules_theorems.specs.Lists.{Along}
use Rattle.rules_theorems.specs.Samples.{megawatt, tenth, hundredth, Digit, Fraction, one, two, three, Size, size, Sample, plain, negative}
use Rattle.rules_theorems.specs.WellFormed.{CurveFields}
use Rattle.rules_theorems.proofs.All.{along_first, along_each, each_along}
use Rattle.rules_theorems.proofs.Forms.{pieces_some}
use Rattle.std.specs.Prelude.{Option, Some, None, option_map}

-- ---- digits

digit_true : {b n : ℕ} → Digit b n → is_digit b ≡ true
digit_true {b} {n} d = digit_in b (omega arith) (omega arith)

true_digit : (b : ℕ) → T (is_digit b) → Digit b (b - digit_zero)
true_digit b h = let k = digit_range b h in record { is = omega arith; single = omega arith }

-- ---- a byte that is no digit, no point and no minus is not in a sample

module _ (sep : ℕ) (no_digit : T (not (is_digit sep))) where
  digit_free : {b n : ℕ} → Digit b n → b ≡ sep → ⊥
  digit_free {b} d e = T_not (is_digit sep) no_digit (rw e at (holds (is_digit b) (digit_true d)))

  fraction_free : {f : List ℕ} {k : ℕ} → Fraction f k → Free sep f
  fraction_free (one a) = (digit_free a, tt)
  fraction_free (two a b) = (digit_free a, (digit_free b, tt))
  fraction_free (three a b c) = (digit_free a, (digit_free b, (digit_free c, tt)))

  size_free : (point ≡ sep → ⊥) → {s : List ℕ} {k : ℕ} → Size s k → Free sep s
  size_free p (size n {f} x) = all_append (λ (b : ℕ). b ≡ sep → ⊥) (spelled n) (point ∷ f) (spelled_free sep n no_digit) (p, fraction_free x)

  sample_free : (point ≡ sep → ⊥) → (minus ≡ sep → ⊥) → {s : List ℕ} {x : ℤ} → Sample s x → Free sep s
  sample_free p m (plain z) = size_free p z
  sample_free p m (negative z) = (m, size_free p z)

-- ---- bytes that are a sample are read as its value

fraction_read : {f : List ℕ} {k : ℕ} → Fraction f k → thousandths_of f ≡ Some k
fraction_read (one {a} {n} x) =
    let e : (0 * 10 + (a - digit_zero)) * 100 ≡ n * tenth = omega arith in
    rw (digit_true x) (ap (λ (k : ℕ). Some k) e)
fraction_read (two {a} {b} {n} {m} x y) =
    let e : ((0 * 10 + (a - digit_zero)) * 10 + (b - digit_zero)) * 10 ≡ n * tenth + m * hundredth = omega arith in
    rw (digit_true x, digit_true y) (ap (λ (k : ℕ). Some k) e)
fraction_read (three {a} {b} {c} {n} {m} {k} x y z) =
    let e : (((0 * 10 + (a - digit_zero)) * 10 + (b - digit_zero)) * 10 + (c - digit_zero)) * 1 ≡ n * tenth + m * hundredth + k = omega arith in
    rw (digit_true x, digit_true y, digit_true z) (ap (λ (k : ℕ). Some k) e)

size-read : {s : List ℕ} {k : ℕ} → Size s k → decimal_of (split_on point s) ≡ Some k
size-read (size n {f} x) =
    rw (split_front point (spelled n) f (spelled_free point n tt), split_alone point f (fraction_free point tt x)) (rw (whole_spelled n, fraction_read x))

plain-read : (s : List ℕ) (k : ℕ) → Free minus s → decimal_of (split_on point s) ≡ Some k → sample_of s ≡ Some (pos k)
plain-read [] k h e = missing k e
plain-read (b ∷ s) k h e = rw (ne_eqb b minus h.0) (ap (option_map pos) e)

sample_read : {s : List ℕ} {x : ℤ} → Sample s x → sample_of s ≡ Some x
sample_read (plain {s} {k} z) = plain-read s k (size_free minus tt (omega arith) z) (size-read z)
sample_read (negative z) = ap (option_map (λ n. neg_ℤ (pos n))) (size-read z)

-- ---- and bytes that are read as a value are a sample of it

digits_of_lem : (a : ℕ) (s : List ℕ) → T (every is_digit (a ∷ s)) → Digit a (a - digit_zero) × T (every is_digit s)
digits_of_lem a s h = let k = and_both (is_digit a) (every is_digit s) h in (true_digit a k.0, k.1)

read_fraction : (f : List ℕ) (k : ℕ) → thousandths_of f ≡ Some k → Fraction f k
read_fraction [] k e = missing k e
read_fraction (a ∷ []) k e =
    let t = under-test (every is_digit (a ∷ [])) _ k e in
    let x = digits_of_lem a [] t.0 in
    let q : k ≡ (a - digit_zero) * tenth = omega (arith, t.1) in
    rw q (one x.0)
read_fraction (a ∷ b ∷ []) k e =
    let t = under-test (every is_digit (a ∷ b ∷ [])) _ k e in
    let x = digits_of_lem a (b ∷ []) t.0 in
    let y = digits_of_lem b [] x.1 in
    let q : k ≡ (a - digit_zero) * tenth + (b - digit_zero) * hundredth = omega (arith, t.1) in
    rw q (two x.0 y.0)
read_fraction (a ∷ b ∷ c ∷ []) k e =
    let t = under-test (every is_digit (a ∷ b ∷ c ∷ [])) _ k e in
    let x = digits_of_lem a (b ∷ c ∷ []) t.0 in
    let y = digits_of_lem b (c ∷ []) x.1 in
    let z = digits_of_lem c [] y.1 in
    let q : k ≡ (a - digit_zero) * tenth + (b - digit_zero) * hundredth + (c - digit_zero) = omega (arith, t.1) in
    rw q (three x.0 y.0 z.0)
read_fraction (a ∷ b ∷ c ∷ d ∷ f) k e =
    let s : List ℕ = a ∷ b ∷ c ∷ d ∷ f in
    let t = under-test (leb 1 (length s) && (leb (length s) 3 && every is_digit s)) _ k e in
    let few = and_both (leb (length s) 3) (every is_digit s) (and_both (leb 1 (length s)) _ t.0).1 in
    absurd (omega (arith, leb→le (length s) 3 few.0))

read-pieces : (ps : List (List ℕ)) (k : ℕ) → decimal_of ps ≡ Some k → Size (joined point ps) k
read-pieces [] k e = missing k e
read-pieces (w ∷ []) k e = missing k e
read-pieces (w ∷ f ∷ []) k e =
    let a = found_first (whole_of w) _ k e in
    let b = found_first (thousandths_of f) _ k a.2 in
    made a.0 b.0 a.1 b.1 b.2
  where
    made : (n m : ℕ) → whole_of w ≡ Some n → thousandths_of f ≡ Some m → Some (n * 1_000 + m) ≡ Some k → Size (w ++ point ∷ f) k
    made n m p q e =
        let r : n * megawatt + m ≡ k = cc in
        rw (← spelled_whole w n p, ← r) (size n (read_fraction f m q))
read-pieces (w ∷ f ∷ g ∷ more) k e = missing k e

read-size : (s : List ℕ) (k : ℕ) → decimal_of (split_on point s) ≡ Some k → Size s k
read-size s k e = rw (joined_split point s) at (read-pieces (split_on point s) k e)

mapped : {A B : Type 0} (f : A → B) (o : Option A) (y : B) → option_map f o ≡ Some y → (x : A) × (o ≡ Some x) × (f x ≡ y)
mapped f None y e = missing y e
mapped f (Some x) y e = (x, refl, cc)

read_sample : (s : List ℕ) (x : ℤ) → sample_of s ≡ Some x → Sample s x
read_sample [] x e = missing x e
read_sample (b ∷ s) x e = go (eqb b minus) refl e
  where
    go : (t : Bool) → eqb b minus ≡ t
        → cond t (option_map (λ n. neg_ℤ (pos n)) (decimal_of (split_on point s))) (option_map pos (decimal_of (split_on point (b ∷ s)))) ≡ Some x
        → Sample (b ∷ s) x
    go true q e =
        let k = mapped (λ n. neg_ℤ (pos n)) (decimal_of (split_on point s)) x e in
        rw (eqb-true b minus q, ← k.2) (negative (read-size s k.0 k.1))
    go false q e =
        let k = mapped pos (decimal_of (split_on point (b ∷ s))) x e in
        rw (← k.2) (plain (read-size (b ∷ s) k.0 k.1))

-- bytes are read as a value exactly where they are a sample of it
pub sample_good : (s : List ℕ) (x : ℤ) → (sample_of s ≡ Some x) ↔ Sample s x
sample_good s x = (read_sample s x, sample_read)

-- ---- a profile's list, and the fields of its row

samples_read : (words : List (List ℕ)) (xs : List ℤ) → Along Sample words xs → 0 < length xs → samples_of (joined space words) ≡ Some xs
samples_read [] [] h l = absurd (omega arith)
samples_read [] (x ∷ xs) h l = absurd h
samples_read (w ∷ words) xs h l =
    rw (split_joined space w words (along_first Sample (Free space) (λ s x. sample_free space tt (omega arith) (omega arith)) (w ∷ words) xs h))
    (along_each sample_of Sample (λ s x. sample_read) (w ∷ words) xs h)

pub fields_read : (fields : List (List ℕ)) (c : Curve) → CurveFields fields c → least_sampled ≤ length c.samples → two_of fields ≡ Some c
fields_read fields c f l = rw f.are (rw (whole_spelled c.id, samples_read f.words c.samples f.samples l))

pub read_fields : (fields : List (List ℕ)) (c : Curve) → two_of fields ≡ Some c → CurveFields fields c × (least_sampled ≤ length c.samples)
read_fields [] c e = missing c e
read_fields (i ∷ []) c e = missing c e
read_fields (i ∷ l ∷ []) c e =
    let a = found_first (whole_of i) _ c e in
    let b = found_first (samples_of l) _ c a.2 in
    made a.0 b.0 a.1 b.1 b.2
  where
    made : (id : ℕ) (xs : List ℤ) → whole_of i ≡ Some id → samples_of l ≡ Some xs → ◌≡◌ {A = Option Curve} (Some (record { id = id; samples = xs })) (Some c)
        → CurveFields (i ∷ l ∷ []) c × (least_sampled ≤ length c.samples)
    made id xs p q e =
        let k : record { id = id; samples = xs } ≡ c = cc in
        rw (← k) (
          record { words = split_on space l; are = cc (spelled_whole i id p, joined_split space l); samples = each_along sample_of Sample read_sample (split_on space l) xs q },
          pieces_some sample_of space l xs q,
        )
read_fields (i ∷ l ∷ x ∷ more) c e = missing c e
