-- Times as texts. Assumes nothing.
use Prim.Native.Nat.{ℕ, ◌+◌, ◌-◌, ◌/◌, ◌%◌, ◌≤◌, ◌<◌}
use mathlib.Core.Path.{◌≡◌, refl, sym, ap, ◌∙◌}
use mathlib.Core.Bool.{Bool, true, false, ◌&&◌, and-false}
use mathlib.Core.List.{List, [], ◌∷◌}
use native.Mathlib.Omega.{arith}
use lib.Dec.{eqb}
use lib.ListN.{length, take, drop, length-drop}
use lib.Seq.{take_all}
use borrow.Author.Tests.{le-leb, lt-leb, lt-ltb, le-ltb}
use Rattle.rules.specs.Lists.{same_list}
use Rattle.rules.specs.Bytes.{digit_zero}
use Rattle.rules.specs.Limits.{most_time, day_seconds, hour_seconds, minute_seconds}
use Rattle.rules.specs.Duties.{clock}
use Rattle.duties_fields.specs.Fields.{time_is}

-- `is_clock`: its six digits
pub clock_is : (s : List ℕ) (n a b c d e f : ℕ) (r : Bool) → n < day_seconds
    → a ≡ digit_zero + n / hour_seconds / 10 % 10 → c ≡ digit_zero + n / minute_seconds % minute_seconds / 10 % 10 → e ≡ digit_zero + n % minute_seconds / 10 % 10
    → b ≡ digit_zero + n / hour_seconds % 10 → d ≡ digit_zero + n / minute_seconds % minute_seconds % 10 → f ≡ digit_zero + n % minute_seconds % 10
    → r ≡ same_list (a ∷ b ∷ 58 ∷ c ∷ d ∷ 58 ∷ e ∷ f ∷ []) s → r ≡ same_list (clock n) s
clock_is s n a b c d e f r h p q k u v w g =
    let p' : a ≡ digit_zero + n / hour_seconds / 10 = omega arith in
    let q' : c ≡ digit_zero + n / minute_seconds % minute_seconds / 10 = omega arith in
    let k' : e ≡ digit_zero + n % minute_seconds / 10 = omega arith in
    g ∙ rw (p', q', k', u, v, w)

module _ (s : List ℕ) (n : ℕ) where
  pub time_past : most_time < n → false ≡ time_is n s
  time_past h = rw (lt-leb n most_time h)

  pub time_first : n ≤ most_time → n < day_seconds → (r : Bool) → r ≡ same_list (clock n) s → r ≡ time_is n s
  time_first k h r e = e ∙ rw (le-leb n most_time k, lt-ltb n day_seconds h)

-- the first three of a text, and the rest
same-three : (a b c : ℕ) (t s : List ℕ) → 3 ≤ length s → same_list (a ∷ b ∷ c ∷ t) s ≡ same_list (a ∷ b ∷ c ∷ []) (take 3 s) && same_list t (drop 3 s)
same-three a b c t [] h = absurd (omega arith)
same-three a b c t (x ∷ []) h = absurd (omega arith)
same-three a b c t (x ∷ y ∷ []) h = absurd (omega arith)
same-three a b c t (x ∷ y ∷ z ∷ s) h = go (eqb a x) (eqb b y) (eqb c z)
  where
    go : (p q r : Bool) → p && (q && (r && same_list t s)) ≡ (p && (q && (r && true))) && same_list t s
    go false q r = refl
    go true false r = refl
    go true true false = refl
    go true true true = refl

short_three : (a b c : ℕ) (t s : List ℕ) → length s < 3 → false ≡ same_list (a ∷ b ∷ c ∷ t) s
short_three a b c t [] h = refl
short_three a b c t (x ∷ []) h = sym (and-false (eqb a x))
short_three a b c t (x ∷ y ∷ []) h = go (eqb a x) (eqb b y)
  where
    go : (p q : Bool) → false ≡ p && (q && false)
    go true true = refl
    go true false = refl
    go false q = refl
short_three a b c t (x ∷ y ∷ z ∷ s) h = absurd (omega arith)

-- from the second day on
module _ (s : List ℕ) (n : ℕ) (k : n ≤ most_time) (h : day_seconds ≤ n) where
  later : time_is n s ≡ same_list ((digit_zero + n / day_seconds) ∷ 100 ∷ 32 ∷ clock (n % day_seconds)) s
  later = rw (le-leb n most_time k, le-ltb n day_seconds h)

  pub time_short : length s < 3 → false ≡ time_is n s
  time_short l = short_three (digit_zero + n / day_seconds) 100 32 (clock (n % day_seconds)) s l ∙ sym later

  module _ (l : 3 ≤ length s) (d : ℕ) (p : d ≡ digit_zero + n / day_seconds % 10) (t : Bool) (q : t ≡ same_list (d ∷ 100 ∷ 32 ∷ []) (take 3 s)) where
    parted : time_is n s ≡ t && same_list (clock (n % day_seconds)) (drop 3 s)
    parted =
        let e : d ≡ digit_zero + n / day_seconds = omega arith in
        let w : t ≡ same_list ((digit_zero + n / day_seconds) ∷ 100 ∷ 32 ∷ []) (take 3 s) = q ∙ ap (λ (x : ℕ). same_list (x ∷ 100 ∷ 32 ∷ []) (take 3 s)) e in
        later
        ∙ same-three (digit_zero + n / day_seconds) 100 32 (clock (n % day_seconds)) s l
        ∙ ap (λ (x : Bool). x && same_list (clock (n % day_seconds)) (drop 3 s)) (sym w)

    pub time_other : t ≡ false → false ≡ time_is n s
    time_other y = sym (parted ∙ rw y)

    pub time_later : t ≡ true → (r : Bool) → r ≡ same_list (clock (n % day_seconds)) (take (length s - 3) (drop 3 s)) → r ≡ time_is n s
    time_later y r g = g ∙ rw (take_all (length s - 3) (drop 3 s) (omega (arith, length-drop 3 s))) (sym (parted ∙ rw y))
