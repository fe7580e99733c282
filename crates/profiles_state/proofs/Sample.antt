-- The machine of a sample reads what `sample_of` says. Assumes nothing.
use Prim.Native.Nat.{ℕ, suc, ◌+◌, ◌*◌, ◌-◌, ◌^◌, ◌≤◌}
use mathlib.Core.Path.{◌≡◌, refl, ap, sym, ◌∙◌}
use mathlib.Core.Bool.{Bool, true, false, cond, ◌&&◌}
use mathlib.Core.List.{List, [], ◌∷◌}
use native.Mathlib.Omega.{arith}
use native.Mathlib.Nat.{add-zero, zero-add}
use lib.Dec.{leb, ltb, eqb}
use lib.ListN.{length}
use lib.IntN.{ℤ}
use borrow.Author.Tests.{eqb-true, eq-eqb, ltb-true, ltb-false, le-leb, lt-leb}
use Rattle.rules.specs.Lists.{◌>>=◌, every}
use Rattle.rules.specs.Bytes.{is_digit, digit_zero, minus, point, split_on, onto, value_from, whole_of, thousandths_of, decimal_of, sample_of}
use Rattle.rules.specs.Made.{signed}
use Rattle.csv_machine.specs.Fold.{run}
use Rattle.csv_machine.specs.Number.{Number, empty, zero, digits, number_step, number_end}
use Rattle.csv_machine.proofs.Number.{no_step, number_is_whole}
use Rattle.profiles_row.specs.Sample.{most_digits, kw_a_mw, Sample, whole, fraction, fresh, negated, whole_step, sample_step, sample_end, kw_of}
use Rattle.profiles_state.proofs.Pieces.{Has, here, later, Pieces, alone, several, pieces_of, then_none}
use Rattle.std.specs.Prelude.{Option, Some, None, option_map}

-- ---- past the point

-- one to three digits, of which some were read
abbrev thousandths_from : (count value : ℕ) → List ℕ → Option ℕ
thousandths_from count value s =
    cond (leb 1 (count + length s) && (leb (count + length s) most_digits && every is_digit s)) (Some (value_from value s * 10 ^ (most_digits - (count + length s)))) None

abbrev in_kw : Bool → ℕ → Option ℕ → Option ℤ
in_kw negative n o = o >>= (λ k. Some (signed negative (n * kw_a_mw + k)))

never : (x y : Bool) → x && (y && false) ≡ false
never true true = refl
never true false = refl
never false y = refl

fraction_run : (negative : Bool) (n count value : ℕ) (s : List ℕ) → count ≤ most_digits
    → run sample_step (fraction negative n count value) s >>= sample_end ≡ in_kw negative n (thousandths_from count value s)
fraction_run negative n count value [] h = rw (add-zero count, le-leb count most_digits h) (go (leb 1 count))
  where
    go : (t : Bool) → cond t (Some (signed negative (kw_of n count value))) None ≡ in_kw negative n (cond (t && true) (Some (value * 10 ^ (most_digits - count))) None)
    go true = refl
    go false = refl
fraction_run negative n count value (b ∷ s) h =
    go (is_digit b) (ltb count most_digits) refl (λ below. fraction_run negative n (suc count) (value * 10 + (b - digit_zero)) s below)
  where
    next : ℕ
    next = value * 10 + (b - digit_zero)

    go : (d t : Bool) → ltb count most_digits ≡ t
        → (suc count ≤ most_digits → run sample_step (fraction negative n (suc count) next) s >>= sample_end ≡ in_kw negative n (thousandths_from (suc count) next s))
        → cond (d && t) (Some (fraction negative n (suc count) next)) None >>= (λ x. run sample_step x s) >>= sample_end
        ≡ in_kw negative n
        (cond (leb 1 (count + suc (length s)) && (leb (count + suc (length s)) most_digits && (d && every is_digit s))) (Some (value_from next s * 10 ^ (most_digits - (count + suc (length s))))) None)
    go true true e rest =
        let below : suc count ≤ most_digits = omega (arith, ltb-true) in
        let q : suc count + length s ≡ count + suc (length s) = omega arith in
        rw q at (rest below)
    go true false e rest =
        let above : most_digits ≤ count = ltb-false count most_digits e in
        rw (lt-leb (count + suc (length s)) most_digits (omega arith), le-leb 1 (count + suc (length s)) (omega arith))
    go false t e rest = rw never

-- a point among the digits
point_digits : {s : List ℕ} → Has point s → every is_digit s ≡ false
point_digits here = refl
point_digits (later {b} {s} h) = go (is_digit b) (point_digits h)
  where
    go : (d : Bool) → every is_digit s ≡ false → d && every is_digit s ≡ false
    go true e = e
    go false e = refl

-- ---- before the point

abbrev fraction_of : Bool → ℕ → List (List ℕ) → Option ℤ
fraction_of negative n [] = None
fraction_of negative n (f ∷ []) = in_kw negative n (thousandths_of f)
fraction_of negative n (f ∷ g ∷ more) = None

past-point : (negative : Bool) (n : ℕ) (s : List ℕ) → run sample_step (fraction negative n 0 0) s >>= sample_end ≡ fraction_of negative n (split_on point s)
past-point negative n s = fraction_run negative n 0 0 s (omega arith) ∙ go (pieces_of point s)
  where
    go : {ps : List (List ℕ)} → Pieces point s ps → in_kw negative n (thousandths_from 0 0 s) ≡ fraction_of negative n ps
    go alone = rw (zero-add (length s))
    go (several h) = rw (point_digits h, never)

-- a decimal of which some of the whole number was read
abbrev decimal_from : Bool → Number → List (List ℕ) → Option ℤ
decimal_from negative m [] = None
decimal_from negative m (w ∷ ps) = run number_step m w >>= number_end >>= (λ n. fraction_of negative n ps)

-- one byte more, in front of the first piece
decimal_cons : (negative : Bool) (m : Number) (b : ℕ) (p : List ℕ) (ps : List (List ℕ))
    → number_step m b >>= (λ next. decimal_from negative next (p ∷ ps)) ≡ decimal_from negative m ((b ∷ p) ∷ ps)
decimal_cons negative m b p ps = go (number_step m b)
  where
    go : (x : Option Number)
        → x >>= (λ next. decimal_from negative next (p ∷ ps)) ≡ x >>= (λ next. run number_step next p) >>= number_end >>= (λ n. fraction_of negative n ps)
    go None = refl
    go (Some next) = refl

decimal_onto : (negative : Bool) (m : Number) (b : ℕ) {s : List ℕ} {ps : List (List ℕ)} → Pieces point s ps
    → number_step m b >>= (λ next. decimal_from negative next ps) ≡ decimal_from negative m (onto b ps)
decimal_onto negative m b {s} alone = decimal_cons negative m b s []
decimal_onto negative m b (several {p} {q} {ps} h) = decimal_cons negative m b p (q ∷ ps)

-- a number that has a digit takes no minus
begun : (negative : Bool) (m : Number) (b : ℕ) (next : Number) → number_step m b ≡ Some next → negated negative next ≡ None
begun true m b next e = refl
begun false m b zero e = refl
begun false m b (digits n) e = refl
begun false empty b empty e = go (is_digit b) (eqb b digit_zero) e
  where
    go : (d z : Bool) → cond d (Some (cond z zero (digits (b - digit_zero)))) None ≡ Some empty → negated false empty ≡ None
    go true true q = cc
    go true false q = cc
    go false z q = cc
begun false zero b empty e = cc
begun false (digits n) b empty e = go (is_digit b) e
  where
    go : (d : Bool) → cond d (Some (digits (n * 10 + (b - digit_zero)))) None ≡ Some empty → negated false empty ≡ None
    go true q = cc
    go false q = cc

-- where a text begins with a minus, no sign may come
abbrev Signless : Bool → Number → List ℕ → Type 0
Signless negative m [] = Unit {0}
Signless negative m (b ∷ s) = b ≡ minus → negated negative m ≡ None

signless : (negative : Bool) (m : Number) (s : List ℕ) → negated negative m ≡ None → Signless negative m s
signless negative m [] e = tt
signless negative m (b ∷ s) e = λ q. e

-- the rest of a sample whose whole number is open
abbrev Runs : Bool → List ℕ → Type 0
Runs negative s = (m : Number) → Signless negative m s → run sample_step (whole negative m) s >>= sample_end ≡ decimal_from negative m (split_on point s)

module _ (negative : Bool) (m : Number) (b : ℕ) (s : List ℕ) (h : Signless negative m (b ∷ s)) (rest : Runs negative s) where
  abbrev after : Option Sample → Option ℤ
  after x = x >>= (λ next. run sample_step next s) >>= sample_end

  at_digit : is_digit b ≡ true → after (number_step m b >>= (λ next. Some (whole negative next))) ≡ decimal_from negative m (onto b (split_on point s))
  at_digit d = go (number_step m b) refl ∙ decimal_onto negative m b (pieces_of point s)
    where
      go : (x : Option Number) → number_step m b ≡ x
          → after (x >>= (λ next. Some (whole negative next))) ≡ x >>= (λ next. decimal_from negative next (split_on point s))
      go None e = refl
      go (Some next) e = rest next (signless negative next s (begun negative m b next e))

  at-point : after (number_end m >>= (λ n. Some (fraction negative n 0 0))) ≡ decimal_from negative m ([] ∷ split_on point s)
  at-point = go (number_end m)
    where
      go : (x : Option ℕ) → after (x >>= (λ n. Some (fraction negative n 0 0))) ≡ x >>= (λ n. fraction_of negative n (split_on point s))
      go None = refl
      go (Some n) = past-point negative n s

  -- any other byte breaks the form
  at_other : is_digit b ≡ false → None ≡ decimal_from negative m (onto b (split_on point s))
  at_other d = rw (no_step m b d) at (decimal_onto negative m b (pieces_of point s))

  stepped : after (whole_step negative m b) ≡ decimal_from negative m (split_on point (b ∷ s))
  stepped = go (is_digit b) (eqb b point) (eqb b minus) refl refl refl
    where
      go : (d p n : Bool) → is_digit b ≡ d → eqb b point ≡ p → eqb b minus ≡ n
          → after (cond d (number_step m b >>= (λ next. Some (whole negative next)))
          (cond p (number_end m >>= (λ n. Some (fraction negative n 0 0))) (cond n (negated negative m) None)))
          ≡ decimal_from negative m (cond p ([] ∷ split_on point s) (onto b (split_on point s)))
      go true true n d p q = let z : true ≡ false = sym d ∙ ap is_digit (eqb-true b point p) in cc
      go true false n d p q = at_digit d
      go false true n d p q = at-point
      go false false true d p q = rw (h (eqb-true b minus q)) (at_other d)
      go false false false d p q = at_other d

whole_run : (negative : Bool) (s : List ℕ) → Runs negative s
whole_run negative [] m h = sym (then_none (number_end m))
whole_run negative (b ∷ s) m h = stepped negative m b s h (whole_run negative s)

decimal_signed : (negative : Bool) (ps : List (List ℕ)) → decimal_from negative empty ps ≡ option_map (signed negative) (decimal_of ps)
decimal_signed negative [] = refl
decimal_signed negative (w ∷ []) = rw (number_is_whole w, then_none)
decimal_signed negative (w ∷ f ∷ []) = rw (number_is_whole w) (go (whole_of w) (thousandths_of f))
  where
    go : (x y : Option ℕ) → x >>= (λ n. in_kw negative n y) ≡ option_map (signed negative) (x >>= (λ n. y >>= (λ k. Some (n * kw_a_mw + k))))
    go None y = refl
    go (Some n) None = refl
    go (Some n) (Some k) = refl
decimal_signed negative (w ∷ f ∷ g ∷ more) = rw (number_is_whole w, then_none)

-- a sample: an optional minus, a whole number, a point and one to three digits
pub sample_run : (s : List ℕ) → run sample_step fresh s >>= sample_end ≡ sample_of s
sample_run [] = refl
sample_run (b ∷ s) = go (eqb b minus) refl
  where
    go : (t : Bool) → eqb b minus ≡ t
        → run sample_step fresh (b ∷ s) >>= sample_end
        ≡ cond t (option_map (signed true) (decimal_of (split_on point s))) (option_map (signed false) (decimal_of (split_on point (b ∷ s))))
    go true e = rw (eqb-true b minus e) (whole_run true s empty (signless true empty s refl) ∙ decimal_signed true (split_on point s))
    go false e = whole_run false (b ∷ s) empty (λ q. let z : eqb b minus ≡ true = eq-eqb b minus q in cc) ∙ decimal_signed false (split_on point (b ∷ s))
