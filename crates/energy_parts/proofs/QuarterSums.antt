-- The array of quarter sums while it is carried through: none yet, one run more, how great, and its greatest entry. Assumes nothing.
use Prim.Native.Nat.{ℕ, zero, suc, ◌+◌, ◌*◌, ◌≤◌, ◌<◌, ◌^◌, max}
use native.Mathlib.Omega.{arith}
use native.Mathlib.Nat.{le_trans, le_antisymm}
use native.Mathlib.Numerals.{add-one}
use mathlib.Core.Path.{◌≡◌, refl, sym, ap, ap₂, ◌∙◌, subst}
use mathlib.Core.Bool.{Bool, true, false, cond}
use mathlib.Core.List.{List, ◌∷◌}
use lib.Dec.{ltb}
use lib.ListN.{length, get_or, replicate, get_or-eq_default}
use lib.IntN.{ℤ, pos, nat_abs, ◌+ℤ◌}
use lib.Signed.{mag}
use mir.Syntax.{w64}
use mir.Val.{to_z, of_z}
use mir.Facts.{to_z-of_z}
use borrow.Author.Rules.{sfits_of}
use borrow.Author.Tests.{ltb-true, ltb-false, lt-ltb, le-ltb}
use Rattle.rules.specs.Limits.{quarter_seconds, most_quarters}
use Rattle.rules.specs.Energy.{max_to, max_at, above, tabulate, seconds_of, quarter, quarter_sums, peak_of}
use Rattle.rules.specs.declared.figures.Peak.{Peak}
use Rattle.rules_theorems.specs.Laying.{Within}
use Rattle.rules_theorems.proofs.Sums.{sum_ext, sum_add, sum_zero}
use Rattle.rules_theorems.proofs.Tabulate.{quarters_length, quarters_at}
use Rattle.energy_parts.specs.Quarters.{drawn_by, with_run, peak_to, higher_of, greatest_sum}
use Rattle.energy_parts.proofs.QuarterSteps.{quarter_most, taken_within}

-- values that agree below n make the same list
pub tabulate-below : {A : Type 0} (n : ℕ) (f g : ℕ → A) → ((i : ℕ) → i < n → f i ≡ g i) → tabulate n f ≡ tabulate n g
tabulate-below zero f g e = refl
tabulate-below (suc n) f g e =
    ap₂ (λ x xs. x ∷ xs) (e 0 (omega arith)) (tabulate-below n (λ i. f (suc i)) (λ i. g (suc i)) (λ i h. e (suc i) (omega arith)))

tabulate_constant : {A : Type 0} (n : ℕ) (x : A) → replicate n x ≡ tabulate n (λ i. x)
tabulate_constant zero x = refl
tabulate_constant (suc n) x = ap (λ xs. x ∷ xs) (tabulate_constant n x)

-- ---- one quarter

-- a second that counts lies within the horizon
pub second_within : (H k j : ℕ) → j < seconds_of H k → quarter_seconds * k + j < H
second_within H k j h = omega arith

pub quarter-same : (f g : ℕ → ℕ) (H : ℕ) → ((t : ℕ) → t < H → f t ≡ g t) → (k : ℕ) → quarter f H k ≡ quarter g H k
quarter-same f g H e k =
    sum_ext (λ j. f (quarter_seconds * k + j)) (λ j. g (quarter_seconds * k + j)) (seconds_of H k)
    (λ j h. e (quarter_seconds * k + j) (second_within H k j h))

quarter_add : (f g : ℕ → ℕ) (H k : ℕ) → quarter f H k + quarter g H k ≡ quarter (λ t. f t + g t) H k
quarter_add f g H k = sym (sum_add (λ j. f (quarter_seconds * k + j)) (λ j. g (quarter_seconds * k + j)) (seconds_of H k))

-- ---- all of them

pub sums_none : (H : ℕ) → replicate most_quarters (pos 0) ≡ quarter_sums (λ t. 0) H
sums_none H =
    tabulate_constant most_quarters (pos 0)
    ∙ tabulate-below most_quarters _ _ (λ k h. ap pos (sym (sum_zero (λ j. 0) (seconds_of H k) (λ j l. refl))))

-- one run more
pub sums_with : (f g : ℕ → ℕ) (H start : ℕ) (run : List ℤ) → start + length run ≤ H → ((t : ℕ) → t < H → drawn_by start run t ≡ g t)
    → with_run start run (quarter_sums f H) ≡ quarter_sums (λ t. f t + g t) H
unfolding with_run
sums_with f g H start run within e =
    tabulate-below most_quarters _ _
    (λ k h.
    ap₂ ◌+ℤ◌ (quarters_at f H k h) (ap pos (taken_within start run H k within ∙ quarter-same (drawn_by start run) g H e k)) ∙ ap pos (quarter_add f g H k))

pub sums_small : (f : ℕ → ℕ) (b H : ℕ) → ((t : ℕ) → f t ≤ b) → quarter_seconds * b ≤ 2 ^ 62 → Within (2 ^ 62) (quarter_sums f H)
sums_small f b H h small k = go (ltb k most_quarters) refl
  where
    go : (c : Bool) → ltb k most_quarters ≡ c → nat_abs (get_or (quarter_sums f H) k (pos 0)) ≤ 2 ^ 62
    go true e = rw (quarters_at f H k (ltb-true k most_quarters e)) (le_trans (quarter_most f b h H k) small)
    go false e =
        rw (get_or-eq_default (quarter_sums f H) (pos 0) (subst (λ n. n ≤ k) (sym (quarters_length f H)) (ltb-false k most_quarters e))) (omega arith)

-- ---- the greatest

max-same : (f g : ℕ → ℕ) (n : ℕ) → ((i : ℕ) → i < n → f i ≡ g i) → max_to f n ≡ max_to g n
max-same f g zero e = refl
max-same f g (suc n) e = ap₂ max (max-same f g n (λ i h. e i (omega arith))) (e n (omega arith))

first-same : (f g : ℕ → ℕ) (n : ℕ) → ((i : ℕ) → i < n → f i ≡ g i) → max_at f n ≡ max_at g n
first-same f g zero e = refl
first-same f g (suc n) e =
    let below : (i : ℕ) → i < n → f i ≡ g i = λ i h. e i (omega arith) in
    λ j. cond (ltb (max-same f g n below j) (e n (omega arith) j)) n (first-same f g n below j)

peaks_same : (f g : ℕ → ℕ) (n : ℕ) → ((i : ℕ) → i < n → f i ≡ g i) → peak_to f n ≡ peak_to g n
peaks_same f g n e = λ j. record { kj = max-same f g n e j; quarter = first-same f g n e j }

-- a higher number, and one that is not
module _ (p : Peak) (kj k : ℕ) where
  pub goes_higher : p.kj < kj → record { kj = kj; quarter = k } ≡ higher_of p kj k
  goes_higher h = sym (ap (λ b. cond b (record { kj = kj; quarter = k }) p) (lt-ltb p.kj kj h))

  pub stays : kj ≤ p.kj → p ≡ higher_of p kj k
  stays h = sym (ap (λ b. cond b (record { kj = kj; quarter = k }) p) (le-ltb p.kj kj h))

-- one number more
peak_grows : (f : ℕ → ℕ) (n : ℕ) → higher_of (peak_to f n) (f n) n ≡ peak_to f (suc n)
peak_grows f n = go (ltb (max_to f n) (f n)) refl
  where
    go : (b : Bool) → ltb (max_to f n) (f n) ≡ b
        → cond b (record { kj = f n; quarter = n }) (peak_to f n) ≡ record { kj = max (max_to f n) (f n); quarter = cond b n (max_at f n) }
    go true e = λ j. record { kj = sym (max_right (ltb-true (max_to f n) (f n) e)) j; quarter = n }
      where
        max_right : {a b : ℕ} → a < b → max a b ≡ b
        max_right h = omega arith
    go false e = λ j. record { kj = sym (max-left (ltb-false (max_to f n) (f n) e)) j; quarter = max_at f n }
      where
        max-left : {a b : ℕ} → b ≤ a → max a b ≡ a
        max-left h = omega arith

-- the peak of the first k sums
abbrev pub greatest_to : List ℤ → ℕ → Peak
greatest_to sums = peak_to (λ j. above (get_or sums j (pos 0)))

pub one_compared : (sums : List ℤ) (k : ℕ) (best : Peak) (a : ℕ) (r : Peak) → best ≡ greatest_to sums k → mag (get_or sums k (pos 0)) < 2 ^ 63
    → a ≡ above (to_z w64 (of_z w64 (get_or sums k (pos 0)))) → r ≡ higher_of best a k → r ≡ greatest_to sums (k + 1)
one_compared sums k best a r eb fits ea er =
    er
    ∙ ap₂ (λ p n. higher_of p n k) eb (ea ∙ ap above (to_z-of_z {w = w64} {z = get_or sums k (pos 0)} (sfits_of fits)))
    ∙ peak_grows (λ j. above (get_or sums j (pos 0))) k
    ∙ sym (ap (greatest_to sums) (add-one k))

pub all_compared : (sums : List ℤ) (k : ℕ) (best : Peak) → (k ≤ most_quarters) × (best ≡ greatest_to sums k) → most_quarters ≤ k → best ≡ greatest_sum sums
unfolding greatest_sum
all_compared sums k best h l = h.1 ∙ ap (greatest_to sums) (le_antisymm h.0 l)

pub peak_is : (f : ℕ → ℕ) (H : ℕ) (sums : List ℤ) → sums ≡ quarter_sums f H → greatest_sum sums ≡ peak_of f H
unfolding greatest_sum
peak_is f H sums e =
    peaks_same (λ k. above (get_or sums k (pos 0))) (quarter f H) most_quarters
    (λ k h. ap (λ s. above (get_or s k (pos 0))) e ∙ ap above (quarters_at f H k h))

pub peak-same : (f g : ℕ → ℕ) (H : ℕ) → ((t : ℕ) → t < H → f t ≡ g t) → peak_of f H ≡ peak_of g H
peak-same f g H e = peaks_same (quarter f H) (quarter g H) most_quarters (λ k h. quarter-same f g H e k)
