-- What a run takes over some seconds is the sum of its samples that fall on them. Assumes nothing.
use Prim.Native.Nat.{ℕ, zero, suc, ◌+◌, ◌*◌, ◌-◌, ◌≤◌, ◌<◌, min}
use native.Mathlib.Omega.{arith}
use native.Mathlib.Nat.{add-zero, mul_comm}
use mathlib.Core.Path.{◌≡◌, refl, sym, ap, ap₂, ◌∙◌}
use mathlib.Core.Bool.{Bool, true, false, cond}
use mathlib.Core.List.{List}
use lib.Dec.{leb, ltb}
use lib.ListN.{length, get_or, take, drop, length-take, length-drop, get_or-eq_default}
use lib.Seq.{get_or-take, get_or-drop}
use lib.IntN.{ℤ, pos}
use borrow.Author.Tests.{leb-true, leb-false, ltb-true, ltb-false}
use Rattle.rules.specs.Limits.{quarter_seconds}
use Rattle.rules.specs.Lists.{sum_of}
use Rattle.rules.specs.Energy.{sum_to, above}
use Rattle.rules_theorems.proofs.Sums.{sum_ext}
use Rattle.energy_parts.specs.Parts.{sides_of}
use Rattle.energy_parts.specs.Quarters.{run_at, drawn_by, quarter_taken}
use Rattle.energy_parts.specs.declared.sides.Sides.{Sides}
use Rattle.energy_parts.proofs.Listed.{sum_places}

-- ---- numbers: how many of n samples, from second s on, fall before a second

module _ (n s f w : ℕ) where
  none_fall : min n (f + 0 - s) - min n (f - s) ≡ 0
  none_fall = rw (add-zero f) (omega arith)

  before-first : f + w < s → min n (f + suc w - s) ≡ min n (f + w - s)
  before-first h = omega arith

  past-last : n ≤ f + w - s → min n (f + suc w - s) ≡ min n (f + w - s)
  past-last h = omega arith

  one_falls : s ≤ f + w → f + w - s < n → (min n (f + suc w - s) ≡ suc (f + w - s)) × (min n (f + w - s) ≡ f + w - s)
  one_falls h l = omega arith

counted_from : (n s f w : ℕ) → min n (f - s) ≤ f + w - s
counted_from n s f w = omega arith

less_one : (i a : ℕ) → a ≤ i → suc i - a ≡ suc (i - a)
less_one i a h = omega arith

on_again : (i a : ℕ) → a ≤ i → a + (i - a) ≡ i
on_again i a h = omega arith

-- ---- a window of seconds

module _ (f : ℤ → ℕ) (z : f (pos 0) ≡ 0) (s : ℕ) (xs : List ℤ) (from : ℕ) where
  abbrev sample : ℕ → ℕ
  sample i = f (get_or xs (min (length xs) (from - s) + i) (pos 0))

  by_seconds : (w : ℕ) → sum_to (λ j. f (run_at s xs (from + j))) w ≡ sum_to sample (min (length xs) (from + w - s) - min (length xs) (from - s))
  by_seconds zero = sym (ap (sum_to sample) (none_fall (length xs) s from 0))
  by_seconds (suc w) = go (leb s (from + w)) refl (ltb (from + w - s) (length xs)) refl (by_seconds w)
    where
      go : (b : Bool) → leb s (from + w) ≡ b → (d : Bool) → ltb (from + w - s) (length xs) ≡ d
          → sum_to (λ j. f (run_at s xs (from + j))) w ≡ sum_to sample (min (length xs) (from + w - s) - min (length xs) (from - s))
          → sum_to (λ j. f (run_at s xs (from + j))) w + f (cond b (get_or xs (from + w - s) (pos 0)) (pos 0))
          ≡ sum_to sample (min (length xs) (from + suc w - s) - min (length xs) (from - s))
      go false e d e' ih =
          ap₂ ◌+◌ ih z
          ∙ add-zero (sum_to sample (min (length xs) (from + w - s) - min (length xs) (from - s)))
          ∙ sym (ap (λ m. sum_to sample (m - min (length xs) (from - s))) (before-first (length xs) s from w (leb-false s (from + w) e)))
      go true e false e' ih =
          ap₂ ◌+◌ ih (ap f (get_or-eq_default xs (pos 0) (ltb-false (from + w - s) (length xs) e')) ∙ z)
          ∙ add-zero (sum_to sample (min (length xs) (from + w - s) - min (length xs) (from - s)))
          ∙ sym (ap (λ m. sum_to sample (m - min (length xs) (from - s))) (past-last (length xs) s from w (ltb-false (from + w - s) (length xs) e')))
      go true e true e' ih =
          let r = one_falls (length xs) s from w (leb-true s (from + w) e) (ltb-true (from + w - s) (length xs) e') in
          let l : min (length xs) (from - s) ≤ from + w - s = counted_from (length xs) s from w in
          ap₂ ◌+◌ (ih ∙ ap (λ m. sum_to sample (m - min (length xs) (from - s))) r.1)
          (sym (ap (λ k. f (get_or xs k (pos 0))) (on_again (from + w - s) (min (length xs) (from - s)) l)))
          ∙ sym
          (ap (sum_to sample)
          (ap (λ m. m - min (length xs) (from - s)) r.0 ∙ less_one (from + w - s) (min (length xs) (from - s)) l))

  -- the samples that fall on the seconds from .. from + w - 1
  module _ (w a e : ℕ) (ha : a ≡ min (length xs) (from - s)) (he : e ≡ min (length xs) (from + w - s)) where
    part_count : length (take (e - a) (drop a xs)) ≡ e - a
    part_count = length-take (e - a) (drop a xs) ∙ ap (min (e - a)) (length-drop a xs) ∙ all_there (length xs) (from + w - s) e a he
      where
        all_there : (n m e a : ℕ) → e ≡ min n m → min (e - a) (n - a) ≡ e - a
        all_there n m e a h = omega arith

    pub window_sum : sum_to (λ j. f (run_at s xs (from + j))) w ≡ sum_of f (take (e - a) (drop a xs))
    window_sum =
        by_seconds w
        ∙ ap₂ (λ e a. sum_to (λ i. f (get_or xs (a + i) (pos 0))) (e - a)) (sym he) (sym ha)
        ∙ sum_ext (λ i. f (get_or xs (a + i) (pos 0))) (λ i. f (get_or (take (e - a) (drop a xs)) i (pos 0))) (e - a)
        (λ i h. ap f (sym (get_or-take (e - a) (drop a xs) i (pos 0) h ∙ get_or-drop a xs i (pos 0))))
        ∙ sym (sum_places f (pos 0) (take (e - a) (drop a xs)) ∙ ap (sum_to (λ i. f (get_or (take (e - a) (drop a xs)) i (pos 0)))) part_count)

-- a quarter of a run
pub quarter-part : (start : ℕ) (run : List ℤ) (k a e : ℕ) → a ≡ min (length run) (k * quarter_seconds - start)
    → e ≡ min (length run) (k * quarter_seconds + quarter_seconds - start) → (s : Sides) → s ≡ sides_of (take (e - a) (drop a run))
    → s.above ≡ quarter_taken start run k
unfolding sides_of quarter_taken
quarter-part start run k a e ha he s es =
    ap (λ (x : Sides). x.above) es
    ∙ sym (window_sum above refl start run (k * quarter_seconds) quarter_seconds a e ha he)
    ∙ ap (λ m. sum_to (λ j. drawn_by start run (m + j)) quarter_seconds) (mul_comm k quarter_seconds)
