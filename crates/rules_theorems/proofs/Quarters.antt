-- The quarters add up to the whole: a last, shorter one counts, so no second is left out. A peak's quarter begins before H. Assumes nothing.
use Prim.Native.Nat.{ℕ, zero, suc, ◌+◌, ◌*◌, ◌≤◌, ◌<◌, min}
use native.Mathlib.Omega.{arith}
use mathlib.Core.Path.{◌≡◌, refl, sym, ap, ◌∙◌}
use mathlib.Core.Bool.{Bool, true, false}
use lib.Dec.{ltb}
use borrow.Author.Tests.{ltb-true, ltb-false}
use Rattle.rules.specs.Limits.{least_horizon, most_horizon, quarter_seconds, most_quarters}
use Rattle.rules.specs.Energy.{sum_to, seconds_of, quarter, peak_of}
use Rattle.rules_theorems.proofs.Sums.{sum_ext, sum_split}
use Rattle.rules_theorems.proofs.Peaks.{peak_there, peak-first}

module _ (f : ℕ → ℕ) (H : ℕ) where
  -- the first k quarters are the seconds before H that they cover
  quarters_to : (k : ℕ) → sum_to (quarter f H) k ≡ sum_to f (min H (quarter_seconds * k))
  quarters_to zero = let none : min H (quarter_seconds * 0) ≡ 0 = omega arith in sym (ap (sum_to f) none)
  quarters_to (suc k) =
      let m : ℕ = min H (quarter_seconds * k) in
      let begins : (i : ℕ) → i < seconds_of H k → quarter_seconds * k + i ≡ m + i = λ i l. omega arith in
      let ends : m + seconds_of H k ≡ min H (quarter_seconds * suc k) = omega arith in
      ap (λ s. s + quarter f H k) (quarters_to k)
      ∙ ap (λ q. sum_to f m + q) (sum_ext (λ i. f (quarter_seconds * k + i)) (λ i. f (m + i)) (seconds_of H k) (λ i l. ap f (begins i l)))
      ∙ sym (sum_split f m (seconds_of H k))
      ∙ ap (sum_to f) ends

  -- THE QUARTERS ADD UP TO THE WHOLE
  pub quarters_whole : H ≤ most_horizon → sum_to (quarter f H) most_quarters ≡ sum_to f H
  quarters_whole h = let all : min H (quarter_seconds * most_quarters) ≡ H = omega arith in quarters_to most_quarters ∙ ap (sum_to f) all

  -- a quarter that does not begin before H has nothing
  quarter-past : (k : ℕ) → H ≤ quarter_seconds * k → quarter f H k ≡ 0
  quarter-past k h = let none : seconds_of H k ≡ 0 = omega arith in ap (sum_to (λ j. f (quarter_seconds * k + j))) none

  -- so the quarter that a peak names begins before H: there is one for every H
  pub peak-begun : least_horizon ≤ H → quarter_seconds * (peak_of f H).quarter < H
  peak-begun h = go (peak_of f H).quarter (peak_of f H).kj (peak-first f H) (peak_there f H)
    where
      apart : {a b c : ℕ} → a < b → c ≡ b → c ≡ 0 → ⊥
      apart less there none = omega arith

      begun : (k : ℕ) (b : Bool) → ltb (quarter_seconds * k) H ≡ b → (H ≤ quarter_seconds * k → 0 < k → ⊥) → quarter_seconds * k < H
      begun k true e never = ltb-true (quarter_seconds * k) H e
      begun k false e never =
          let past : H ≤ quarter_seconds * k = ltb-false (quarter_seconds * k) H e in
          absurd (never past (omega arith))

      go : (k kj : ℕ) → ((i : ℕ) → i < k → quarter f H i < kj) → quarter f H k ≡ kj → quarter_seconds * k < H
      go k kj first there = begun k (ltb (quarter_seconds * k) H) refl (λ past later. apart (first 0 later) there (quarter-past k past))
