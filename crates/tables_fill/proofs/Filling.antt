-- A fill from the front, over the type of the element: what holds at the loop's head, its start, its step and its end.
-- Assumes nothing.
use mathlib.Core.Path.{◌≡◌, refl, ap, ◌∙◌}
use mathlib.Core.List.{List, [], ◌∷◌, ◌++◌, append-nil}
use Prim.Native.Nat.{ℕ, zero, suc, ◌+◌, ◌≤◌, ◌<◌, zero-le}
use native.Mathlib.Nat.{not-suc-le-zero, le_of_suc-le-suc, le_antisymm}
use native.Mathlib.Numerals.{add-one, add-one-le}
use lib.ListN.{length, set, drop, replicate, length-set}
use lib.Seq.{drop-length}
use Rattle.rules.specs.Entries.{filled}

-- the first i elements of t₀ are v, the others are as they were
pub record Filling {A : Type 0} (v : A) (t₀ t : List A) (i : ℕ) : Type 0 where
  pub within : i ≤ length t₀
  pub is : t ≡ replicate i v ++ drop i t₀
  pub same : length t ≡ length t₀

pub filling_none : {A : Type 0} (v : A) (t : List A) → Filling v t t 0
filling_none v t = record { within = zero-le; is = refl; same = refl }

-- the element after those that are filled
set_next : {A : Type 0} (n : ℕ) (v : A) (t : List A) → n < length t → set (replicate n v ++ drop n t) n v ≡ replicate (suc n) v ++ drop (suc n) t
set_next n v [] h = absurd (not-suc-le-zero h)
set_next zero v (x ∷ t) h = refl
set_next {A} (suc n) v (x ∷ t) h = ap (λ (l : List A). v ∷ l) (set_next n v t (le_of_suc-le-suc h))

pub filling_more : {A : Type 0} {v : A} {t₀ t : List A} {i : ℕ} → Filling v t₀ t i → i < length t → Filling v t₀ (set t i v) (i + 1)
filling_more {A} {v} {t₀} {t} {i} f h =
    let k : i < length t₀ = rw f.same at h in
    record {
      within = add-one-le k;
      is = ap (λ (l : List A). set l i v) f.is ∙ set_next i v t₀ k ∙ rw (add-one i);
      same = length-set t i v ∙ f.same;
    }

pub filling_all : {A : Type 0} {v : A} {t₀ t : List A} {i : ℕ} → Filling v t₀ t i → length t ≤ i → t ≡ filled v t₀
filling_all {A} {v} {t₀} {t} {i} f h =
    let e : i ≡ length t₀ = le_antisymm f.within (rw f.same at h) in
    f.is ∙ rw (e, drop-length t₀, append-nil (replicate (length t₀) v))
