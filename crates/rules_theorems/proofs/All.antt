-- What holds of all elements: of a second part, of what is looked up or picked out, of one more; pairs. Assumes nothing.
use Prim.Native.Nat.{ℕ, zero, suc}
use mathlib.Core.Path.{◌≡◌, refl, sym, ◌∙◌}
use mathlib.Core.Bool.{Bool, true, false, cond, true≢false}
use mathlib.Core.List.{List, [], ◌∷◌, ◌++◌, map}
use lib.ListN.{get_or}
use Rattle.rules.specs.Lists.{each, any, only, first, flat}
use Rattle.rules.specs.Verdict.{All}
use Rattle.rules.proofs.Truth.{by_case, all_append, missing, found_first}
use Rattle.rules_theorems.specs.Lists.{Pairs, Along}
use Rattle.rules_theorems.proofs.DocumentWords.{or_first, or_second}
use Rattle.std.specs.Prelude.{Option, Some}

module _ {A : Type 0} (P : A → Type 0) where
  pub all_second : (xs ys : List A) → All P (xs ++ ys) → All P ys
  all_second [] ys h = h
  all_second (x ∷ xs) ys h = all_second xs ys h.1

  -- by number, past the end too
  pub all_at : (xs : List A) (d : A) → All P xs → P d → (k : ℕ) → P (get_or xs k d)
  all_at [] d h past k = past
  all_at (x ∷ xs) d h past zero = h.0
  all_at (x ∷ xs) d h past (suc k) = all_at xs d h.1 past k

  -- one more at the end
  pub all_more : (l : List A) (x : A) → All P l → P x → All P (l ++ x ∷ [])
  all_more l x h k = all_append P l (x ∷ []) h (k, tt)

  -- those that pass a test
  pub all_only : (p : A → Bool) (l : List A) → All P l → All P (only p l)
  all_only p [] h = tt
  all_only p (x ∷ l) h = by_case (All P) (p x) (x ∷ only p l) (only p l) (λ e. (h.0, all_only p l h.1)) (λ e. all_only p l h.1)

  -- and back
  pub only_all : (p : A → Bool) (l : List A) → All P (only p l) → All (λ x. p x ≡ true → P x) l
  only_all p [] h = tt
  only_all p (x ∷ l) h =
      by_case (λ r. All P r → (p x ≡ true → P x) × All (λ y. p y ≡ true → P y) l) (p x) (x ∷ only p l) (only p l)
      (λ e h. (λ t. h.0, only_all p l h.1))
      (λ e h. (λ t. absurd (true≢false (sym t ∙ e)), only_all p l h)) h

  -- the first that passes a test
  pub first_keeps : (p : A → Bool) (l : List A) (y : A) → All P l → first p l ≡ Some y → P y
  first_keeps p [] y h e = missing y e
  first_keeps p (x ∷ l) y h e = go (p x) e (first_keeps p l y h.1)
    where
      go : (t : Bool) → cond t (Some x) (first p l) ≡ Some y → (first p l ≡ Some y → P y) → P y
      go true e ih = let same : x ≡ y = cc in rw (← same) h.0
      go false e ih = ih e

-- what a function makes of each
pub all_mapped : {A B : Type 0} (P : B → Type 0) (f : A → B) (l : List A) → All (λ x. P (f x)) l → All P (map f l)
all_mapped P f [] h = tt
all_mapped P f (x ∷ l) h = (h.0, all_mapped P f l h.1)

-- lists one after the other
pub all_flat : {A B : Type 0} (P : B → Type 0) (f : A → List B) (l : List A) → All (λ x. All P (f x)) l → All P (flat f l)
all_flat P f [] h = tt
all_flat P f (x ∷ l) h = all_append P (f x) (flat f l) h.0 (all_flat P f l h.1)

-- where none passes a test, each fails it
pub none_passes : {A : Type 0} (p : A → Bool) (l : List A) → any p l ≡ false → All (λ x. p x ≡ false) l
none_passes p [] e = tt
none_passes p (x ∷ l) e = (or_first (p x) (any p l) e, none_passes p l (or_second (p x) (any p l) e))

-- one more at the end, to which all before it are related
pub pairs_more : {A : Type 0} (R : A → A → Type 0) (l : List A) (y : A) → Pairs R l → All (λ x. R x y) l → Pairs R (l ++ y ∷ [])
pairs_more R [] y h k = (tt, tt)
pairs_more R (x ∷ l) y h k = (all_more (R x) l y h.0 k.0, pairs_more R l y h.1 k.1)

-- ---- two lists, place by place

module _ {A B : Type 0} (R : A → B → Type 0) where
  -- what each element of the first list keeps
  pub along_first : (P : A → Type 0) → ((x : A) (y : B) → R x y → P x) → (xs : List A) (ys : List B) → Along R xs ys → All P xs
  along_first P f [] ys h = tt
  along_first P f (x ∷ xs) [] h = absurd h
  along_first P f (x ∷ xs) (y ∷ ys) h = (f x y h.0, along_first P f xs ys h.1)

-- each element gives its partner
module _ {A B : Type 0} (f : A → Option B) (R : A → B → Type 0) where
  pub along_each : ((x : A) (y : B) → R x y → f x ≡ Some y) → (xs : List A) (ys : List B) → Along R xs ys → each f xs ≡ Some ys
  along_each g [] [] h = refl
  along_each g [] (y ∷ ys) h = absurd h
  along_each g (x ∷ xs) [] h = absurd h
  along_each g (x ∷ xs) (y ∷ ys) h = rw (g x y h.0, along_each g xs ys h.1)

  pub each_along : ((x : A) (y : B) → f x ≡ Some y → R x y) → (xs : List A) (ys : List B) → each f xs ≡ Some ys → Along R xs ys
  each_along g [] ys e = let q : [] ≡ ys = cc in rw (← q) tt
  each_along g (x ∷ xs) ys e =
      let a = found_first (f x) _ ys e in
      let b = found_first (each f xs) _ ys a.2 in
      let q : a.0 ∷ b.0 ≡ ys = cc b.2 in
      rw (← q) (g x a.0 a.1, each_along g xs b.0 b.1)
