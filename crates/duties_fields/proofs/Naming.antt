-- Names and parts of a text. Assumes nothing.
use Prim.Native.Nat.{ℕ, ◌+◌, ◌≤◌, ◌<◌}
use mathlib.Core.Path.{◌≡◌, refl, sym, ap, ◌∙◌}
use mathlib.Core.Bool.{Bool, true, false, and-false}
use mathlib.Core.List.{List, [], ◌∷◌}
use native.Mathlib.Omega.{arith}
use native.Mathlib.Numerals.{add-one}
use lib.Dec.{leb}
use lib.ListN.{length, get_or, drop, drop_of_length-le}
use lib.Seq.{drop-cons}
use borrow.Author.Tests.{le-leb, lt-leb}
use Rattle.rules.specs.Lists.{every, same_list}
use Rattle.rules.proofs.Lists.{same_equal}
use Rattle.rules.specs.Limits.{least_name, most_name}
use Rattle.rules.specs.Duties.{in_name, is_name}

-- ---- `is_name`'s loop: the invariant is `every in_name (drop i s) ≡ every in_name s`

pub name_long : (s : List ℕ) → most_name < length s → false ≡ is_name s
name_long s h = rw (lt-leb (length s) most_name h, and-false (leb least_name (length s)))

module _ (s : List ℕ) (i : ℕ) (r : Bool) (e : every in_name (drop i s) ≡ r) where
  module _ (h : i < length s) (t : Bool) (p : t ≡ in_name (get_or s i 0)) where
    pub name_next : t ≡ true → every in_name (drop (i + 1) s) ≡ r
    name_next y = simp add-one (rw (drop-cons s i 0 h, sym p ∙ y) at e)

    name_stop : t ≡ false → false ≡ r
    name_stop y = rw (drop-cons s i 0 h, sym p ∙ y) at e

  name_end : length s ≤ i → true ≡ r
  name_end h = rw (drop_of_length-le s h) at e

pub name_not : (s : List ℕ) (i : ℕ) → every in_name (drop i s) ≡ every in_name s → i < length s → (t : Bool) → t ≡ in_name (get_or s i 0) → t ≡ false → false ≡ is_name s
name_not s i e h t p y = rw (sym (name_stop s i (every in_name s) e h t p y), and-false (leb (length s) most_name), and-false (leb least_name (length s)))

pub name_all : (s : List ℕ) (i : ℕ) → every in_name (drop i s) ≡ every in_name s → length s ≤ i → least_name ≤ length s → length s ≤ most_name → true ≡ is_name s
name_all s i e h n k =
    rw (sym (name_end s i (every in_name s) e h), le-leb least_name (length s) n, le-leb (length s) most_name k)

-- ---- `same_name`

-- texts that differ in their lengths or at a place are not the same
module _ (name s : List ℕ) where
  differs : (s ≡ name → ⊥) → false ≡ same_list name s
  differs n = go (same_list name s) refl
    where
      go : (t : Bool) → same_list name s ≡ t → false ≡ t
      go true e = absurd (n (sym (same_equal name s e)))
      go false e = refl

  pub other_length : (length s ≡ length name → ⊥) → false ≡ same_list name s
  other_length n = differs (λ e. n (ap length e))

  pub both_empty : length s ≡ length name → length s ≡ 0 → true ≡ same_list name s
  both_empty e z = go name s e z
    where
      go : (name s : List ℕ) → length s ≡ length name → length s ≡ 0 → true ≡ same_list name s
      go [] [] e z = refl
      go [] (y ∷ s) e z = absurd (omega arith)
      go (x ∷ name) [] e z = absurd (omega arith)
      go (x ∷ name) (y ∷ s) e z = absurd (omega arith)

  pub other_byte : (k : ℕ) → (get_or s k 0 ≡ get_or name k 0 → ⊥) → false ≡ same_list name s
  other_byte k n = differs (λ e. n (ap (λ (x : List ℕ). get_or x k 0) e))

-- ---- `same_part`

pub same_there : (name p q : List ℕ) (r : Bool) → r ≡ same_list name p → p ≡ q → r ≡ same_list name q
same_there name p q r e h = e ∙ ap (same_list name) h
