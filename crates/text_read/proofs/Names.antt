-- Two lists held against each other from the front, pair by pair as the library does, or place by place. Assumes nothing.
use Prim.Native.Nat.{ℕ, ◌+◌, ◌≤◌, ◌<◌}
use mathlib.Core.Path.{◌≡◌, refl}
use mathlib.Core.List.{List, [], ◌∷◌}
use mathlib.Core.Bool.{Bool, true, false}
use native.Mathlib.Omega.{arith}
use native.Mathlib.Numerals.{add-one}
use lib.ListN.{length, get_or, take, drop, drop_of_length-le}
use lib.Seq.{drop-cons}
use lib.Pointwise.{pointwise}
use Rattle.std.proofs.Common.{nat_eq}
use borrow.Author.Tests.{eq-eqb, ne_eqb}
use Rattle.rules.specs.Lists.{same_list, starts_with}
use Rattle.rules.proofs.Truth.{eqb_swap}

-- ---- the invariant is `starts_with (drop i name) (drop i s) ≡ r`

module _ (name s : List ℕ) (i : ℕ) (r : Bool) (e : starts_with (drop i name) (drop i s) ≡ r) where
  pub start-same : i < length name → length name ≤ length s → get_or s i 0 ≡ get_or name i 0 → starts_with (drop (i + 1) name) (drop (i + 1) s) ≡ r
  start-same h k q = simp add-one (rw (drop-cons name i 0 h, drop-cons s i 0 (omega arith), eq-eqb (get_or s i 0) (get_or name i 0) q) at e)

  pub start_other : i < length name → length name ≤ length s → (get_or s i 0 ≡ get_or name i 0 → ⊥) → false ≡ r
  start_other h k q = rw (drop-cons name i 0 h, drop-cons s i 0 (omega arith), ne_eqb (get_or s i 0) (get_or name i 0) q) at e

  pub start_all : length name ≤ i → true ≡ r
  start_all h = rw (drop_of_length-le name h) at e

-- ---- pair by pair

pub starts_pairs : (name s : List ℕ) → pointwise nat_eq name (take (length name) s) ≡ starts_with name s
starts_pairs [] s = refl
starts_pairs (n ∷ name) [] = refl
starts_pairs (n ∷ name) (b ∷ s) = rw (eqb_swap n b, starts_pairs name s)

pub same_pairs : (name s : List ℕ) → pointwise nat_eq s name ≡ same_list name s
same_pairs [] [] = refl
same_pairs [] (b ∷ s) = refl
same_pairs (n ∷ name) [] = refl
same_pairs (n ∷ name) (b ∷ s) = rw (eqb_swap b n, same_pairs name s)
