-- The ids of a table whose records were written one after the other: they are the records' ids. Assumes nothing.
use Prim.Native.Nat.{ℕ, suc, ◌+◌, ◌*◌, ◌≤◌}
use mathlib.Core.Path.{◌≡◌, refl, ap, ap₂, ◌∙◌}
use mathlib.Core.Bool.{not, ◌||◌}
use mathlib.Core.List.{List, [], ◌∷◌, ◌++◌, map, append_assoc}
use native.Mathlib.Omega.{arith}
use native.Mathlib.Nat.{zero-mul, suc-mul}
use lib.Dec.{eqb}
use lib.ListN.{length, get_or, get_or-append}
use lib.Seq.{get_or-append-add}
use Rattle.rules.specs.Lists.{any, flat}
use Rattle.rules.proofs.Lists.{tabulate_ext}
use Rattle.tables_ids.specs.Column.{column, is_new}

-- a record in front
pub column_cons : (width n : ℕ) (w t : List ℕ) → 1 ≤ width → length w ≡ width → column width (suc n) (w ++ t) ≡ get_or w 0 0 ∷ column width n t
unfolding column
column_cons width n w t one e = ap₂ (λ x xs. x ∷ xs) first (tabulate_ext n _ _ others)
  where
    first : get_or (w ++ t) (0 * width) 0 ≡ get_or w 0 0
    first = rw (zero-mul width) (get_or-append w t 0 0 (omega arith))

    others : (i : ℕ) → get_or (w ++ t) (suc i * width) 0 ≡ get_or t (i * width) 0
    others i =
        let there : suc i * width ≡ length w + i * width = omega (arith, suc-mul i width) in
        rw there (get_or-append-add w t (i * width) 0)

module _ {A : Type 0} (entry : A → List ℕ) (width : ℕ) (one : 1 ≤ width) (same : (x : A) → length (entry x) ≡ width) where
  -- records of one width: their first numbers are the ids
  pub column-written : (xs : List A) (rest : List ℕ) → column width (length xs) (flat entry xs ++ rest) ≡ map (λ x. get_or (entry x) 0 0) xs
  unfolding column
  column-written [] rest = refl
  column-written (x ∷ xs) rest =
      rw (append_assoc (entry x) (flat entry xs) rest)
      (column_cons width (length xs) (entry x) (flat entry xs ++ rest) one (same x) ∙ ap (λ ids. get_or (entry x) 0 0 ∷ ids) (column-written xs rest))

-- an id is new among records where none of them has it
pub new_among : {A : Type 0} (id_of : A → ℕ) (id : ℕ) (xs : List A) → is_new id (map id_of xs) ≡ not (any (λ x. eqb (id_of x) id) xs)
new_among {A = A} id_of id xs = ap not (go xs)
  where
    go : (ys : List A) → any (λ x. eqb x id) (map id_of ys) ≡ any (λ x. eqb (id_of x) id) ys
    go [] = refl
    go (y ∷ ys) = ap (λ b. eqb (id_of y) id || b) (go ys)
