-- A flat table's ids by their places: how many, each of them, the first so many. Assumes nothing.
use Prim.Native.Nat.{ℕ, suc, ◌*◌, ◌≤◌, ◌<◌}
use mathlib.Core.Path.{◌≡◌, sym, ◌∙◌}
use mathlib.Core.List.{List, [], ◌∷◌, ◌++◌}
use native.Mathlib.Omega.{arith}
use native.Mathlib.Nat.{mul-le-mul_right, suc-mul}
use lib.ListN.{length, get_or, take}
use lib.Seq.{get_or-take, length-take-le, ext_get_or}
use Rattle.rules.proofs.Lists.{tabulate-length, tabulate-at, tabulate-more}
use Rattle.tables_ids.specs.Column.{Records, column}

module _ (width n : ℕ) (table : List ℕ) where
  pub column-length : length (column width n table) ≡ n
  unfolding column
  column-length = tabulate-length n (λ i. get_or table (i * width) 0)

  pub column-at : (i : ℕ) → i < n → get_or (column width n table) i 0 ≡ get_or table (i * width) 0
  unfolding column
  column-at i h = tabulate-at n (λ j. get_or table (j * width) 0) 0 i h

  -- one record more
  pub column-more : column width (suc n) table ≡ column width n table ++ get_or table (n * width) 0 ∷ []
  unfolding column
  column-more = tabulate-more n (λ i. get_or table (i * width) 0)

  -- an id stands in the table
  pub in_table : Records width n table → (i : ℕ) → i < n → i * width < length table
  in_table r i h =
      omega (arith, r.one, r.whole, suc-mul i width, mul-le-mul_right width h)

-- the first so many ids are the ids of the first so many records
pub take-column : (width m n : ℕ) (table : List ℕ) → m ≤ n → take m (column width n table) ≡ column width m table
take-column width m n table h =
    ext_get_or 0 (take m (column width n table)) (column width m table) (count ∙ sym (column-length width m table)) at
  where
    count : length (take m (column width n table)) ≡ m
    count = length-take-le m (column width n table) (rw column-length h)

    at : (i : ℕ) → i < length (take m (column width n table)) → get_or (take m (column width n table)) i 0 ≡ get_or (column width m table) i 0
    at i k =
        let below : i < m = omega (arith, count) in
        get_or-take m (column width n table) i 0 below ∙ column-at width n table i (omega arith) ∙ sym (column-at width m table i below)
