-- Ids that rise so far, and one more. Assumes nothing.
use Prim.Native.Nat.{ℕ, ◌+◌, ◌*◌, ◌-◌, ◌≤◌, ◌<◌}
use native.Mathlib.Omega.{arith}
use mathlib.Core.Path.{◌≡◌, refl}
use mathlib.Core.Bool.{Bool, true, false}
use mathlib.Core.List.{List}
use lib.Dec.{ltb}
use lib.ListN.{length, get_or}
use borrow.Author.Tests.{ltb-true, ltb-false}
use Rattle.tables_ids.specs.Column.{Records, Rising}
use Rattle.tables_ids.proofs.Column.{column-length, column-at, take-column, in_table}

-- one step more: what holds from each place to the next so far, and at the last step too
pub steps_more : (R : ℕ → ℕ → Type 0) (i : ℕ) → ((j : ℕ) → j + 1 < i → R j (j + 1)) → 1 ≤ i → R (i - 1) i → (j : ℕ) → j + 1 < i + 1 → R j (j + 1)
steps_more R i before one last j k = go (ltb (j + 1) i) refl
  where
    go : (t : Bool) → ltb (j + 1) i ≡ t → R j (j + 1)
    go true e = before j (ltb-true (j + 1) i e)
    go false e =
        let this : j + 1 ≡ i = omega (arith, ltb-false (j + 1) i e) in
        let was : i - 1 ≡ j = omega arith in
        rw this (rw was at last)

module _ {width n : ℕ} {table : List ℕ} where
  -- the id before an id stands in the table too
  pub before_in_table : Records width n table → (i : ℕ) → i < n → (i - 1) * width < length table
  before_in_table r i h = in_table width n table r (i - 1) (omega arith)

  pub rises_none : Records width n table → Rising width n 0 table
  rises_none r = record { records = r; within = omega arith; ascending = λ j h. absurd (omega arith) }

  -- a step of the first i ids, read off the table
  step_at : {i : ℕ} → Rising width n i table → (j : ℕ) → j + 1 < i → get_or table (j * width) 0 < get_or table ((j + 1) * width) 0
  step_at {i} r j h =
      let up = rw (take-column width i n table r.within) at r.ascending in
      omega (
        arith,
        up j (rw (column-length width i table) h),
        column-at width i table j (omega arith),
        column-at width i table (j + 1) h,
      )

  -- the first i ids rise if each step does
  rises_steps : {i : ℕ} → Records width n table → i ≤ n → ((j : ℕ) → j + 1 < i → get_or table (j * width) 0 < get_or table ((j + 1) * width) 0) → Rising width n i table
  rises_steps {i} records h steps =
      record {
        records = records;
        within = h;
        ascending =
            rw (take-column width i n table h)
            (λ j k.
            let below : j + 1 < i = rw (column-length width i table) at k in
            omega (arith, steps j below, column-at width i table j (omega arith), column-at width i table (j + 1) below));
      }

  pub rises_one : (n ≡ 0 → ⊥) → Records width n table → Rising width n 1 table
  rises_one z records = rises_steps records (omega arith) (λ j h. absurd (omega arith))

  pub rises_more : {i : ℕ} → Rising width n i table → 1 ≤ i → i < n → get_or table ((i - 1) * width) 0 < get_or table (i * width) 0 → Rising width n (i + 1) table
  rises_more {i} r one h up =
      rises_steps r.records (omega arith) (steps_more (λ a b. get_or table (a * width) 0 < get_or table (b * width) 0) i (step_at r) one up)
