-- A number as it is held, by what was read of it. Assumes nothing.
use Prim.Native.Nat.{ℕ, ◌+◌, ◌≤◌, ◌<◌, min}
use mathlib.Core.Path.{◌≡◌, refl}
use mathlib.Core.Bool.{Bool, true, false, cond}
use mathlib.Core.List.{List}
use native.Mathlib.Omega.{arith}
use lib.Dec.{leb}
use borrow.Author.Tests.{leb-true, leb-false}
use Rattle.rules.specs.Limits.{most_id}
use Rattle.rules.specs.Bytes.{whole_of}
use Rattle.text_read.specs.Held.{past_id, whole_held}
use Rattle.duties_row.specs.Rowed.{or_zero, value_of}
use Rattle.std.specs.Prelude.{Option, Some, None, Result, Ok, Err}
use Rattle.text_read.specs.declared.numbers.Unread.{Unread}
use Rattle.text_read.specs.declared.numbers.Unread.TheVariants.{Beyond, Malformed}

module _ (s : List ℕ) where
  whole_case : (o : Option ℕ) (w : Result ℕ Unread) → w ≡ whole_held o → (P : Result ℕ Unread → Option ℕ → Type 0)
      → ((v : ℕ) → v ≤ most_id → P (Ok v) (Some v)) → ((v : ℕ) → most_id < v → P (Err Beyond) (Some v)) → P (Err Malformed) None → P w o
  whole_case None w e P n b m = rw e m
  whole_case (Some v) w e P n b m = go (leb v most_id) refl e
    where
      go : (t : Bool) → leb v most_id ≡ t → w ≡ cond t (Ok v) (Err Beyond) → P w (Some v)
      go true l f = rw f (n v (leb-true v most_id l))
      go false l f = rw f (b v (leb-false v most_id l))

  pub value_number : (v : ℕ) (w : Result ℕ Unread) → w ≡ whole_held (whole_of s) → w ≡ Ok v → v ≡ min (value_of s) past_id
  value_number v w e f = whole_case (whole_of s) w e (λ x o. x ≡ Ok v → v ≡ min (or_zero o) past_id)
      (λ u l g. let z : u ≡ v = cc in omega arith)
      (λ u l g. let z : ◌≡◌ {A = ℕ} 0 1 = cc in absurd (omega arith))
      (λ g. let z : ◌≡◌ {A = ℕ} 0 1 = cc in absurd (omega arith))
      f

  pub value_beyond : (w : Result ℕ Unread) → w ≡ whole_held (whole_of s) → w ≡ (Err Beyond) → most_id + 1 ≡ min (value_of s) past_id
  value_beyond w e f = whole_case (whole_of s) w e (λ x o. x ≡ (Err Beyond) → most_id + 1 ≡ min (or_zero o) past_id)
      (λ u l g. let z : ◌≡◌ {A = ℕ} 0 1 = cc in absurd (omega arith))
      (λ u l g. omega arith)
      (λ g. let z : ◌≡◌ {A = ℕ} 0 1 = cc in absurd (omega arith))
      f

  pub value_none : (w : Result ℕ Unread) → w ≡ whole_held (whole_of s) → w ≡ (Err Malformed) → 0 ≡ min (value_of s) past_id
  value_none w e f = whole_case (whole_of s) w e (λ x o. x ≡ (Err Malformed) → 0 ≡ min (or_zero o) past_id)
      (λ u l g. let z : ◌≡◌ {A = ℕ} 0 1 = cc in absurd (omega arith))
      (λ u l g. let z : ◌≡◌ {A = ℕ} 0 1 = cc in absurd (omega arith))
      (λ g. omega arith)
      f
