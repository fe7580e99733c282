-- Where a row starts, byte by byte: what is left of the text from a place on has the rows that are left. Assumes nothing.
use Prim.Native.Nat.{ℕ, zero, suc, ◌+◌, ◌-◌, ◌≤◌, ◌<◌}
use mathlib.Core.Path.{◌≡◌, refl}
use mathlib.Core.Bool.{Bool, true, false, cond}
use mathlib.Core.List.{List, [], ◌∷◌}
use native.Mathlib.Omega.{arith}
use native.Mathlib.Numerals.{add-one}
use lib.Dec.{eqb}
use lib.ListN.{length, get_or, drop, drop_of_length-le}
use lib.Seq.{drop-cons}
use borrow.Author.Tests.{ne_eqb}
use Rattle.rules.specs.Bytes.{line_feed, onto, split_on, start_of}
use Rattle.rules.specs.Rows.{place_of_row}
use Rattle.rules.proofs.Pieces.{split_cons}

-- behind all pieces
start-past : (k : ℕ) → start_of k [] ≡ 0
start-past zero = refl
start-past (suc k) = refl

-- a byte that ends no line is one more in front of every row
other_byte : (b row : ℕ) (s : List ℕ) → start_of (suc row) (onto b (split_on line_feed s)) ≡ 1 + place_of_row s row
other_byte b row s = rw (split_cons line_feed s).2 (omega arith)

-- a row starts in the text or just behind it
pub place_most : (s : List ℕ) (row : ℕ) → place_of_row s row ≤ length s + 1
place_most [] row = omega (arith, start-past row)
place_most (b ∷ s) row = go (eqb b line_feed) row (place_most s)
  where
    go : (t : Bool) (row : ℕ) → ((k : ℕ) → place_of_row s k ≤ length s + 1)
        → start_of (suc row) (cond t ([] ∷ split_on line_feed s) (onto b (split_on line_feed s))) ≤ suc (length s) + 1
    go true zero h = omega arith
    go true (suc row) h = omega (arith, h row)
    go false row h = omega (arith, h row, other_byte b row s)

-- ---- the loop: `left` rows are still to be passed from place `at` on

module _ (s : List ℕ) (row at left : ℕ) (e : at + place_of_row (drop at s) left ≡ place_of_row s row) where
  module _ (h : at < length s) where
    pub row_here : get_or s at 0 ≡ line_feed → left ≡ 0 → at + 1 ≡ place_of_row s row
    row_here b z = omega (arith, rw (z, drop-cons s at 0 h, b) at e)

    pub row_on : {next : ℕ} → get_or s at 0 ≡ line_feed → (left ≡ 0 → ⊥) → next ≡ left - 1 → at + 1 + place_of_row (drop (at + 1) s) next ≡ place_of_row s row
    row_on b z n =
        let one : left ≡ suc (left - 1) = omega arith in
        rw (n, add-one at) (omega (arith, rw (one, drop-cons s at 0 h, b) at e))

    pub byte_on : {next : ℕ} → (get_or s at 0 ≡ line_feed → ⊥) → next ≡ left → at + 1 + place_of_row (drop (at + 1) s) next ≡ place_of_row s row
    byte_on b n =
        rw (n, add-one at) (omega (arith, rw (drop-cons s at 0 h, ne_eqb _ line_feed b) at e, other_byte (get_or s at 0) left (drop (suc at) s)))

  pub row-past : length s ≤ at → at ≤ length s → length s + 1 ≡ place_of_row s row
  row-past h k = omega (arith, rw (drop_of_length-le s h) at e, start-past left)
