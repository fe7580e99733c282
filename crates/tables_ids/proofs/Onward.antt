-- A walk over a table's ids: the place in what is left from a record on. Assumes nothing.
use Prim.Native.Nat.{ℕ, ◌+◌, ◌*◌, ◌≤◌, ◌<◌}
use mathlib.Core.Path.{◌≡◌}
use mathlib.Core.List.{List}
use native.Mathlib.Numerals.{add-one}
use lib.Dec.{eqb}
use lib.ListN.{length, get_or, drop, drop_of_length-le}
use lib.Seq.{drop-cons}
use borrow.Author.Tests.{eq-eqb, ne_eqb}
use Rattle.rules.specs.Lists.{place_from}
use Rattle.tables_ids.specs.Column.{column}
use Rattle.tables_ids.proofs.Column.{column-length, column-at}
use Rattle.std.specs.Prelude.{Option, Some, None}

module _ (width n : ℕ) (table : List ℕ) (id : ℕ) where
  abbrev pub place_after : ℕ → Option ℕ
  place_after i = place_from i (λ x. eqb x id) (drop i (column width n table))

  module _ (i : ℕ) (h : i < n) where
    abbrev entry : ℕ
    entry = get_or table (i * width) 0

    pub walk_hit : entry ≡ id → place_after i ≡ Some i
    walk_hit e = rw (drop-cons (column width n table) i 0 (rw column-length h), column-at width n table i h, eq-eqb entry id e)

    pub walk_miss : (entry ≡ id → ⊥) → place_after i ≡ place_after (i + 1)
    walk_miss e = simp add-one (rw (drop-cons (column width n table) i 0 (rw column-length h), column-at width n table i h, ne_eqb entry id e))

  pub walk_end : (i : ℕ) → n ≤ i → place_after i ≡ None
  walk_end i h = let all : length (column width n table) ≤ i = rw column-length h in rw (drop_of_length-le (column width n table) all)
