-- A table whose first ids rise: the search in that part and then in the rest, and what it says of an id that may be new. Assumes nothing.
use Prim.Native.Nat.{ℕ, ◌+◌, ◌<◌}
use mathlib.Core.Path.{◌≡◌, refl, ap, sym, ◌∙◌}
use mathlib.Core.Bool.{Bool, true, false}
use mathlib.Core.List.{List, ◌++◌}
use native.Mathlib.Omega.{arith}
use native.Mathlib.Nat.{mul-le-mul_right}
use lib.Dec.{eqb}
use lib.ListN.{length, take, drop, take-append-drop}
use Rattle.rules.specs.Lists.{first_place}
use Rattle.tables_ids.specs.Column.{Records, Rising, Ascending, Last, column, place_of, is_new}
use Rattle.tables_ids.proofs.Column.{column-length, take-column}
use Rattle.tables_ids.proofs.Places.{place_first, place_second, any_place}
use Rattle.tables_ids.proofs.Onward.{place_after}
use Rattle.tables_ids.proofs.Halves.{above-last}
use Rattle.std.specs.Prelude.{Option, Some, None}

module _ (width n rising : ℕ) (table : List ℕ) (r : Rising width n rising table) where
  -- the part that rises is a table of its own
  pub part-records : Records width rising table
  part-records =
      record {
        one = r.records.one;
        whole = omega (arith, mul-le-mul_right width r.within, r.records.whole);
      }

  pub part_ascending : Ascending (column width rising table)
  part_ascending = rw (take-column width rising n table r.within) at r.ascending

  split : column width n table ≡ column width rising table ++ drop rising (column width n table)
  split = sym (take-append-drop rising (column width n table)) ∙ rw (take-column width rising n table r.within)

  module _ (id : ℕ) where
    abbrev is : ℕ → Bool
    is x = eqb x id

    -- what is found there is the first
    pub in_part : {f : Option ℕ} {i : ℕ} → f ≡ place_of id (column width rising table) → f ≡ Some i → Some i ≡ place_of id (column width n table)
    in_part {f} {i} e q =
        let there : first_place is (column width rising table) ≡ Some i = sym (sym q ∙ e) in
        rw (split, place_first is 0 i (column width rising table) (drop rising (column width n table)) there)

    -- what is not found there is looked for in the rest
    pub in_rest : {f g : Option ℕ} → f ≡ place_of id (column width rising table) → f ≡ None → g ≡ (place_after width n table id rising)
        → g ≡ place_of id (column width n table)
    in_rest {f} {g} e q later =
        let none_there : first_place is (column width rising table) ≡ None = sym (sym q ∙ e) in
        let on : 0 + length (column width rising table) ≡ rising = omega (arith, column-length width rising table) in
        let next : place_of id (column width rising table ++ drop rising (column width n table)) ≡ (place_after width n table id rising) =
        rw (place_second is 0 (column width rising table) (drop rising (column width n table)) none_there, on) in
        later ∙ sym (ap (place_of id) split ∙ next)

-- ---- new ids

module _ (id : ℕ) (ids : List ℕ) where
  -- an id is new where it has no place
  pub new_by_place : {f : Option ℕ} → f ≡ place_of id ids → f ≡ None → true ≡ is_new id ids
  new_by_place e q = rw (any_place (λ x. eqb x id) 0 ids, sym (sym q ∙ e))

  pub old_by_place : {f : Option ℕ} {i : ℕ} → f ≡ place_of id ids → f ≡ Some i → false ≡ is_new id ids
  old_by_place {f} {i} e q = rw (any_place (λ x. eqb x id) 0 ids, sym (sym q ∙ e))

-- a table that rises to its end: an id above its last is new
pub new_above : (width n rising : ℕ) (table : List ℕ) (last id : ℕ) → Rising width n rising table → Last (take rising (column width n table)) last
    → rising ≡ n → last < id → true ≡ is_new id (column width n table)
new_above width n rising table last id r l e h =
    let all : take rising (column width n table) ≡ column width n table =
    take-column width rising n table r.within ∙ ap (λ (m : ℕ). column width m table) e in
    new_by_place id (column width n table) (sym (above-last (column width n table) (rw all at r.ascending) last id (rw all at l) h)) refl
