-- Ids of which no two are the same: an entry that has the id is the first one, and each is new among those before it. Assumes nothing.
use Prim.Native.Nat.{ℕ, ◌*◌, ◌<◌}
use mathlib.Core.Path.{◌≡◌, refl, sym, ◌∙◌}
use mathlib.Core.Bool.{true}
use mathlib.Core.List.{List}
use native.Mathlib.Omega.{arith}
use lib.ListN.{length, get_or}
use Rattle.tables_ids.specs.Column.{Apart, column, place_of, is_new}
use Rattle.tables_ids.proofs.Column.{column-length, column-at}
use Rattle.tables_ids.proofs.Places.{first_is, none_is}
use Rattle.tables_ids.proofs.Parts.{new_by_place}
use Rattle.std.specs.Prelude.{Some}

module _ (width n : ℕ) (table : List ℕ) (a : Apart width n table) (at : ℕ) (inside : at < n) where
  here : get_or (column width n table) at 0 ≡ get_or table (at * width) 0
  here = column-at width n table at inside

  pub lone_place : (id : ℕ) → get_or table (at * width) 0 ≡ id → Some at ≡ place_of id (column width n table)
  lone_place id e =
      let there : get_or (column width n table) at 0 ≡ id = here ∙ e in
      sym (first_is id (column width n table) at (omega (arith, column-length width n table)) there (λ k p q. a.apart k at p inside (q ∙ sym there)))

  pub lone_new : is_new (get_or table (at * width) 0) (column width at table) ≡ true
  lone_new =
      let id : ℕ = get_or table (at * width) 0 in
      sym (new_by_place id (column width at table) (sym (none_is id (column width at table) other)) refl)
    where
      other : (k : ℕ) → k < length (column width at table) → get_or (column width at table) k 0 ≡ get_or table (at * width) 0 → ⊥
      other k h e =
          let below : k < at = omega (arith, column-length width at table) in
          a.apart k at below inside (column-at width n table k (omega arith) ∙ sym (column-at width at table k below) ∙ e ∙ sym here)
