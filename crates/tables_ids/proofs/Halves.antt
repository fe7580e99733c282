-- Rising ids: an entry with the id is the first one, and a search by halves parts them. Assumes nothing.
use Prim.Native.Nat.{ℕ, zero, suc, ◌+◌, ◌*◌, ◌-◌, ◌≤◌, ◌<◌}
use mathlib.Core.Path.{◌≡◌, refl, sym, ◌∙◌}
use mathlib.Core.Bool.{Bool, true, false}
use mathlib.Core.List.{List, [], ◌∷◌, ◌++◌}
use native.Mathlib.Omega.{arith}
use native.Mathlib.Nat.{add-zero}
use lib.Dec.{ltb}
use lib.ListN.{length, get_or, length-append, get_or-append}
use lib.Seq.{get_or-append_seam}
use borrow.Author.Tests.{ltb-true, ltb-false}
use Rattle.tables_ids.specs.Column.{column, place_of, Ascending, Last, Parted}
use Rattle.tables_ids.proofs.Column.{column-length, column-at}
use Rattle.tables_ids.proofs.Places.{first_is, none_is}
use Rattle.std.specs.Prelude.{Some, None}

module _ (ids : List ℕ) (up : Ascending ids) where
  -- what stands further on is no less
  rising_by : (i d : ℕ) → i + d < length ids → get_or ids i 0 ≤ get_or ids (i + d) 0
  rising_by i zero h = rw (add-zero i) (omega arith)
  rising_by i (suc d) h =
      let e : i + suc d ≡ i + d + 1 = omega arith in
      let n : i + d + 1 < length ids = omega arith in
      rw e (omega (arith, rising_by i d (omega arith), up (i + d) n))

  pub rising_to : (i j : ℕ) → i ≤ j → j < length ids → get_or ids i 0 ≤ get_or ids j 0
  rising_to i j h k = let e : i + (j - i) ≡ j = omega arith in rw e at (rising_by i (j - i) (omega arith))

  pub rising_above : (i j : ℕ) → i < j → j < length ids → get_or ids i 0 < get_or ids j 0
  rising_above i j h k = omega (arith, up i (omega arith), rising_to (i + 1) j (omega arith) k)

  -- an entry that has the id is the first that has it
  pub ascending_first : (id i : ℕ) → i < length ids → get_or ids i 0 ≡ id → place_of id ids ≡ Some i
  ascending_first id i h e = first_is id ids i h e (λ k p q. omega (arith, rising_above k i p h))

  -- an id above the last is not among them
  pub above-last : (last id : ℕ) → Last ids last → last < id → place_of id ids ≡ None
  above-last last id l h =
      none_is id ids (λ k p q. omega (arith, rising_to k (length ids - 1) (omega arith) (omega arith), l (omega arith)))

-- an id above the last may follow
pub ascending_more : (ids : List ℕ) (last id : ℕ) → Ascending ids → Last ids last → (0 < length ids → last < id) → Ascending (ids ++ id ∷ [])
ascending_more ids last id up l h i k = go (ltb (i + 1) (length ids)) refl
  where
    here : i < length ids
    here = omega (arith, length-append ids (id ∷ []), k)

    go : (t : Bool) → ltb (i + 1) (length ids) ≡ t → get_or (ids ++ id ∷ []) i 0 < get_or (ids ++ id ∷ []) (i + 1) 0
    go true e =
        let next : i + 1 < length ids = ltb-true (i + 1) (length ids) e in
        rw (get_or-append ids (id ∷ []) 0 i here, get_or-append ids (id ∷ []) 0 (i + 1) next) (up i next)
    go false e =
        let next : i + 1 ≡ length ids = omega (arith, ltb-false (i + 1) (length ids) e, here) in
        let end : length ids - 1 ≡ i = omega arith in
        let some : 0 < length ids = omega (arith, here) in
        rw (get_or-append ids (id ∷ []) 0 i here, next, get_or-append_seam ids id [] 0) (omega (arith, rw end at (l some), h some))

-- ---- a search by halves: below `low` all is below the id, and from `high` on nothing is

pub record Between (ids : List ℕ) (id low high : ℕ) : Type 0 where
  pub order : low ≤ high
  pub within : high ≤ length ids
  pub below : (k : ℕ) → k < low → get_or ids k 0 < id
  pub above : (k : ℕ) → high ≤ k → k < length ids → id ≤ get_or ids k 0

module _ (width n : ℕ) (table : List ℕ) (id : ℕ) where
  abbrev ids : List ℕ
  ids = column width n table

  pub all_between : Between ids id 0 n
  all_between =
      record {
        order = omega arith;
        within = omega (arith, column-length width n table);
        below = λ k h. absurd (omega arith);
        above = λ k h p. absurd (omega (arith, column-length width n table));
      }

  pub parted : {low high : ℕ} → Between ids id low high → high ≤ low → Parted ids id low
  parted b h =
      record {
        within = omega (arith, b.order, b.within);
        below = b.below;
        above = λ k p q. b.above k (omega (arith, b.order)) q;
      }

  module _ (up : Ascending ids) (middle : ℕ) (inside : middle < n) where
    entry : get_or ids middle 0 ≡ get_or table (middle * width) 0
    entry = column-at width n table middle inside

    count : middle < length ids
    count = rw (column-length width n table) inside

    pub low_rises : {low high : ℕ} → Between ids id low high → middle < high → get_or table (middle * width) 0 < id → Between ids id (middle + 1) high
    low_rises b h e =
        record {
          order = omega arith;
          within = b.within;
          below = λ k p. omega (arith, rising_to ids up k middle (omega arith) count, entry);
          above = b.above;
        }

    pub high_falls : {low high : ℕ} → Between ids id low high → low ≤ middle → id ≤ get_or table (middle * width) 0 → Between ids id low middle
    high_falls b h e =
        record {
          order = h;
          within = omega (arith, count);
          below = b.below;
          above = λ k p q. omega (arith, rising_to ids up middle k p q, entry);
        }

  pub at_place : (up : Ascending ids) (at : ℕ) → at < n → get_or table (at * width) 0 ≡ id → Some at ≡ place_of id ids
  at_place up at h e = sym (ascending_first ids up id at (omega (arith, column-length width n table)) (column-at width n table at h ∙ e))

  -- ---- what the parting place says

  module _ (up : Ascending ids) (at : ℕ) (p : Parted ids id at) where
    pub past_end : n ≤ at → None ≡ place_of id ids
    past_end h = sym (none_is id ids (λ k q e. omega (arith, p.below k (omega (arith, column-length width n table)))))

    pub not_there_lem : at < n → (get_or table (at * width) 0 ≡ id → ⊥) → None ≡ place_of id ids
    not_there_lem h e = sym (none_is id ids (λ k q i. go k q i (ltb k at) refl))
      where
        go : (k : ℕ) → k < length ids → get_or ids k 0 ≡ id → (t : Bool) → ltb k at ≡ t → ⊥
        go k q i true b = omega (arith, p.below k (ltb-true k at b))
        go k q i false b =
            let from : at ≤ k = ltb-false k at b in
            omega (arith, e, column-at width n table at h, p.above at (omega arith) (omega arith), rising_to ids up at k from q)
