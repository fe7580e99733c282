-- The ids of a flat table, and where an id stands among them.
use Rattle.std.specs.Prelude.{ℕ, ◌+◌, ◌*◌, ◌-◌, ◌≤◌, ◌<◌, ◌≡◌, Bool, not, List, map, eqb, length, get_or, take, Option}
use Rattle.rules.specs.Lists.{any, first_place}
use Rattle.rules.specs.Energy.{tabulate}
use Rattle.rules.specs.Profiles.{Curve}
use Rattle.rules.specs.declared.sizes.Track.{Track}

-- n records of one width stand in a table
pub record Records (width n : ℕ) (table : List ℕ) : Type 0 where
  pub one : 1 ≤ width
  pub whole : n * width ≤ length table

-- the ids of the first n records: each stands first in its record
unfoldable pub column : (width n : ℕ) → List ℕ → List ℕ
column width n table = tabulate n (λ i. get_or table (i * width) 0)

-- n records of which no two have the same id
pub record Apart (width n : ℕ) (table : List ℕ) : Type 0 where
  pub records : Records width n table
  pub apart : (i k : ℕ) → i < k → k < n → get_or (column width n table) i 0 ≡ get_or (column width n table) k 0 → ⊥

-- the ids of records
abbrev pub curve_ids_of : List Curve → List ℕ
curve_ids_of = map (λ c. c.id)

abbrev pub track_ids_of : List Track → List ℕ
track_ids_of = map (λ k. k.id)

-- the first place of an id
abbrev pub place_of : (id : ℕ) → List ℕ → Option ℕ
place_of id ids = first_place (λ x. eqb x id) ids

-- no entry has the id
abbrev pub is_new : (id : ℕ) → List ℕ → Bool
is_new id ids = not (any (λ x. eqb x id) ids)

-- strictly rising: each id is below the next
abbrev pub Ascending : List ℕ → Type 0
Ascending ids = (i : ℕ) → i + 1 < length ids → get_or ids i 0 < get_or ids (i + 1) 0

-- the last of ids, where there are any
abbrev pub Last : List ℕ → ℕ → Type 0
Last ids last = 0 < length ids → get_or ids (length ids - 1) 0 ≡ last

-- n records, of which the first so many have rising ids
pub record Rising (width n rising : ℕ) (table : List ℕ) : Type 0 where
  pub records : Records width n table
  pub within : rising ≤ n
  pub ascending : Ascending (take rising (column width n table))

-- n records of which no two have the same id, and the first so many have rising ids
pub record Sought (width n rising : ℕ) (table : List ℕ) : Type 0 where
  pub apart : Apart width n table
  pub rises : Rising width n rising table

-- a place that parts ids: those before it are below an id, and those from it on are not
pub record Parted (ids : List ℕ) (id at : ℕ) : Type 0 where
  pub within : at ≤ length ids
  pub below : (k : ℕ) → k < at → get_or ids k 0 < id
  pub above : (k : ℕ) → at ≤ k → k < length ids → id ≤ get_or ids k 0
