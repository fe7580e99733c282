-- What the tables of tracks and of subnets' ids hold, and what after one id more. Assumes nothing.
use Prim.Native.Nat.{ℕ, suc, ◌*◌, ◌≤◌, ◌<◌}
use mathlib.Core.Path.{◌≡◌, refl, ap, sym, ◌∙◌}
use mathlib.Core.List.{List, [], ◌∷◌, ◌++◌}
use native.Mathlib.Omega.{arith}
use lib.ListN.{length, get_or, take, drop, set, length-append}
use lib.Seq.{take-suc-set, ext_get_or, get_or-take}
use Rattle.rules.specs.Limits.{track_width}
use Rattle.rules.specs.Lists.{flat, over}
use Rattle.rules.specs.Constraints.{track_numbers}
use Rattle.rules.specs.declared.sizes.Track.{Track}
use Rattle.tables_ids.specs.Column.{column, track_ids_of}
use Rattle.tables_ids.proofs.Column.{column-length, column-at}
use Rattle.tables_ids.proofs.Written.{column-written}
use Rattle.constraints_states.specs.Steps.{id_width}

-- ---- the tracks

pub track_long : (k : Track) → length (track_numbers k) ≡ track_width
track_long k = refl

-- the ids of the tracks that were written
pub tracks_held : (ts : List Track) (t : List ℕ) → column track_width (length ts) (over (flat track_numbers ts) t) ≡ track_ids_of ts
unfolding over
tracks_held ts t = column-written track_numbers track_width (omega arith) track_long ts (drop (length (flat track_numbers ts)) t)

-- ---- the ids of the subnets, which stand in a table of their own

pub ids_held : (ids held : List ℕ) → length ids ≤ length held → take (length ids) held ≡ ids → column id_width (length ids) held ≡ ids
ids_held ids held fits e =
    ext_get_or 0 (column id_width (length ids) held) ids (column-length id_width (length ids) held)
    (λ i h.
    let low : i < length ids = omega (arith, column-length id_width (length ids) held) in
    let one : i * id_width ≡ i = omega arith in
    column-at id_width (length ids) held i low ∙ rw one (sym (get_or-take (length ids) held i 0 low) ∙ ap (λ (l : List ℕ). get_or l i 0) e))

-- an id behind those that are held
pub id_held : (ids held : List ℕ) (id : ℕ) → length ids < length held → take (length ids) held ≡ ids
    → take (length (ids ++ id ∷ [])) (set held (length ids) id) ≡ ids ++ id ∷ []
id_held ids held id room e =
    let one_more : length (ids ++ id ∷ []) ≡ suc (length ids) = omega (arith, length-append ids (id ∷ [])) in
    rw one_more (take-suc-set held (length ids) id room ∙ ap (λ (l : List ℕ). l ++ id ∷ []) e)
