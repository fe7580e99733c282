-- The table of profiles: as many entries as curves, with their ids. Assumes nothing.
use Prim.Native.Nat.{ℕ, suc, ◌+◌}
use mathlib.Core.Path.{◌≡◌, refl, ap, ◌∙◌}
use mathlib.Core.List.{List, [], ◌∷◌, ◌++◌, map}
use native.Mathlib.Omega.{arith}
use lib.ListN.{length, get_or}
use Rattle.rules.specs.Limits.{profile_width}
use Rattle.rules.specs.Lists.{flat}
use Rattle.rules.specs.Profiles.{Curve, profiles_from, profile_numbers}
use Rattle.rules.specs.declared.sizes.Profile.{Profile}
use Rattle.tables_ids.specs.Column.{column, curve_ids_of}
use Rattle.tables_ids.proofs.Written.{column-written}

pub profiles-length : (first : ℕ) (curves : List Curve) → length (profiles_from first curves) ≡ length curves
profiles-length first [] = refl
profiles-length first (c ∷ curves) = ap suc (profiles-length (first + length c.samples) curves)

ids_of_lem : (first : ℕ) (curves : List Curve) → map (λ (p : Profile). get_or (profile_numbers p) 0 0) (profiles_from first curves) ≡ curve_ids_of curves
ids_of_lem first [] = refl
ids_of_lem first (c ∷ curves) = ap (λ ids. c.id ∷ ids) (ids_of_lem (first + length c.samples) curves)

-- whatever stands behind the entries
pub curves-column : (curves : List Curve) (rest : List ℕ)
    → column profile_width (length curves) (flat profile_numbers (profiles_from 0 curves) ++ rest) ≡ curve_ids_of curves
curves-column curves rest =
    rw (← profiles-length 0 curves) (column-written profile_numbers profile_width (omega arith) (λ p. refl) (profiles_from 0 curves) rest ∙ ids_of_lem 0 curves)
