-- The tables of rows, and one row more. Assumes nothing.
use Prim.Native.Nat.{ℕ, ◌+◌, ◌*◌}
use mathlib.Core.Path.{◌≡◌, refl, ap, ◌∙◌}
use mathlib.Core.List.{List, [], ◌∷◌, ◌++◌, append-nil}
use native.Mathlib.Omega.{arith}
use native.Mathlib.Nat.{add-zero, add_assoc}
use lib.ListN.{length, length-append}
use Rattle.rules.specs.Limits.{profile_width}
use Rattle.rules.specs.Lists.{flat, sum_of}
use Rattle.rules.specs.Profiles.{Curve, sampled, profiles_from, profile_numbers, sample_table}
use Rattle.rules.specs.declared.sizes.Profile.{Profile}
use Rattle.rules.proofs.Lists.{flat_append, flat-length}
use Rattle.tables_ids.proofs.Curves.{profiles-length}
use Rattle.profiles_row.specs.Row.{profile_table}

flat-more : {A B : Type 0} (f : A → List B) (xs : List A) (x : A) → flat f (xs ++ x ∷ []) ≡ flat f xs ++ f x
flat-more f xs x = flat_append f xs (x ∷ []) ∙ ap (λ l. flat f xs ++ l) (append-nil (f x))

sum_more : {A : Type 0} (f : A → ℕ) (xs : List A) (x : A) → sum_of f (xs ++ x ∷ []) ≡ sum_of f xs + f x
sum_more f [] x = omega arith
sum_more f (y ∷ xs) x = rw (sum_more f xs x) (omega arith)

pub sampled-more : (curves : List Curve) (c : Curve) → sampled (curves ++ c ∷ []) ≡ sampled curves + length c.samples
sampled-more curves c = sum_more (λ (x : Curve). length x.samples) curves c

pub samples_more : (curves : List Curve) (c : Curve) → sample_table (curves ++ c ∷ []) ≡ sample_table curves ++ c.samples
samples_more curves c = flat-more (λ (x : Curve). x.samples) curves c

pub samples_length : (curves : List Curve) → length (sample_table curves) ≡ sampled curves
samples_length [] = refl
samples_length (c ∷ curves) = rw (length-append c.samples (sample_table curves), samples_length curves)

abbrev pub entry_of : ℕ → Curve → Profile
entry_of first c = record { id = c.id; first = first; count = length c.samples }

profiles-more : (first : ℕ) (curves : List Curve) (c : Curve)
    → profiles_from first (curves ++ c ∷ []) ≡ profiles_from first curves ++ entry_of (first + sampled curves) c ∷ []
profiles-more first [] c = rw (add-zero first)
profiles-more first (d ∷ curves) c =
    rw (profiles-more (first + length d.samples) curves c, add_assoc first (length d.samples) (sampled curves))

pub table_more : (curves : List Curve) (c : Curve) → profile_table (curves ++ c ∷ []) ≡ profile_table curves ++ profile_numbers (entry_of (sampled curves) c)
table_more curves c =
    let q : 0 + sampled curves ≡ sampled curves = omega arith in
    rw (profiles-more 0 curves c, q, flat-more profile_numbers (profiles_from 0 curves) (entry_of (sampled curves) c))

pub table-length : (curves : List Curve) → length (profile_table curves) ≡ length curves * profile_width
table-length curves = flat-length profile_numbers profile_width (λ p. refl) (profiles_from 0 curves) ∙ ap (λ n. n * profile_width) (profiles-length 0 curves)
