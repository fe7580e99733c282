-- How profiles.csv is read (document 01), and what is then asked of the timetable's rows: that each profile is there (12), with a sample for each second of travel (13).
use Rattle.std.specs.Prelude.{ℕ, ◌+◌, Bool, true, not, cond, ◌&&◌, List, [], ◌∷◌, leb, ltb, eqb, length, ℤ, nat_abs, is_some, Option, Some, None}
use Rattle.rules.specs.Limits.{most_id, most_kw, most_profiles, most_sampled, most_samples}
use Rattle.rules.specs.Lists.{◌>>=◌, each, every, any, first, sum_of, flat}
use Rattle.rules.specs.Answers.{Judged, wrong, judge, Test, ◌needs◌, Reading, bad_row, out_of_range, too_many, already_seen, not_there, wrong_samples, no_room, profiles_file}
use Rattle.rules.specs.Bytes.{bytes, whole_of, sample_of, split_on, contents_of, space}
use Rattle.rules.specs.Rows.{header_of, csv_of}
use Rattle.rules.specs.Timetable.{Row}
use Rattle.rules.specs.declared.sizes.Profile.{Profile}

abbrev pub profiles_names : List (List ℕ)
profiles_names = bytes "profile_id" ∷ bytes "power_consumptions" ∷ []

-- as it is written
abbrev pub profiles_header : List ℕ
profiles_header = header_of profiles_names

-- a profile's id and its samples, in kW
pub record Curve : Type 0 where
  pub id : ℕ
  pub samples : List ℤ

abbrev pub samples_of : List ℕ → Option (List ℤ)
samples_of s = each sample_of (split_on space s)

abbrev pub two_of : List (List ℕ) → Option Curve
two_of [] = None
two_of (i ∷ []) = None
two_of (i ∷ l ∷ []) = do
  id ← whole_of i
  samples ← samples_of l
  Some (record { id = id; samples = samples })
two_of (i ∷ l ∷ x ∷ more) = None

abbrev pub form_of : List ℕ → Option Curve
form_of line = contents_of line >>= two_of

-- how many samples profiles have
abbrev pub sampled : List Curve → ℕ
sampled curves = sum_of (λ c. length c.samples) curves

-- the lent room, in profiles and in samples
module _ (profiles samples : ℕ) where
  abbrev pub row_tests : List Curve → Curve → List Test
  row_tests before c =
      out_of_range needs (leb c.id most_id && every (λ x. leb (nat_abs x) most_kw) c.samples)
      ∷ too_many needs (ltb (length before) most_profiles && (leb (length c.samples) most_sampled && leb (sampled before + length c.samples) most_samples))
      ∷ already_seen needs not (any (λ b. eqb b.id c.id) before)
      ∷ no_room needs (ltb (length before) profiles && leb (sampled before + length c.samples) samples)
      ∷ []

  abbrev pub judge_form : List Curve → Option Curve → Judged Curve
  judge_form before None = wrong bad_row
  judge_form before (Some c) = judge (row_tests before c) c

  abbrev pub row_of : List Curve → List ℕ → Judged Curve
  row_of before line = judge_form before (form_of line)

  unfoldable pub profiles_of : List ℕ → Reading (List Curve)
  profiles_of = csv_of profiles_file row_of profiles_names

-- ---- 12 and 13, over a row of the timetable: every entry of its list counts, 12 before 13

abbrev pub curve_of : List Curve → ℕ → Option Curve
curve_of curves id = first (λ c. eqb c.id id) curves

-- the profile, where there is one, has a sample for each second of travel
abbrev pub lasts : ℕ → Option Curve → Bool
lasts t None = true
lasts t (Some c) = eqb (length c.samples) t

abbrev pub profile_fault : List Curve → Row → Option ℕ
profile_fault curves r =
    cond (every (λ c. is_some (curve_of curves c.profile)) r.list)
    (cond (every (λ c. lasts c.travel (curve_of curves c.profile)) r.list) None (Some wrong_samples))
    (Some not_there)

-- ---- the tables

abbrev pub profiles_from : ℕ → List Curve → List Profile
profiles_from n [] = []
profiles_from n (c ∷ curves) = record { id = c.id; first = n; count = length c.samples } ∷ profiles_from (n + length c.samples) curves

-- the samples of all profiles, in file order
abbrev pub sample_table : List Curve → List ℤ
sample_table curves = flat (λ (c : Curve). c.samples) curves

abbrev pub profile_numbers : Profile → List ℕ
profile_numbers p = p.id ∷ p.first ∷ p.count ∷ []
