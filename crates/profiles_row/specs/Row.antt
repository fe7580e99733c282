-- What the rows before the open one and the open one say of the lent tables; a sample that is closed, and a row that ends.
use Rattle.std.specs.Prelude.{ℕ, suc, ◌+◌, ◌*◌, ◌/◌, ◌≤◌, ◌<◌, min, ◌≡◌, Bool, false, not, cond, ◌&&◌, List, [], ◌∷◌, ◌++◌, leb, eqb, length, take, ℤ, nat_abs, Option, Some, None}
use Rattle.std.proofs.lemmas.List.Edits.{sets}
use Rattle.rules.specs.Limits.{most_id, most_kw, profile_width}
use Rattle.rules.specs.Lists.{every, flat, over}
use Rattle.rules.specs.Answers.{Judged, wrong, right}
use Rattle.rules.specs.Made.{signed}
use Rattle.rules.specs.Profiles.{judge_form, Curve, sampled, profiles_from, profile_numbers, sample_table}
use Rattle.tables_ids.specs.Column.{curve_ids_of, Ascending, Last}
use Rattle.profiles_row.specs.declared.row.Past.{Past}
use Rattle.profiles_row.specs.declared.row.Rise.{Rise}
use Rattle.profiles_row.specs.declared.row.Listed.{Listed}
use Rattle.profiles_row.specs.declared.sample.Tail.{Tail}
use Rattle.profiles_row.specs.Sample.{most_digits, kw_of}
use Rattle.profiles_row.specs.Near.{cap}
use Rattle.rules.specs.declared.sizes.Profile.{Profile}

abbrev pub curve : (id : ℕ) → List ℤ → Curve
curve id samples = record { id = id; samples = samples }

abbrev pub profile_table : List Curve → List ℕ
profile_table curves = flat profile_numbers (profiles_from 0 curves)

abbrev pub in_range : ℕ → List ℤ → Bool
in_range id samples = leb id most_id && every (λ x. leb (nat_abs x) most_kw) samples

-- how many ids rise from the first on, and the last of these
pub record Climb (rising last : ℕ) (ids : List ℕ) : Type 0 where
  pub within : rising ≤ length ids
  pub ascending : Ascending (take rising ids)
  pub top : Last (take rising ids) last

-- one id more
abbrev pub Climbs : Past → ℕ → Rise → Type 0
Climbs past id r = (ids : List ℕ) → length ids ≡ past.profiles → Climb past.rising past.last ids → Climb r.rising r.last (ids ++ id ∷ [])

-- the digits past a sample's point
pub record Digits (t : Tail) (n count value : ℕ) : Type 0 where
  pub same_whole : t.whole ≡ min n cap
  pub counted : t.digits ≡ count
  pub same_value : t.value ≡ min value cap
  pub few : count ≤ most_digits

-- the tables as they were lent
module _ (profiles₀ : List ℕ) (samples₀ : List ℤ) where
  -- the rows before the open one
  pub record Closed (past : Past) (profiles : List ℕ) (before : List Curve) : Type 0 where
    pub counted : past.profiles ≡ length before
    pub summed : past.samples ≡ sampled before
    pub room : length before ≤ length profiles₀ / profile_width
    pub samples_room : sampled before ≤ length samples₀
    pub entered : profiles ≡ over (profile_table before) profiles₀
    pub climb : Climb past.rising past.last (curve_ids_of before)

  -- the open row past its id: its samples stand in the table as long as they are in range and fit
  pub record Going (past : Past) (l : Listed) (next : ℕ) (samples : List ℤ) (before : List Curve) (id : ℕ) (done : List ℤ) : Type 0 where
    pub under_way : past.place < next
    pub few : length done < next
    pub same_id : l.id ≡ min id cap
    pub counted : l.count ≡ length done
    pub wide : l.wide ≡ not (in_range id done)
    pub long : length samples ≡ length samples₀
    pub entered : l.wide ≡ false → sampled before + length done ≤ length samples₀ → samples ≡ over (sample_table before ++ done) samples₀

-- ---- a sample is closed

abbrev pub Closes : Past → Listed → Tail → List ℤ → Listed → List ℤ → Type 0
Closes past l t samples l' samples' =
    (profiles₀ : List ℕ) (samples₀ : List ℤ) (next : ℕ) (before : List Curve) (id : ℕ) (done : List ℤ) (n count value : ℕ)
    → past.samples ≡ sampled before → 1 ≤ count → Going profiles₀ samples₀ past l next samples before id done → Digits t n count value
    → Going profiles₀ samples₀ past l' (suc next) samples' before id (done ++ signed t.negative (kw_of n count value) ∷ [])

pub record ClosesTo (past : Past) (l : Listed) (t : Tail) (samples : List ℤ) (l' : Listed) (samples' : List ℤ) : Type 0 where
  pub counted : l'.count ≡ l.count + 1
  pub closes : Closes past l t samples l' samples'

-- ---- a row that ends

-- the number of the row's first fault, or 0
abbrev pub fault_or : ℕ → Curve → Judged Curve
fault_or n c = cond (eqb n 0) (right c) (wrong n)

-- what stands behind a row that ends, in samples of so much room
pub record Ending (past : Past) (l : Listed) (profiles : List ℕ) (room : ℕ) : Type 0 where
  pub profiles₀ : List ℕ
  pub samples₀ : List ℤ
  pub next : ℕ
  pub samples : List ℤ
  pub before : List Curve
  pub id : ℕ
  pub done : List ℤ
  pub lent : room ≡ length samples₀
  pub closed : Closed profiles₀ samples₀ past profiles before
  pub going : Going profiles₀ samples₀ past l next samples before id done
  pub some_closed : 1 ≤ l.count

-- what the constructor made, at its place
abbrev pub entered_made : Option Profile → (n : ℕ) → List ℕ → List ℕ
entered_made (Some p) n profiles = sets profiles (n * profile_width) (profile_numbers p)
entered_made None n profiles = profiles

-- the first fault of a row that ends
abbrev pub Faults : Past → Listed → List ℕ → (room : ℕ) → ℕ → Type 0
Faults past l profiles room r =
    (profiles₀ : List ℕ) (samples₀ : List ℤ) (next : ℕ) (samples : List ℤ) (before : List Curve) (id : ℕ) (done : List ℤ)
    → room ≡ length samples₀ → Closed profiles₀ samples₀ past profiles before → Going profiles₀ samples₀ past l next samples before id done
    → judge_form (length profiles₀ / profile_width) (length samples₀) before (Some (curve id done)) ≡ fault_or r (curve id done)
