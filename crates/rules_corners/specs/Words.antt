-- The small definitions at their corners: numbers, decimals, pieces, entries, and what the constructors take. Assumes nothing.
use Rattle.std.specs.Prelude.{ℕ, ◌+◌, ◌-◌, ◌≡◌, refl, Bool, true, false, List, [], ◌∷◌, replicate, ℤ, pos, neg_ℤ, Option, Some, None}
use Prim.Native.String.{String}
use Rattle.rules.specs.Limits.{least_horizon, most_horizon, most_id, least_travel, most_travel, least_listed, most_listed, least_sampled, most_sampled, most_kw}
use Rattle.rules.specs.Bytes.{bytes, split_on, comma, whole_of, sample_of, spelled}
use Rattle.rules.specs.Timetable.{configuration, configuration_of, list_of}
use Rattle.rules.specs.Verdict.{All}
use Rattle.rules.specs.Computed.{computed}
use Rattle.rules.specs.Made.{horizon_made, configuration_made, leg_made, profile_made, sample_made}
use Rattle.rules.specs.declared.sizes.Configuration.{Configuration}
use Rattle.rules.specs.declared.sizes.Horizon.{Horizon}
use Rattle.rules.specs.declared.sizes.Leg.{Leg}
use Rattle.rules.specs.declared.sizes.Profile.{Profile}
use Rattle.rules.specs.declared.sizes.Sample.{Sample}

-- ---- THE TABLE

pub data Corner : Type 0 where
  whole : String → Option ℕ → Corner
  sample : String → Option ℤ → Corner
  writes : ℕ → String → Corner
  pieces : String → List (List ℕ) → Corner
  entry : String → Option Configuration → Corner
  entries : String → Option (List Configuration) → Corner
  horizon : ℕ → Option Horizon → Corner
  made : (departure travel profile H : ℕ) → Option Configuration → Corner
  leg : (ids : List ℕ) → (first count nominal : ℕ) → (within : Bool) → Corner
  profile : (id first count : ℕ) → Option Profile → Corner
  kilowatts : (minus : Bool) → ℕ → Option Sample → Corner

abbrev is_within : Option Leg → Bool
is_within None = false
is_within (Some l) = true

abbrev pub Right : Corner → Type 0
Right (whole s n) = whole_of (bytes s) ≡ n
Right (sample s z) = sample_of (bytes s) ≡ z
Right (writes n s) = spelled n ≡ bytes s
Right (pieces s ps) = split_on comma (bytes s) ≡ ps
Right (entry s c) = configuration_of (bytes s) ≡ c
Right (entries s cs) = list_of (bytes s) ≡ cs
Right (horizon h m) = horizon_made h ≡ m
Right (made d t p h m) = configuration_made d t p h ≡ m
Right (leg ids first count nominal b) = is_within (leg_made ids first count nominal) ≡ b
Right (profile id first count m) = profile_made id first count ≡ m
Right (kilowatts minus n m) = sample_made minus n ≡ m

abbrev ids : ℕ → List ℕ
ids n = replicate 5 n

abbrev past : ℕ
past = most_id + 1

abbrev pub words : List Corner
words =
    -- "one or more digits with no needless leading zero"
    whole "" None
    ∷ whole "0" (Some 0)
    ∷ whole "00" None
    ∷ whole "01" None
    ∷ whole "10" (Some 10)
    ∷ whole "9" (Some 9)
    ∷ whole "/" None
    ∷ whole ":" None
    ∷ whole "1a" None
    ∷ whole "-1" None
    ∷ whole "18446744073709551616" (Some 18_446_744_073_709_551_616)
    -- "an optional minus, a whole number, a point and one to three digits"
    ∷ sample "" None
    ∷ sample "-" None
    ∷ sample "." None
    ∷ sample "0." None
    ∷ sample ".0" None
    ∷ sample "0.0" (Some (pos 0))
    ∷ sample "-0.0" (Some (pos 0))
    ∷ sample "-0.001" (Some (neg_ℤ (pos 1)))
    ∷ sample "0.01" (Some (pos 10))
    ∷ sample "0.1" (Some (pos 100))
    ∷ sample "0.0001" None
    ∷ sample "01.0" None
    ∷ sample "1.00" (Some (pos 1_000))
    ∷ sample "--1.0" None
    ∷ sample "1-.0" None
    -- a number written
    ∷ writes 0 "0"
    ∷ writes 9 "9"
    ∷ writes 10 "10"
    ∷ writes 100 "100"
    ∷ writes past "1000000000"
    -- pieces: one more than there are separators
    ∷ pieces "" ([] ∷ [])
    ∷ pieces "," ([] ∷ [] ∷ [])
    ∷ pieces "a" (bytes "a" ∷ [])
    ∷ pieces ",a" ([] ∷ bytes "a" ∷ [])
    ∷ pieces "a," (bytes "a" ∷ [] ∷ [])
    -- `d_t_p`, and lists of one or more
    ∷ entry "0_0_0" (Some (configuration 0 0 0))
    ∷ entry "" None
    ∷ entry "__" None
    ∷ entry "1_2" None
    ∷ entry "1_2_3_" None
    ∷ entry "1_2_03" None
    ∷ entries "" None
    ∷ entries "1_2_3" (Some (configuration 1 2 3 ∷ []))
    ∷ entries "1_2_3 1_2_3" (Some (configuration 1 2 3 ∷ configuration 1 2 3 ∷ []))
    ∷ entries " 1_2_3" None
    ∷ entries "1_2_3 " None
    -- the constructors: H 1..176,400
    ∷ horizon (least_horizon - 1) None
    ∷ horizon least_horizon (Some (record { seconds = 1 }))
    ∷ horizon most_horizon (Some (record { seconds = most_horizon }))
    ∷ horizon (most_horizon + 1) None
    -- travel 1..3,600, departure plus travel at most H, a profile's id
    ∷ made 0 least_travel 0 1 (Some (configuration 0 1 0))
    ∷ made 0 (least_travel - 1) 0 1 None
    ∷ made 1 least_travel 0 1 None
    ∷ made 0 2 0 1 None
    ∷ made 1 most_travel most_id (most_travel + 1) (Some (configuration 1 most_travel most_id))
    ∷ made 2 most_travel most_id (most_travel + 1) None
    ∷ made 0 (most_travel + 1) 0 most_horizon None
    ∷ made 0 1 past 1 None
    -- five ids, 1..64 entries, the nominal among them
    ∷ leg (ids most_id) 0 least_listed 0 true
    ∷ leg (ids 0) 0 most_listed (most_listed - 1) true
    ∷ leg (ids 0) 0 most_listed most_listed false
    ∷ leg (ids 0) 0 (most_listed + 1) 0 false
    ∷ leg (ids 0) 0 (least_listed - 1) 0 false
    ∷ leg (ids 0) 0 least_listed 1 false
    ∷ leg (past ∷ 0 ∷ 0 ∷ 0 ∷ 0 ∷ []) 0 1 0 false
    ∷ leg (0 ∷ past ∷ 0 ∷ 0 ∷ 0 ∷ []) 0 1 0 false
    ∷ leg (0 ∷ 0 ∷ past ∷ 0 ∷ 0 ∷ []) 0 1 0 false
    ∷ leg (0 ∷ 0 ∷ 0 ∷ past ∷ 0 ∷ []) 0 1 0 false
    ∷ leg (0 ∷ 0 ∷ 0 ∷ 0 ∷ past ∷ []) 0 1 0 false
    -- 1..3,600 samples of a profile, within -20.000..20.000 MW
    ∷ profile most_id 0 least_sampled (Some (record { id = most_id; first = 0; count = 1 }))
    ∷ profile 0 0 most_sampled (Some (record { id = 0; first = 0; count = most_sampled }))
    ∷ profile 0 0 (most_sampled + 1) None
    ∷ profile 0 0 (least_sampled - 1) None
    ∷ profile past 0 1 None
    ∷ kilowatts false most_kw (Some (record { kw = pos most_kw }))
    ∷ kilowatts true most_kw (Some (record { kw = neg_ℤ (pos most_kw) }))
    ∷ kilowatts true 0 (Some (record { kw = pos 0 }))
    ∷ kilowatts false (most_kw + 1) None
    ∷ kilowatts true (most_kw + 1) None
    ∷ []

words_hold : All Right words
unfolding computed
words_hold = (refl, (refl, (refl, (refl, (refl, (refl, (refl, (refl, (refl, (refl, (refl, (refl, (refl, (refl, (refl, (refl, (refl, (refl, (refl, (refl, (refl, (refl, (refl, (refl, (refl, (refl, (refl, (refl, (refl, (refl, (refl, (refl, (refl, (refl, (refl, (refl, (refl, (refl, (refl, (refl, (refl, (refl, (refl, (refl, (refl, (refl, (refl, (refl, (refl, (refl, (refl, (refl, (refl, (refl, (refl, (refl, (refl, (refl, (refl, (refl, (refl, (refl, (refl, (refl, (refl, (refl, (refl, (refl, (refl, (refl, (refl, (refl, (refl, (refl, (refl, (refl, (refl, (refl, (refl, (refl, tt))))))))))))))))))))))))))))))))))))))))))))))))))))))))))))))))))))))))))))))))
