-- The tables as the definitions of document 01 ("Energy") take them: a profile's samples by its id, each row's subnet.
use Rattle.std.specs.Prelude.{ℕ, List, eqb, take, drop, ℤ, Option, Some, None}
use Rattle.rules.specs.Lists.{first}
use Rattle.rules.specs.Constraints.{subnet_of}
use Rattle.rules.specs.Energy.{tabulate}
use Rattle.rules.specs.declared.sizes.Profile.{Profile}
use Rattle.tables_views.specs.View.{leg_at, profiles_in, tracks_in}

-- one of no samples where there is none
abbrev pub profile_or : Option Profile → Profile
profile_or None = record { id = 0; first = 0; count = 0 }
profile_or (Some p) = p

-- the profile with an id, among n
unfoldable pub profile_seen : (n : ℕ) → List ℕ → (id : ℕ) → Profile
profile_seen n profiles id = profile_or (first (λ p. eqb p.id id) (profiles_in n profiles))

-- its part of the samples
abbrev pub part_seen : List ℤ → Profile → List ℤ
part_seen samples p = take p.count (drop p.first samples)

unfoldable pub samples_seen : (n : ℕ) → (profiles : List ℕ) → (samples : List ℤ) → (id : ℕ) → List ℤ
samples_seen n profiles samples id = part_seen samples (profile_seen n profiles id)

-- the subnet of row i, and of n rows; m tracks
abbrev pub home_seen : (m : ℕ) → (legs tracks : List ℕ) → (i : ℕ) → Option ℕ
home_seen m legs tracks i = subnet_of (tracks_in m tracks) (leg_at legs i).track

unfoldable pub homes_seen : (n m : ℕ) → (legs tracks : List ℕ) → List (Option ℕ)
homes_seen n m legs tracks = tabulate n (home_seen m legs tracks)

-- a subnet that was looked for
abbrev pub home_in : Option ℕ → Option ℕ
home_in None = None
home_in (Some u) = Some u
