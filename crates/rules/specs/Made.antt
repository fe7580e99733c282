-- What the constructors of the horizon, configuration, leg, profile and sample types answer: they give the value where it is within the limits.
use Rattle.std.specs.Prelude.{ℕ, ◌-◌, Bool, true, false, cond, List, leb, ltb, get_or, ℤ, pos, neg_ℤ, Option, Some, None}
use Rattle.rules.specs.Limits.{least_horizon, most_horizon, most_id, least_travel, most_travel, least_listed, most_listed, least_sampled, most_sampled, most_kw}
use Rattle.rules.specs.declared.sizes.Horizon.{Horizon}
use Rattle.rules.specs.declared.sizes.Configuration.{Configuration}
use Rattle.rules.specs.declared.sizes.Leg.{Leg}
use Rattle.rules.specs.declared.sizes.Profile.{Profile}
use Rattle.rules.specs.declared.sizes.Sample.{Sample}

abbrev pub horizon_made : ℕ → Option Horizon
horizon_made h = cond (ltb h least_horizon) None (cond (ltb most_horizon h) None (Some (record { seconds = h })))

abbrev pub configuration_made : (departure travel profile h : ℕ) → Option Configuration
configuration_made d t p h =
    cond (ltb t least_travel) None
    (cond (ltb most_travel t) None
    (cond (ltb h t) None
    (cond (ltb (h - t) d) None
    (cond (ltb most_id p) None
    (Some (record { departure = d; travel = t; profile = p }))))))

abbrev pub leg_made : List ℕ → (first count nominal : ℕ) → Option Leg
leg_made ids first count nominal =
    cond (ltb most_id (get_or ids 0 0)) None
    (cond (ltb most_id (get_or ids 1 0)) None
    (cond (ltb most_id (get_or ids 2 0)) None
    (cond (ltb most_id (get_or ids 3 0)) None
    (cond (ltb most_id (get_or ids 4 0)) None
    (cond (ltb count least_listed) None
    (cond (ltb most_listed count) None
    (cond (leb count nominal) None
    (Some
    (record {
      id = get_or ids 0 0;
      train = get_or ids 1 0;
      track = get_or ids 2 0;
      start = get_or ids 3 0;
      end = get_or ids 4 0;
      first = first;
      count = count;
      nominal = nominal;
    })))))))))

abbrev pub profile_made : (id first count : ℕ) → Option Profile
profile_made id first count =
    cond (ltb most_id id) None
    (cond (ltb count least_sampled) None
    (cond (ltb most_sampled count) None
    (Some (record { id = id; first = first; count = count }))))

abbrev pub signed : Bool → ℕ → ℤ
signed true n = neg_ℤ (pos n)
signed false n = pos n

abbrev pub sample_made : Bool → ℕ → Option Sample
sample_made minus kw = cond (ltb most_kw kw) None (Some (record { kw = signed minus kw }))
