-- A document of constraints as a plain value: its lists in any order, each record with its keys in any order; which tables it means, and when it is
-- lawful (document 01, "constraints.json", "Sizes").
use Rattle.std.specs.Prelude.{ℕ, ◌+◌, ◌-◌, ◌≤◌, ◌≡◌, Bool, true, false, cond, ◌&&◌, ◌||◌, List, [], ◌∷◌, ◌++◌, map, leb, eqb, length, get_or, is_some, unwrap_or}
use Rattle.rules.specs.Limits.{most_id, most_seconds, most_constraints, most_subnets, most_tracks}
use Rattle.rules.specs.Lists.{any, every, flat}
use Rattle.rules.specs.Kinds.{headway, single_track, dwell, turnaround, connection, subnets, first_leg, second_leg, min_headway, min_dwell, min_turnaround, min_connection, max_connection, connection_type, subnet_id, track_ids, by_arrival, by_departure, no_type}
use Rattle.rules.specs.Constraints.{Document, document, is_low, row_of_leg}
use Rattle.rules.specs.Verdict.{All}
use Rattle.rules.specs.declared.sizes.Constraint.{Constraint}
use Rattle.rules.specs.declared.sizes.Track.{Track}
use Rattle.rules_theorems.specs.Lists.{Distinct}

-- ---- the value

-- a key with what it says: a number (a leg, an id, seconds), a connection type, a list of tracks
pub data Member : Type 0 where
  number : (key n : ℕ) → Member
  type : (type : ℕ) → Member
  track_list : (ids : List ℕ) → Member

-- a list, by its number, with its records
pub record Listed : Type 0 where
  pub list : ℕ
  pub records : List (List Member)

abbrev pub Value : Type 0
Value = List Listed

abbrev pub key_of : Member → ℕ
key_of (number key n) = key
key_of (type t) = connection_type
key_of (track_list ids) = track_ids

-- ---- the tables that it means

abbrev pub is_leg : ℕ → Bool
is_leg key = eqb key first_leg || eqb key second_leg

-- what a member puts into its constraint: of a leg the row
abbrev pub worth : (legs : List ℕ) → Member → ℕ
worth legs (number key n) = cond (is_leg key) (unwrap_or (row_of_leg legs n) 0) n
worth legs (type t) = t
worth legs (track_list ids) = 0

-- what a record says under the keys that pass a test; n where it says nothing
abbrev pub said : (legs : List ℕ) → (ℕ → Bool) → (n : ℕ) → List Member → ℕ
said legs p n [] = n
said legs p n (m ∷ ms) = said legs p (cond (p (key_of m)) (worth legs m) n) ms

abbrev pub constraint_of : (legs : List ℕ) (list : ℕ) → List Member → Constraint
constraint_of legs list ms =
    record {
      kind = list;
      first = said legs (λ key. eqb key first_leg) 0 ms;
      second = said legs (λ key. eqb key second_leg) 0 ms;
      low = said legs is_low 0 ms;
      high = said legs (λ key. eqb key max_connection) 0 ms;
      connection = said legs (λ key. eqb key connection_type) no_type ms;
    }

abbrev pub ids_of : Member → List ℕ
ids_of (number key n) = cond (eqb key subnet_id) (n ∷ []) []
ids_of (type t) = []
ids_of (track_list ids) = []

abbrev pub tracks_of : Member → List ℕ
tracks_of (number key n) = []
tracks_of (type t) = []
tracks_of (track_list ids) = ids

-- the tracks of subnets that are numbered from a place on
abbrev pub tracks_from : (place : ℕ) → List (List Member) → List Track
tracks_from place [] = []
tracks_from place (ms ∷ rest) = map (λ id. record { id = id; subnet = place }) (flat tracks_of ms) ++ tracks_from (place + 1) rest

-- the records of the five kinds, and those of the subnets, in file order
abbrev pub constraints_in : (legs : List ℕ) → Value → List Constraint
constraints_in legs v = flat (λ l. cond (eqb l.list subnets) [] (map (constraint_of legs l.list) l.records)) v

abbrev pub subnets_in : Value → List (List Member)
subnets_in v = flat (λ l. cond (eqb l.list subnets) l.records []) v

unfoldable pub document_of : (legs : List ℕ) → Value → Document
document_of legs v = document (constraints_in legs v) (tracks_from 0 (subnets_in v)) (length (subnets_in v)) (flat (flat ids_of) (subnets_in v))

-- ---- a lawful value

abbrev pub six_lists : List ℕ
six_lists = headway ∷ single_track ∷ dwell ∷ turnaround ∷ connection ∷ subnets ∷ []

-- THE TABLE: the keys that a record of a list must carry, list by list
abbrev pub key_table : List (List ℕ)
key_table =
    (first_leg ∷ second_leg ∷ min_headway ∷ [])
    ∷ (first_leg ∷ second_leg ∷ [])
    ∷ (first_leg ∷ second_leg ∷ min_dwell ∷ [])
    ∷ (first_leg ∷ second_leg ∷ min_turnaround ∷ [])
    ∷ (first_leg ∷ second_leg ∷ min_connection ∷ max_connection ∷ connection_type ∷ [])
    ∷ (subnet_id ∷ track_ids ∷ [])
    ∷ []

abbrev pub keys_in : (list : ℕ) → List ℕ
keys_in list = get_or key_table (list - 1) []

abbrev pub Among : List ℕ → ℕ → Type 0
Among l n = any (eqb n) l ≡ true

-- each of the wanted is given, once, and no other
pub record Once (wanted given : List ℕ) : Type 0 where
  pub known : All (Among wanted) given
  pub distinct : Distinct (λ n. n) given
  pub present : All (Among given) wanted

-- a type and a list of tracks are no numbers
abbrev pub no_number : ℕ → Bool
no_number key = eqb key connection_type || eqb key track_ids

-- a number is in its range, and a leg is a leg of the timetable
abbrev pub in_range : (legs : List ℕ) → Member → Bool
in_range legs (number key n) =
    cond (no_number key) false
    (cond (is_leg key) (leb n most_id && is_some (row_of_leg legs n))
    (cond (eqb key subnet_id) (leb n most_id)
    (leb n most_seconds)))
in_range legs (type t) = eqb t by_arrival || eqb t by_departure
in_range legs (track_list ids) = every (λ id. leb id most_id) ids

pub record LawfulRecord (legs : List ℕ) (list : ℕ) (ms : List Member) : Type 0 where
  pub keys : Once (keys_in list) (map key_of ms)
  pub values : All (λ m. in_range legs m ≡ true) ms

-- no limit is passed, the lent room is enough, and ids are distinct. constraints, tracks: how many records the room takes
pub record Fits (constraints tracks : ℕ) (d : Document) : Type 0 where
  pub few_constraints : length d.constraints ≤ most_constraints
  pub room_for_constraints : length d.constraints ≤ constraints
  pub few_subnets : d.opened ≤ most_subnets
  pub few_tracks : length d.tracks ≤ most_tracks
  pub room_for_tracks : length d.tracks ≤ tracks
  pub distinct_tracks : Distinct (λ t. t.id) d.tracks
  pub distinct_ids : Distinct (λ id. id) d.ids

pub record Lawful (legs : List ℕ) (constraints tracks : ℕ) (v : Value) : Type 0 where
  pub lists : Once six_lists (map (λ l. l.list) v)
  pub records : All (λ l. All (LawfulRecord legs l.list) l.records) v
  pub fits : Fits constraints tracks (document_of legs v)
