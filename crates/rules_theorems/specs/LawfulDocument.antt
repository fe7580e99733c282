-- What holds of every reading of constraints.json: of the document, or of the refusal (document 01, "Sizes", "The tables", "Refusal numbers").
use Rattle.std.specs.Prelude.{ℕ, ◌≤◌, ◌<◌, ◌≡◌, Bool, true, List, [], ◌∷◌, ◌⊎◌, eqb, length}
use Rattle.rules.specs.Limits.{most_id, most_seconds, most_constraints, most_subnets, most_tracks}
use Rattle.rules.specs.Lists.{any}
use Rattle.rules.specs.Answers.{too_long, out_of_range, too_many, already_seen, bad_json, unknown_name, repeated_or_missing, not_there, no_room, constraints_file}
use Rattle.rules.specs.Kinds.{headway, single_track, connection, by_arrival, by_departure, no_type}
use Rattle.rules.specs.Constraints.{Document}
use Rattle.rules.specs.Verdict.{All}
use Rattle.rules.specs.declared.answers.Refusal.{Refusal}
use Rattle.rules.specs.declared.sizes.Constraint.{Constraint}
use Rattle.rules.specs.declared.sizes.Track.{Track}
use Rattle.rules_theorems.specs.Lists.{Distinct}

-- ---- a constraint, a track, a document

-- its legs are rows of the timetable; what its kind does not carry is 0
pub record LawfulConstraint (legs : List ℕ) (c : Constraint) : Type 0 where
  pub from_first_kind : headway ≤ c.kind
  pub to_last_kind : c.kind ≤ connection
  pub first_is_row : c.first < length legs
  pub second_is_row : c.second < length legs
  pub low_in_range : c.low ≤ most_seconds
  pub high_in_range : c.high ≤ most_seconds
  pub no_low : c.kind ≡ single_track → c.low ≡ 0
  pub no_high : (c.kind ≡ connection → ⊥) → c.high ≡ 0
  pub a_type : c.kind ≡ connection → (c.connection ≡ by_arrival) ⊎ (c.connection ≡ by_departure)
  pub no_type_lem : (c.kind ≡ connection → ⊥) → c.connection ≡ no_type

-- its id is in range, and its subnet is one of those that were opened
pub record LawfulTrack (opened : ℕ) (t : Track) : Type 0 where
  pub id_in_range : t.id ≤ most_id
  pub subnet_is_there : t.subnet < opened

-- room: how many records the lent table takes
pub record LawfulConstraints (legs : List ℕ) (room : ℕ) (cs : List Constraint) : Type 0 where
  pub each : All (LawfulConstraint legs) cs
  pub in_limit : length cs ≤ most_constraints
  pub in_room : length cs ≤ room

pub record LawfulTracks (opened room : ℕ) (ts : List Track) : Type 0 where
  pub each : All (LawfulTrack opened) ts
  pub distinct : Distinct (λ t. t.id) ts
  pub in_limit : length ts ≤ most_tracks
  pub in_room : length ts ≤ room

pub record LawfulIds (ids : List ℕ) : Type 0 where
  pub each : All (λ id. id ≤ most_id) ids
  pub distinct : Distinct (λ id. id) ids

-- constraints, tracks: the room lent for each
pub record LawfulTables (legs : List ℕ) (constraints tracks : ℕ) (d : Document) : Type 0 where
  pub constraints_lawful : LawfulConstraints legs constraints d.constraints
  pub tracks_lawful : LawfulTracks d.opened tracks d.tracks
  pub ids_lawful : LawfulIds d.ids
  pub subnets_in_limit : d.opened ≤ most_subnets

-- and each subnet that was opened has its id
pub record LawfulDocument (legs : List ℕ) (constraints tracks : ℕ) (d : Document) : Type 0 where
  pub tables : LawfulTables legs constraints tracks d
  pub an_id_each : length d.ids ≡ d.opened

-- ---- a refusal

-- the numbers that constraints.json can be refused with
abbrev pub fault_numbers : List ℕ
fault_numbers =
    too_long ∷ out_of_range ∷ too_many ∷ already_seen ∷ bad_json ∷ unknown_name ∷ repeated_or_missing ∷ not_there ∷ no_room ∷ []

abbrev pub is_fault : ℕ → Bool
is_fault number = any (eqb number) fault_numbers

-- of a text of n bytes: one of those numbers, at a place within the text or at its end
pub record LawfulRefusal (n : ℕ) (r : Refusal) : Type 0 where
  pub of_file : r.file ≡ constraints_file
  pub at_place : r.place ≤ n
  pub by_number : is_fault r.number ≡ true
