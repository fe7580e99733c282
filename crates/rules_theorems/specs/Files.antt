-- What is stated and the texts must be, to be read without refusal (document 01, "Refusal numbers": 1 to 16; document 02: 21).
use Rattle.std.specs.Prelude.{ℕ, ◌/◌, ◌≤◌, ◌≡◌, List, map, ◌⊎◌, length, Some}
use Rattle.rules.specs.Limits.{least_horizon, most_horizon, leg_width, configuration_width, profile_width, constraint_width, track_width}
use Rattle.rules.specs.Answers.{good}
use Rattle.rules.specs.Kinds.{table_edition, example_edition}
use Rattle.rules.specs.Timetable.{Row, ids_of, draft_fits, solution_fits, choices_of}
use Rattle.rules.specs.Profiles.{Curve, curve_of}
use Rattle.rules.specs.Constraints.{Document, constraints_of, subnet_of}
use Rattle.rules.specs.Stated.{rules_by}
use Rattle.rules.specs.Reading.{Rooms, Texts, Files, leg_ids}
use Rattle.rules.specs.Verdict.{All}
use Rattle.rules.specs.declared.stated.Stated.{Stated}
use Rattle.rules.specs.declared.sizes.Configuration.{Configuration}
use Rattle.rules.specs.declared.sizes.Track.{Track}
use Rattle.rules_theorems.specs.WellFormed.{Written, WrittenCurves}

-- not 12, not 13: the profile exists, and its sample count is t
pub record HasProfile (curves : List Curve) (c : Configuration) : Type 0 where
  pub curve : Curve
  pub exists : curve_of curves c.profile ≡ Some curve
  pub counted : length curve.samples ≡ c.travel

-- not 15: the leg's track is in a subnet
pub record HasSubnet (tracks : List Track) (r : Row) : Type 0 where
  pub subnet : ℕ
  pub inside : subnet_of tracks r.track ≡ Some subnet

-- not 21
abbrev pub KnownEdition : ℕ → Type 0
KnownEdition e = (e ≡ table_edition) ⊎ (e ≡ example_edition)

-- when a text of constraints.json says a document, by what is stated, by leg ids and by how many records the room takes
abbrev pub Saying : Type 1
Saying = Stated → (legs : List ℕ) (constraints tracks : ℕ) → List ℕ → Document → Type 0

-- as the automaton reads it
abbrev pub ByAutomaton : Saying
ByAutomaton S legs constraints tracks s d = constraints_of legs constraints tracks (rules_by S) s ≡ good d

-- H in range and the edition known; texts that write lawful rows, profiles and constraints that have room; and no row at fault
pub record GoodFiles (Says : Saying) (S : Stated) (x : Texts) (room : Rooms) (files : Files) : Type 0 where
  pub horizon : (least_horizon ≤ S.horizon) × (S.horizon ≤ most_horizon)
  pub edition : KnownEdition S.edition
  pub timetable : Written S.horizon (draft_fits (room.legs / leg_width) (room.configurations / configuration_width)) x.timetable files.rows
  pub profiles : WrittenCurves (room.profiles / profile_width) room.samples x.profiles files.curves
  pub powered : All (λ r. All (HasProfile files.curves) r.list) files.rows
  pub constraints : Says S (leg_ids files.rows) (room.constraints / constraint_width) (room.tracks / track_width) x.constraints files.document
  pub placed : All (HasSubnet files.document.tracks) files.rows

-- a solution: lawful rows that have room; not 14, their first five columns are the draft's, row by row; and their nominal column is the choices
pub record GoodChoices (H : ℕ) (files : Files) (room : ℕ) (text : List ℕ) (s : List Configuration) : Type 0 where
  pub rows : List Row
  pub solution : Written H (solution_fits (room / configuration_width)) text rows
  pub columns : map ids_of rows ≡ map ids_of files.rows
  pub choices : choices_of rows ≡ s
