-- What the rows of a timetable and the profiles keep, and which texts write them; the rows that tables say, and tables that are those of lawful rows.
use Rattle.std.specs.Prelude.{ℕ, ◌+◌, ◌≤◌, ◌≡◌, Bool, true, List, [], ◌∷◌, ◌++◌, map, T, length, get_or, take, drop, nat_abs, Some}
use Rattle.rules.specs.Limits.{most_text, most_id, least_travel, most_travel, least_listed, most_listed, least_sampled, most_sampled, most_kw}
use Rattle.rules.specs.Answers.{Test}
use Rattle.rules.specs.Lists.{flat}
use Rattle.rules.specs.Bytes.{line_feed, space, joined, less_return, contents_of, spelled}
use Rattle.rules.specs.Timetable.{Row, row, timetable_names, ids_of, offers, row_tests, draft_fits, solution_fits, legs_of, configurations_of}
use Rattle.rules.specs.Profiles.{Curve, profiles_names, row_tests as curve_tests}
use Rattle.rules.specs.Verdict.{All, no_choice}
use Rattle.rules.specs.Merge.{spelled_configuration}
use Rattle.rules.specs.declared.sizes.Configuration.{Configuration}
use Rattle.rules.specs.declared.sizes.Leg.{Leg}
use Rattle.rules_theorems.specs.Lists.{EachAfter, Along}
use Rattle.rules_theorems.specs.Samples.{Sample}

abbrev pub Passed : List Test → Type 0
Passed tests = All (λ t. T t.holds) tests

-- ---- a CSV text, by the contents of its lines

-- a line, less its CR, whose fields' contents say what a row is
pub record Tells {A : Type 0} (Says : List (List ℕ) → A → Type 0) (line : List ℕ) (r : A) : Type 0 where
  pub fields : List (List ℕ)
  pub contents : contents_of (less_return line) ≡ Some fields
  pub says : Says fields r

-- a text whose first line holds the names, and whose further lines tell the rows, in quotes or not, with a CR or not; each line has its LF
pub record Spelled {A : Type 0} (names : List (List ℕ)) (Says : List (List ℕ) → A → Type 0) (s : List ℕ) (rows : List A) : Type 0 where
  pub first : List ℕ
  pub lines : List (List ℕ)
  pub text : s ≡ flat (λ line. line ++ line_feed ∷ []) (first ∷ lines)
  pub free : All (All (λ b. b ≡ line_feed → ⊥)) (first ∷ lines)
  pub named : contents_of (less_return first) ≡ Some names
  pub told : Along (Tells Says) lines rows

-- ---- rows of a timetable

-- room for every row
abbrev pub any_room : List Row → Row → Bool
any_room before r = true

-- every row passes its tests after the rows before it, room aside
abbrev pub Lawful : (H : ℕ) → List Row → Type 0
Lawful H = EachAfter (λ before r. Passed (row_tests H any_room before r)) []

-- document 01's range of a configuration
pub record InRange (H : ℕ) (c : Configuration) : Type 0 where
  pub travel_least : least_travel ≤ c.travel
  pub travel_most : c.travel ≤ most_travel
  pub ends : c.departure + c.travel ≤ H
  pub profile_id : c.profile ≤ most_id

-- what a lawful row keeps by itself
pub record KeptRow (H : ℕ) (r : Row) : Type 0 where
  pub ids : All (λ id. id ≤ most_id) (ids_of r)
  pub nominal_in : InRange H r.nominal
  pub list_in : All (InRange H) r.list
  pub least : least_listed ≤ length r.list
  pub most : length r.list ≤ most_listed
  pub nominal_listed : T (offers r.list r.nominal)

-- every row has room after the rows before it
abbrev pub FittingBy : (List Row → Row → Bool) → List Row → Type 0
FittingBy fits = EachAfter (λ before r. T (fits before r)) []

abbrev pub Fitting : (legs configurations : ℕ) → List Row → Type 0
Fitting legs configurations = FittingBy (draft_fits legs configurations)

abbrev pub FittingChoices : (choices : ℕ) → List Row → Type 0
FittingChoices choices = FittingBy (solution_fits choices)

-- the contents of a row's fields, as they are spelled
abbrev pub fields_of : Row → List (List ℕ)
fields_of r =
    spelled r.leg
    ∷ spelled r.train
    ∷ spelled r.track
    ∷ spelled r.start
    ∷ spelled r.end
    ∷ spelled_configuration r.nominal
    ∷ joined space (map spelled_configuration r.list)
    ∷ []

-- a row of the timetable has one spelling of its contents
abbrev pub RowFields : (fields : List (List ℕ)) → Row → Type 0
RowFields fields r = fields ≡ fields_of r

-- rows that are lawful and have room, and a text that spells them
pub record Written (H : ℕ) (fits : List Row → Row → Bool) (s : List ℕ) (rows : List Row) : Type 0 where
  pub lawful : Lawful H rows
  pub fitting : FittingBy fits rows
  pub spells : Spelled timetable_names RowFields s rows
  pub short : length s ≤ most_text

-- ---- profiles

-- every profile passes its tests after those before it, and has a sample
abbrev pub LawfulCurves : (profiles samples : ℕ) → List Curve → Type 0
LawfulCurves profiles samples =
    EachAfter (λ before c. Passed (curve_tests profiles samples before c) × (least_sampled ≤ length c.samples)) []

-- what a lawful profile keeps by itself
pub record KeptCurve (c : Curve) : Type 0 where
  pub id_most : c.id ≤ most_id
  pub sizes : All (λ x. nat_abs x ≤ most_kw) c.samples
  pub least : least_sampled ≤ length c.samples
  pub most : length c.samples ≤ most_sampled

-- "A list has one or more entries, one space between": a profile's id, and words that are its samples
pub record CurveFields (fields : List (List ℕ)) (c : Curve) : Type 0 where
  pub words : List (List ℕ)
  pub are : fields ≡ spelled c.id ∷ joined space words ∷ []
  pub samples : Along Sample words c.samples

-- profiles that are lawful and have room, and a text that spells them
pub record WrittenCurves (profiles samples : ℕ) (s : List ℕ) (curves : List Curve) : Type 0 where
  pub lawful : LawfulCurves profiles samples curves
  pub spells : Spelled profiles_names CurveFields s curves
  pub short : length s ≤ most_text

-- ---- tables

-- a leg's configurations
abbrev pub list_of_leg : List Configuration → Leg → List Configuration
list_of_leg configurations l = take l.count (drop l.first configurations)

abbrev pub row_of_leg : List Configuration → Leg → Row
row_of_leg configurations l =
    row l.id l.train l.track l.start l.end (get_or (list_of_leg configurations l) l.nominal no_choice) (list_of_leg configurations l)

-- the rows that tables say
abbrev pub rows_of : List Leg → List Configuration → List Row
rows_of legs configurations = map (row_of_leg configurations) legs

-- tables that are those of lawful rows
pub record WellFormed (H : ℕ) (legs : List Leg) (configurations : List Configuration) : Type 0 where
  pub lawful : Lawful H (rows_of legs configurations)
  pub legs_are : legs_of (rows_of legs configurations) ≡ legs
  pub configurations_are : configurations_of (rows_of legs configurations) ≡ configurations
