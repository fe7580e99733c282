-- How timetable.csv is read, and a solution, which is again such a file (document 01, "The CSV rows"); and how its rows stand in the tables ("The tables").
use Rattle.std.specs.Prelude.{ℕ, ◌+◌, Bool, not, ◌&&◌, List, [], ◌∷◌, map, leb, ltb, eqb, length, Option, Some, None, unwrap_or}
use Rattle.rules.specs.Limits.{most_id, least_travel, most_travel, most_listed, most_legs, most_configurations}
use Rattle.rules.specs.Lists.{◌>>=◌, each, every, any, first_place, sum_of, flat}
use Rattle.rules.specs.Answers.{Judged, wrong, judge, Test, ◌needs◌, Reading, bad_row, out_of_range, too_many, already_seen, nominal_not_listed, no_room, timetable_file}
use Rattle.rules.specs.Bytes.{bytes, whole_of, split_on, contents_of, space, underscore}
use Rattle.rules.specs.Rows.{header_of, csv_of}
use Rattle.rules.specs.declared.sizes.Configuration.{Configuration}
use Rattle.rules.specs.declared.sizes.Leg.{Leg}

abbrev pub timetable_names : List (List ℕ)
timetable_names =
    bytes "leg_id"
    ∷ bytes "train_id"
    ∷ bytes "track_id"
    ∷ bytes "start_station_id"
    ∷ bytes "end_station_id"
    ∷ bytes "nominal_departure_configuration"
    ∷ bytes "departure_configurations"
    ∷ []

-- as it is written
abbrev pub timetable_header : List ℕ
timetable_header = header_of timetable_names

-- ---- the form of a row

-- `d_t_p`: departure, travel time, profile id
abbrev pub configuration : (departure travel profile : ℕ) → Configuration
configuration d t p = record { departure = d; travel = t; profile = p }

abbrev pub three_of : List (List ℕ) → Option Configuration
three_of [] = None
three_of (d ∷ []) = None
three_of (d ∷ t ∷ []) = None
three_of (d ∷ t ∷ p ∷ []) = do
  departure ← whole_of d
  travel ← whole_of t
  profile ← whole_of p
  Some (configuration departure travel profile)
three_of (d ∷ t ∷ p ∷ x ∷ more) = None

abbrev pub configuration_of : List ℕ → Option Configuration
configuration_of s = three_of (split_on underscore s)

-- one or more, one space between
abbrev pub list_of : List ℕ → Option (List Configuration)
list_of s = each configuration_of (split_on space s)

pub record Row : Type 0 where
  pub leg : ℕ
  pub train : ℕ
  pub track : ℕ
  pub start : ℕ
  pub end : ℕ
  pub nominal : Configuration
  pub list : List Configuration

abbrev pub row : (leg train track start end : ℕ) → Configuration → List Configuration → Row
row a b c d e n l = record { leg = a; train = b; track = c; start = d; end = e; nominal = n; list = l }

abbrev pub seven_of : List (List ℕ) → Option Row
seven_of [] = None
seven_of (a ∷ []) = None
seven_of (a ∷ b ∷ []) = None
seven_of (a ∷ b ∷ c ∷ []) = None
seven_of (a ∷ b ∷ c ∷ d ∷ []) = None
seven_of (a ∷ b ∷ c ∷ d ∷ e ∷ []) = None
seven_of (a ∷ b ∷ c ∷ d ∷ e ∷ n ∷ []) = None
seven_of (a ∷ b ∷ c ∷ d ∷ e ∷ n ∷ l ∷ []) = do
  leg ← whole_of a
  train ← whole_of b
  track ← whole_of c
  start ← whole_of d
  end ← whole_of e
  nominal ← configuration_of n
  list ← list_of l
  Some (row leg train track start end nominal list)
seven_of (a ∷ b ∷ c ∷ d ∷ e ∷ n ∷ l ∷ x ∷ more) = None

abbrev pub form_of : List ℕ → Option Row
form_of line = contents_of line >>= seven_of

-- ---- what a row of good form must keep

-- travel 1..3,600, departure plus travel at most H, an id
abbrev pub in_range : ℕ → Configuration → Bool
in_range H c =
    leb least_travel c.travel && (leb c.travel most_travel && (leb (c.departure + c.travel) H && leb c.profile most_id))

abbrev pub ids_of : Row → List ℕ
ids_of r = r.leg ∷ r.train ∷ r.track ∷ r.start ∷ r.end ∷ []

abbrev pub same : Configuration → Configuration → Bool
same a b = eqb a.departure b.departure && (eqb a.travel b.travel && eqb a.profile b.profile)

abbrev pub offers : List Configuration → Configuration → Bool
offers list c = any (same c) list

-- how many configurations rows have
abbrev pub listed : List Row → ℕ
listed rows = sum_of (λ r. length r.list) rows

-- fits says whether the lent room takes a row after those before it
module _ (H : ℕ) (fits : List Row → Row → Bool) where
  abbrev pub row_tests : List Row → Row → List Test
  row_tests before r =
      out_of_range needs (every (λ id. leb id most_id) (ids_of r) && (in_range H r.nominal && every (in_range H) r.list))
      ∷ too_many needs (ltb (length before) most_legs && (leb (length r.list) most_listed && leb (listed before + length r.list) most_configurations))
      ∷ already_seen needs not (any (λ b. eqb b.leg r.leg) before)
      ∷ nominal_not_listed needs offers r.list r.nominal
      ∷ no_room needs fits before r
      ∷ []

  abbrev pub judge_form : List Row → Option Row → Judged Row
  judge_form before None = wrong bad_row
  judge_form before (Some r) = judge (row_tests before r) r

  abbrev pub row_of : List Row → List ℕ → Judged Row
  row_of before line = judge_form before (form_of line)

-- the draft: its legs and its configurations have a table each. Room is counted in whole records
abbrev pub draft_fits : (legs configurations : ℕ) → List Row → Row → Bool
draft_fits legs configurations before r = ltb (length before) legs && leb (listed before + length r.list) configurations

-- a solution: its choices have a table; its lists are counted and not kept
abbrev pub solution_fits : (choices : ℕ) → List Row → Row → Bool
solution_fits choices before r = ltb (length before) choices

unfoldable pub timetable_of : (H legs configurations : ℕ) → List ℕ → Reading (List Row)
timetable_of H legs configurations = csv_of timetable_file (row_of H (draft_fits legs configurations)) timetable_names

unfoldable pub solution_of : (H file choices : ℕ) → List ℕ → Reading (List Row)
solution_of H file choices = csv_of file (row_of H (solution_fits choices)) timetable_names

-- ---- the tables

-- the lowest place of the nominal in its list
abbrev pub nominal_place : Row → ℕ
nominal_place r = unwrap_or (first_place (same r.nominal) r.list) 0

abbrev pub leg_of : (first : ℕ) → Row → Leg
leg_of first r =
    record {
      id = r.leg;
      train = r.train;
      track = r.track;
      start = r.start;
      end = r.end;
      first = first;
      count = length r.list;
      nominal = nominal_place r;
    }

-- the legs of rows whose configurations start at a place
abbrev pub legs_from : ℕ → List Row → List Leg
legs_from first [] = []
legs_from first (r ∷ rows) = leg_of first r ∷ legs_from (first + length r.list) rows

abbrev pub legs_of : List Row → List Leg
legs_of = legs_from 0

abbrev pub configurations_of : List Row → List Configuration
configurations_of rows = flat (λ (r : Row). r.list) rows

abbrev pub choices_of : List Row → List Configuration
choices_of rows = map (λ r. r.nominal) rows

-- the numbers of an entry, in the table's order
abbrev pub leg_numbers : Leg → List ℕ
leg_numbers l = l.id ∷ l.train ∷ l.track ∷ l.start ∷ l.end ∷ l.first ∷ l.count ∷ l.nominal ∷ []

abbrev pub configuration_numbers : Configuration → List ℕ
configuration_numbers c = c.departure ∷ c.travel ∷ c.profile ∷ []
