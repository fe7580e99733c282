-- Everything is read in document 01's order, and the first refusal ends it: what is stated; timetable; profiles; 12 and 13; constraints; 15; solution; 14; then a second solution.
use Rattle.std.specs.Prelude.{ℕ, suc, ◌/◌, Bool, cond, ◌&&◌, List, [], ◌∷◌, map, eqb, length, Option, Some, None}
use Rattle.rules.specs.Limits.{leg_width, configuration_width, profile_width, constraint_width, track_width}
use Rattle.rules.specs.Answers.{refusal, differs, timetable_file, Reading, refused, good, ◌>>=◌}
use Rattle.rules.specs.Rows.{place_of_row, first_fault, passed}
use Rattle.rules.specs.Timetable.{Row, timetable_of, solution_of, choices_of}
use Rattle.rules.specs.Profiles.{Curve, profiles_of, profile_fault}
use Rattle.rules.specs.Constraints.{Document, constraints_of, subnet_fault}
use Rattle.rules.specs.Stated.{rules_by, known}
use Rattle.rules.specs.declared.stated.Stated.{Stated}
use Rattle.rules.specs.declared.sizes.Configuration.{Configuration}

-- the numbers that each lent table has room for
pub record Rooms : Type 0 where
  pub legs : ℕ
  pub configurations : ℕ
  pub profiles : ℕ
  pub samples : ℕ
  pub constraints : ℕ
  pub tracks : ℕ

-- the texts that do not depend on a solution
pub record Texts : Type 0 where
  pub timetable : List ℕ
  pub profiles : List ℕ
  pub constraints : List ℕ

abbrev pub texts : (timetable profiles constraints : List ℕ) → Texts
texts timetable profiles constraints = record { timetable = timetable; profiles = profiles; constraints = constraints }

-- what they say
pub record Files : Type 0 where
  pub rows : List Row
  pub curves : List Curve
  pub document : Document

abbrev pub leg_ids : List Row → List ℕ
leg_ids rows = map (λ r. r.leg) rows

unfoldable pub files_of : Stated → Texts → Rooms → Reading Files
files_of S x room = do
  stated ← known S
  rows ← timetable_of S.horizon (room.legs / leg_width) (room.configurations / configuration_width) x.timetable
  curves ← profiles_of (room.profiles / profile_width) room.samples x.profiles
  powered ← passed timetable_file x.timetable (first_fault 0 (profile_fault curves) rows) rows
  document ← constraints_of (leg_ids rows) (room.constraints / constraint_width) (room.tracks / track_width) (rules_by S) x.constraints
  placed ← passed timetable_file x.timetable (first_fault 0 (subnet_fault document.tracks) rows) rows
  good (record { rows = rows; curves = curves; document = document })

-- ---- 14: the solution's first five columns are the draft's, row by row

abbrev pub same_leg : Row → Row → Bool
same_leg a b =
    eqb a.leg b.leg && (eqb a.train b.train && (eqb a.track b.track && (eqb a.start b.start && eqb a.end b.end)))

-- the place of the first row that differs, from row n on; the text's length where rows are missing
abbrev pub differs_from : ℕ → (text : List ℕ) → (draft solution : List Row) → Option ℕ
differs_from n text [] [] = None
differs_from n text [] (b ∷ bs) = Some (place_of_row text n)
differs_from n text (a ∷ r) [] = Some (length text)
differs_from n text (a ∷ r) (b ∷ bs) = cond (same_leg a b) (differs_from (suc n) text r bs) (Some (place_of_row text n))

abbrev pub matched : (file : ℕ) → Option ℕ → List Row → Reading (List Row)
matched file None rows = good rows
matched file (Some place) rows = refused (refusal differs file place)

-- a solution's choices, as its nominal column has them; room is the numbers that the choice table takes
unfoldable pub choices_read : (H : ℕ) → Files → (file room : ℕ) → List ℕ → Reading (List Configuration)
choices_read H files file room text = do
  rows ← solution_of H file (room / configuration_width) text
  same ← matched file (differs_from 0 text files.rows rows) rows
  good (choices_of rows)
