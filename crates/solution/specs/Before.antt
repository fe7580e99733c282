-- The rows before: what is held of them. While a solution is read, an entry of its choices holds the row's id beside the choice, so that a
-- repeated id is seen without a table of ids.
use Rattle.std.specs.Prelude.{Some, None, ℕ, suc, ◌+◌, ◌*◌, ◌/◌, ◌≤◌, ◌<◌, ◌≡◌, true, List, [], ◌∷◌, ◌++◌, length}
use Rattle.rules.specs.Limits.{most_legs, most_configurations, most_travel, configuration_width}
use Rattle.rules.specs.Lists.{flat, over}
use Rattle.rules.specs.Answers.{Judged, wrong, right}
use Rattle.rules.specs.Bytes.{less_return}
use Rattle.rules.specs.Timetable.{Row, ids_of, in_range, listed, row_of, solution_fits}
use Rattle.rules.specs.Verdict.{All}
use Rattle.rules.specs.declared.sizes.Configuration.{Configuration}
use Rattle.timetable_row.specs.declared.line.Line.{Line}
use Rattle.timetable_row.specs.Slots.{held_ids}

-- more than any travel time
abbrev pub travels : ℕ
travels = suc most_travel

-- where such an entry holds both times, and the profile
abbrev pub times_at : ℕ
times_at = 1

abbrev pub profile_at : ℕ
profile_at = 2

-- an id and a choice in one entry
abbrev pub packed : (id : ℕ) → Configuration → List ℕ
packed id c = id ∷ (c.departure * travels + c.travel) ∷ c.profile ∷ []

abbrev pub packed_row : Row → List ℕ
packed_row r = packed r.leg r.nominal

-- the open row, with the counts of the rows before
abbrev pub counted_as : Line → (before : Line) → Line
counted_as line before =
    record {
      fault = line.fault;
      place = line.place;
      slot = line.slot;
      numbers = line.numbers;
      entries = line.entries;
      nominal = line.nominal;
      wide = line.wide;
      rows = before.rows;
      configurations = before.configurations;
      above = before.above;
    }

-- the counts of the rows before, and the table that holds them
pub record Counted (H : ℕ) (lent : List ℕ) (line : Line) (choices : List ℕ) (before : List Row) : Type 0 where
  pub going : line.fault ≡ None
  pub rows_are : line.rows ≡ length before
  pub configurations_are_lem : line.configurations ≡ listed before
  pub below : All (λ r. r.leg < line.above) before
  pub in_range_lem : All (λ r. in_range H r.nominal ≡ true) before
  pub few : length before ≤ most_legs
  pub many : listed before ≤ most_configurations
  pub fits : length before * configuration_width ≤ length lent
  pub choices_are : choices ≡ over (flat packed_row before) lent

-- what a row that is judged must give: its ids are at hand too
abbrev pub AfterRow : (H : ℕ) (lent : List ℕ) (line : Line) (choices : List ℕ) → List Row → Judged Row → Type 0
AfterRow H lent line choices before (wrong k) = (line.fault ≡ Some k) × (0 < k)
AfterRow H lent line choices before (right r) = Counted H lent line choices (before ++ r ∷ []) × (held_ids line.numbers ≡ ids_of r)

pub record Turned (H : ℕ) (bytes : List ℕ) (line : Line) (choices : List ℕ) (line' : Line) (choices' : List ℕ) : Type 0 where
  pub turns : (lent : List ℕ) (before : List Row) → Counted H lent line choices before
      → AfterRow H lent line' choices' before (row_of H (solution_fits (length lent / configuration_width)) before (less_return bytes))
