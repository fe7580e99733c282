-- A row's tests after the rows before, whose ids stand in the choices.
use Rattle.std.specs.Prelude.{ℕ, ◌*◌, ◌/◌, ◌≤◌, ◌≡◌, Bool, true, cond, Option, List, [], ◌∷◌, leb, ltb, length, get_or}
use Rattle.rules.specs.Limits.{configuration_width}
use Rattle.rules.specs.Answers.{out_of_range, too_many, already_seen, nominal_not_listed, no_room, Test, ◌needs◌}
use Rattle.tables_ids.specs.Column.{column, is_new}
use Rattle.timetable_row.specs.declared.line.Line.{Line}
use Rattle.timetable_row.specs.RowOver.{range_holds, counts_hold}
use Rattle.solution_row.specs.Against.{is_known}

-- an id above all others is new without a search
abbrev pub new_after : (rows above id : ℕ) → (choices : List ℕ) → Bool
new_after rows above id choices = cond (leb above id) true (is_new id (column configuration_width rows choices))

abbrev pub choice_tests : (H : ℕ) → Line → (choices : List ℕ) → List Test
choice_tests H line choices =
    out_of_range needs range_holds H line
    ∷ too_many needs counts_hold line
    ∷ already_seen needs new_after line.rows line.above (get_or line.numbers 0 0) choices
    ∷ nominal_not_listed needs ltb line.nominal line.entries
    ∷ no_room needs ltb line.rows (length choices / configuration_width)
    ∷ []

-- the rows before: the table has them, so that an id can be looked for, and none of them has an id that is said to be fresh
pub record Earlier (rows : ℕ) (fresh : Option ℕ) (choices : List ℕ) : Type 0 where
  pub held : rows * configuration_width ≤ length choices
  pub lacks : (id : ℕ) → is_known fresh id ≡ true → is_new id (column configuration_width rows choices) ≡ true
