-- A merge over the tables: its choices and its rows.
use Rattle.std.specs.Prelude.{ℕ, List}
use Rattle.rules.specs.Lists.{flat}
use Rattle.rules.specs.Timetable.{Row}
use Rattle.rules.specs.Merge.{zipped, spelled_row, merge_of}
use Rattle.rules.specs.declared.sizes.Configuration.{Configuration}
use Rattle.rules.specs.declared.outcomes.Direction.{Direction}
use Rattle.tables_views.specs.View.{legs_in, configurations_in}
use Rattle.timetable_writer.specs.Rows.{row_of}

-- the rows of n legs, with these choices as their nominals
abbrev pub chosen_in : (n : ℕ) → (legs configurations : List ℕ) → List Configuration → List Row
chosen_in n legs configurations cs = zipped (row_of configurations) (legs_in n legs) cs

-- the rows of a merge of two tables of choices
abbrev pub merged_in : Direction → (n : ℕ) → (legs configurations first second : List ℕ) → List Row
merged_in d n legs configurations first second =
    chosen_in n legs configurations (merge_of d (configurations_in n first) (configurations_in n second))

-- a timetable without its header
abbrev pub rows_text : List Row → List ℕ
rows_text = flat spelled_row
