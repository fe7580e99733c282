-- What is written is read back: timetables, solutions, tables and choices; and a text that is read spells its rows. Assumes nothing.
use Prim.Native.Nat.{ℕ, ◌/◌, ◌≤◌}
use mathlib.Core.Path.{◌≡◌, ap, sym, ◌∙◌}
use mathlib.Core.List.{List}
use lib.ListN.{length, length-map}
use Rattle.rules.specs.Limits.{most_text, configuration_width}
use Rattle.rules.specs.Answers.{good}
use Rattle.rules.specs.Timetable.{Row, timetable_names, listed, legs_of, configurations_of, timetable_of, solution_of}
use Rattle.rules.specs.Reading.{Files, choices_read}
use Rattle.rules.specs.Verdict.{offered, Offered}
use Rattle.rules.specs.Merge.{text_of, chosen}
use Rattle.rules.specs.declared.sizes.Configuration.{Configuration}
use Rattle.rules.specs.declared.sizes.Leg.{Leg}
use Rattle.rules_theorems.specs.WellFormed.{Lawful, Fitting, FittingChoices, Spelled, RowFields, row_of_leg, rows_of, WellFormed}
use Rattle.rules_theorems.proofs.GoodRows.{spelled_own, timetable_good, solution_good}
use Rattle.rules_theorems.proofs.LawfulRows.{rooms_fit, choices_fit}
use Rattle.rules_theorems.proofs.Tables.{lawful_wellformed, length-flat}
use Rattle.rules_theorems.proofs.Chosen.{chosen-lawful, chosen-choices, chosen-length, chosen_matches}

-- a timetable that was written is read back
pub read_back : (H legs configurations : ℕ) (rows : List Row) → Lawful H rows → Fitting legs configurations rows → length (text_of rows) ≤ most_text
    → timetable_of H legs configurations (text_of rows) ≡ good rows
read_back H legs configurations rows lawful fitting short =
    (timetable_good H legs configurations (text_of rows) rows).1 (record { lawful = lawful; fitting = fitting; spells = spelled_own rows; short = short })

-- and so is a solution
pub solution_back : (H file choices : ℕ) (rows : List Row) → Lawful H rows → FittingChoices choices rows → length (text_of rows) ≤ most_text
    → solution_of H file choices (text_of rows) ≡ good rows
solution_back H file choices rows lawful fitting short =
    (solution_good H file choices (text_of rows) rows).1 (record { lawful = lawful; fitting = fitting; spells = spelled_own rows; short = short })

-- a text that is read without refusal spells its rows
pub reads_as_spelled : (H legs configurations : ℕ) (s : List ℕ) (rows : List Row) → timetable_of H legs configurations s ≡ good rows → Spelled timetable_names RowFields s rows
reads_as_spelled H legs configurations s rows e = ((timetable_good H legs configurations s rows).0 e).spells

pub solution_as_spelled : (H file choices : ℕ) (s : List ℕ) (rows : List Row) → solution_of H file choices s ≡ good rows → Spelled timetable_names RowFields s rows
solution_as_spelled H file choices s rows e = ((solution_good H file choices s rows).0 e).spells

-- ---- tables

-- the tables of a timetable that is read without refusal are well-formed
pub good_is_wellformed : (H legs configurations : ℕ) (s : List ℕ) (rows : List Row) → timetable_of H legs configurations s ≡ good rows
    → WellFormed H (legs_of rows) (configurations_of rows)
good_is_wellformed H legs configurations s rows e = lawful_wellformed H rows ((timetable_good H legs configurations s rows).0 e).lawful

module _ (H legs configurations : ℕ) (l : List Leg) (c : List Configuration) (w : WellFormed H l c) where
  tables-listed : listed (rows_of l c) ≡ length c
  tables-listed = sym (length-flat (λ (r : Row). r.list) (rows_of l c)) ∙ ap length w.configurations_are

  -- well-formed tables that have room are read back from the text that they write
  pub read_back_tables : length l ≤ legs → length c ≤ configurations → length (text_of (rows_of l c)) ≤ most_text
      → (rows : List Row) × (timetable_of H legs configurations (text_of (rows_of l c)) ≡ good rows) × (legs_of rows ≡ l) × (configurations_of rows ≡ c)
  read_back_tables h k short = (
    rows_of l c,
    read_back H legs configurations (rows_of l c) w.lawful
        (rooms_fit legs configurations (rows_of l c) (rw (length-map l (row_of_leg c)) h) (rw tables-listed k)) short,
    w.legs_are,
    w.configurations_are,
  )

-- ---- choices

module _ (H file choices : ℕ) (rows : List Row) (s : List Configuration) (lawful : Lawful H rows) (chosen_from : Offered (offered rows) s)
    (room : length rows ≤ choices) (short : length (text_of (chosen rows s)) ≤ most_text) where
  -- offered choices that were written are read back as the draft's rows with these choices
  pub written-choices : solution_of H file choices (text_of (chosen rows s)) ≡ good (chosen rows s)
  written-choices =
      solution_back H file choices (chosen rows s) (chosen-lawful H rows s lawful chosen_from)
      (choices_fit choices (chosen rows s) (rw (chosen-length rows s chosen_from) room)) short

-- and then as the choices themselves
pub choices_back : (H : ℕ) (files : Files) (file room : ℕ) (s : List Configuration) → Lawful H files.rows → Offered (offered files.rows) s
    → length files.rows ≤ room / configuration_width → length (text_of (chosen files.rows s)) ≤ most_text
    → choices_read H files file room (text_of (chosen files.rows s)) ≡ good s
unfolding choices_read
choices_back H files file room s lawful chosen_from fits short =
    rw (
      written-choices H file (room / configuration_width) files.rows s lawful chosen_from fits short,
      chosen_matches 0 (text_of (chosen files.rows s)) files.rows s chosen_from,
      chosen-choices files.rows s chosen_from,
    )
