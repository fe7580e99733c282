-- The two passes over a solution: the rows after the header, each id and choice in one entry; then the choices alone.
use Rattle.std.specs.Prelude.{Result, Ok, ℕ, ◌+◌, ◌*◌, ◌/◌, ◌%◌, ◌≤◌, ◌≡◌, true, List, [], ◌∷◌, length, get_or, drop}
use Rattle.rules.specs.Limits.{most_text, configuration_width}
use Rattle.rules.specs.Lists.{flat, over}
use Rattle.rules.specs.Answers.{Reading, good, ◌>>=◌}
use Rattle.rules.specs.Bytes.{line_feed, split_on}
use Rattle.rules.specs.Rows.{rows_from}
use Rattle.rules.specs.Timetable.{Row, configuration, in_range, row_of, solution_fits, timetable_names, choices_of, configuration_numbers}
use Rattle.rules.specs.Reading.{differs_from, matched}
use Rattle.rules.specs.Energy.{tabulate}
use Rattle.rules.specs.Verdict.{All}
use Rattle.rules.specs.declared.sizes.Configuration.{Configuration}
use Rattle.csv_header.specs.Heading.{end_in}
use Rattle.rules.specs.declared.answers.Fault.{Fault}
use Rattle.solution.specs.Before.{travels, times_at, profile_at, packed_row}
use Rattle.solution.specs.Promise.{Able, HoldsRows, choices_answer}

-- ---- the rows

-- where the header ends
abbrev pub head_end : List (List ℕ) → ℕ
head_end = end_in timetable_names

-- a text whose first line ends before a place
pub record Headed (H : ℕ) (text legs : List ℕ) (n from : ℕ) : Type 0 where
  pub able : Able H legs n
  pub short : length text ≤ most_text
  pub first : List ℕ
  pub first_is : split_on line_feed text ≡ first ∷ split_on line_feed (drop from text)
  pub from_is : from ≡ length first + 1
  pub inside : from ≤ length text

-- the rows after the header, for a table that is lent
abbrev pub rows_after : (H file from : ℕ) (lent text : List ℕ) → Reading (List Row)
rows_after H file from lent text = rows_from file (row_of H (solution_fits (length lent / configuration_width))) from [] (split_on line_feed (drop from text))

-- their choices, where they are the draft's rows
abbrev pub choices_after : (file : ℕ) (draft : List Row) (text : List ℕ) → Reading (List Row) → Reading (List Configuration)
choices_after file draft text reading = do
  rows ← reading
  same ← matched file (differs_from 0 text draft rows) rows
  good (choices_of rows)

-- ids and choices, and what unpacking them needs
pub record Packed (H : ℕ) (lent : List ℕ) (rows : List Row) (choices : List ℕ) : Type 0 where
  pub packed_are : choices ≡ over (flat packed_row rows) lent
  pub in_range_lem : All (λ r. in_range H r.nominal ≡ true) rows

pub record RowsRead (H : ℕ) (text legs : List ℕ) (n from : ℕ) (lent : List ℕ) (answer : Result ℕ Fault) (choices : List ℕ) : Type 0 where
  pub answers : (draft : List Row) (file : ℕ) → HoldsRows legs n draft → answer ≡ choices_answer (choices_after file draft text (rows_after H file from lent text))
  pub packs : (file : ℕ) (rows : List Row) → rows_after H file from lent text ≡ good rows → Packed H lent rows choices
  pub fits : (rows : ℕ) → answer ≡ Ok rows → rows * configuration_width ≤ length choices

-- ---- the choices

abbrev pub unpacked_at : List ℕ → ℕ → Configuration
unpacked_at table i =
    configuration (get_or table (i * configuration_width + times_at) 0 / travels) (get_or table (i * configuration_width + times_at) 0 % travels) (get_or table (i * configuration_width + profile_at) 0)

abbrev pub unpacked : (n : ℕ) → List ℕ → List ℕ
unpacked n table = over (flat configuration_numbers (tabulate n (unpacked_at table))) table
