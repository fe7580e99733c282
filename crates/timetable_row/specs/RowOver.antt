-- A row that is over: its tests, as the reader makes them on what it holds, and what becomes of the row.
use Rattle.std.specs.Prelude.{ℕ, zero, suc, ◌+◌, ◌*◌, ◌/◌, ◌≤◌, ◌<◌, Bool, true, false, not, cond, ◌&&◌, Option, Some, None, List, [], ◌∷◌, leb, ltb, eqb, length, get_or, drop}
use Rattle.std.proofs.lemmas.List.Edits.{sets}
use Rattle.rules.specs.Limits.{most_text, most_id, most_legs, most_listed, most_configurations, leg_width, configuration_width}
use Rattle.rules.specs.Lists.{every, any}
use Rattle.rules.specs.Answers.{out_of_range, too_many, already_seen, nominal_not_listed, no_room, Test, ◌needs◌}
use Rattle.rules.specs.Timetable.{in_range, leg_numbers}
use Rattle.rules.specs.Made.{leg_made}
use Rattle.rules.specs.declared.sizes.Leg.{Leg}
use Rattle.timetable_row.specs.declared.line.Line.{Line}
use Rattle.timetable_row.specs.Slots.{nominal_of, held_ids}

-- an entry at place k of a table, where the table has that place
abbrev pub stored_at : (width k : ℕ) → List ℕ → List ℕ → List ℕ
stored_at width k numbers table = cond (ltb k (length table / width)) (sets table (k * width) numbers) table

-- the ids of the first n rows of the leg table
abbrev pub ids_in : (n : ℕ) → List ℕ → List ℕ
ids_in zero table = []
ids_in (suc n) table = get_or table 0 0 ∷ ids_in n (drop leg_width table)

-- range; counts; the id is new, which an id above all others is without a search; the nominal is listed; room
abbrev pub range_holds : (H : ℕ) → Line → Bool
range_holds H line = every (λ id. leb id most_id) (held_ids line.numbers) && (in_range H (nominal_of line.numbers) && not line.wide)

abbrev pub counts_hold : Line → Bool
counts_hold line =
    ltb line.rows most_legs && (leb line.entries most_listed && leb (line.configurations + line.entries) most_configurations)

abbrev pub is_new : (rows above id : ℕ) → List ℕ → Bool
is_new rows above id legs =
    cond (leb above id) true (cond (ltb (length legs / leg_width) rows) true (not (any (λ x. eqb x id) (ids_in rows legs))))

abbrev pub room_holds : Line → (legs configurations : ℕ) → Bool
room_holds line legs configurations = ltb line.rows (legs / leg_width) && leb (line.configurations + line.entries) (configurations / configuration_width)

abbrev pub line_tests : (H : ℕ) → Line → (legs : List ℕ) (room : ℕ) → List Test
line_tests H line legs room =
    out_of_range needs range_holds H line
    ∷ too_many needs counts_hold line
    ∷ already_seen needs is_new line.rows line.above (get_or line.numbers 0 0) legs
    ∷ nominal_not_listed needs ltb line.nominal line.entries
    ∷ no_room needs room_holds line (length legs) room
    ∷ []

-- the number of the first test that fails
abbrev pub lowest : List Test → Option ℕ
lowest [] = None
lowest (t ∷ ts) = cond t.holds (lowest ts) (Some t.number)

-- the leg as the reader holds it, and its numbers
abbrev pub leg_of : (numbers : List ℕ) → (first count nominal : ℕ) → Leg
leg_of numbers first count nominal =
    record {
      id = get_or numbers 0 0;
      train = get_or numbers 1 0;
      track = get_or numbers 2 0;
      start = get_or numbers 3 0;
      end = get_or numbers 4 0;
      first = first;
      count = count;
      nominal = nominal;
    }

abbrev pub held_leg : Line → List ℕ
held_leg line = leg_numbers (leg_of line.numbers line.configurations line.entries line.nominal)

-- as the constructor makes it, and where it is stored
abbrev pub leg_held : Line → Option Leg
leg_held line = leg_made (held_ids line.numbers) line.configurations line.entries line.nominal

abbrev pub stored_leg : (at : ℕ) → Option Leg → (table : List ℕ) → List ℕ
stored_leg at (Some leg) table = stored_at leg_width at (leg_numbers leg) table
stored_leg at None table = table

-- the row breaks off with its fault's number
abbrev pub stopped_with : Line → (number : ℕ) → Line
stopped_with line number =
    record {
      fault = Some number;
      place = line.place;
      slot = line.slot;
      numbers = line.numbers;
      entries = line.entries;
      nominal = line.nominal;
      wide = line.wide;
      rows = line.rows;
      configurations = line.configurations;
      above = line.above;
    }

-- what a row with no fault keeps
pub record Bounded (line : Line) (at : ℕ) : Type 0 where
  pub at_low : at < most_text
  pub rows_low : line.rows < most_legs
  pub configurations_low : line.configurations + line.entries ≤ most_configurations
  pub id_low : get_or line.numbers 0 0 ≤ most_id

-- the next row starts after the LF at a place
abbrev pub next_line : Line → (at : ℕ) → Line
next_line line at =
    record {
      fault = line.fault;
      place = at + 1;
      slot = 0;
      numbers = line.numbers;
      entries = 0;
      nominal = 0;
      wide = false;
      rows = line.rows + 1;
      configurations = line.configurations + line.entries;
      above = cond (leb line.above (get_or line.numbers 0 0)) (get_or line.numbers 0 0 + 1) line.above;
    }
