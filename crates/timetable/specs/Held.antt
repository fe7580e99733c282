-- What the reader holds of the rows before and of the open row, and what the tables hold of them.
use Rattle.std.specs.Prelude.{None, Some, ℕ, suc, ◌+◌, ◌*◌, ◌≤◌, ◌<◌, min, ◌≡◌, Bool, true, not, cond, List, [], ◌∷◌, ◌++◌, map, length, take, set, Option}
use Rattle.rules.specs.Limits.{most_legs, most_listed, most_configurations, leg_width, configuration_width}
use Rattle.rules.specs.Lists.{every, flat, over}
use Rattle.rules.specs.Answers.{bad_row}
use Rattle.rules.specs.Timetable.{Row, configuration, in_range, same, listed, legs_of, leg_numbers, configurations_of, configuration_numbers}
use Rattle.rules.specs.Verdict.{All}
use Rattle.rules.specs.declared.sizes.Configuration.{Configuration}
use Rattle.csv_machine.specs.Number as Row
use Rattle.csv_machine.specs.Number.{empty, number_step, number_end}
use Rattle.timetable_row.specs.declared.number.Number.{Number}
use Rattle.timetable_row.specs.declared.number.Number.TheVariants.{Empty, Zero, Digits}
use Rattle.timetable_row.specs.declared.line.Line.{Line}
use Rattle.timetable_row.specs.Digits.{most_held, held}
use Rattle.timetable_row.specs.Slots.{entry_slot, entry_travel_slot, last_slot, nominal_of}
use Rattle.timetable.specs.Open.{Open, open_step}

-- the states of a row: numbers before the list, entries, numbers of the open entry
pub data Shaped : List ℕ → List Configuration → List ℕ → Type 0 where
  in_head : {closed : List ℕ} → length closed < entry_slot → Shaped closed [] []
  in_first : {closed : List ℕ} {list : List Configuration} → length closed ≡ entry_slot → Shaped closed list []
  in_second : {closed : List ℕ} {list : List Configuration} {d : ℕ} → length closed ≡ entry_slot → Shaped closed list (d ∷ [])
  in_third : {closed : List ℕ} {list : List Configuration} {d t : ℕ} → length closed ≡ entry_slot → Shaped closed list (d ∷ t ∷ [])

-- ---- the code's line with another open row

abbrev pub line_with : Line → (slot : ℕ) (numbers : List ℕ) (entries nominal : ℕ) (wide : Bool) → Line
line_with line slot numbers entries nominal wide =
    record {
      fault = line.fault;
      place = line.place;
      slot = slot;
      numbers = numbers;
      entries = entries;
      nominal = nominal;
      wide = wide;
      rows = line.rows;
      configurations = line.configurations;
      above = line.above;
    }

-- with the open number closed, which is not an entry's last
abbrev pub kept_in : Line → (n : ℕ) → Line
kept_in line n = line_with line (line.slot + 1) (set line.numbers line.slot n) line.entries line.nominal line.wide

-- with the first two numbers of an entry closed
abbrev pub open_entry : Line → (d t : ℕ) → Line
open_entry line d t = line_with line last_slot (set (set line.numbers entry_slot d) entry_travel_slot t) line.entries line.nominal line.wide

-- ---- the open row

abbrev pub number_held : Row.Number → Number
number_held Row.empty = Empty
number_held Row.zero = Zero
number_held (Row.digits n) = Digits (held n)

-- how many come before the first that passes a test
abbrev pub leading : {A : Type 0} → (A → Bool) → List A → ℕ
leading p [] = 0
leading p (x ∷ xs) = cond (p x) 0 (suc (leading p xs))

abbrev pub held_configuration : Configuration → Configuration
held_configuration c = configuration (held c.departure) (held c.travel) (held c.profile)

abbrev pub same_held : Configuration → Configuration → Bool
same_held a b = same (held_configuration a) (held_configuration b)

pub record Opened (H slot : ℕ) (numbers : List ℕ) (entries nominal : ℕ) (wide : Bool) (closed : List ℕ) (list : List Configuration) (entry : List ℕ) : Type 0 where
  pub shaped : Shaped closed list entry
  pub slot_is : slot ≡ length (closed ++ entry)
  pub ten : length numbers ≡ last_slot
  pub numbers_are : take slot numbers ≡ map held (closed ++ entry)
  pub entries_are : entries ≡ min (length list) (suc most_listed)
  pub wide_is : wide ≡ not (every (in_range H) list)
  pub nominal_is : length list ≤ most_listed → nominal ≡ leading (same_held (nominal_of closed)) list

-- ---- the rows before

pub record Rowed (lent legs : List ℕ) (room : ℕ) (rows configurations above : ℕ) (before : List Row) : Type 0 where
  pub rows_are : rows ≡ length before
  pub configurations_are_lem : configurations ≡ listed before
  pub below : All (λ r. r.leg < above) before
  pub few : length before ≤ most_legs
  pub many : listed before ≤ most_configurations
  pub legs_fit : length before * leg_width ≤ length lent
  pub configurations_fit : listed before * configuration_width ≤ room
  pub legs_are_lem : legs ≡ over (flat leg_numbers (legs_of before)) lent

-- ---- both, and the configurations of both

pub record Tables : Type 0 where
  pub legs : List ℕ
  pub configurations : List ℕ

abbrev pub tables : (legs configurations : List ℕ) → Tables
tables legs configurations = record { legs = legs; configurations = configurations }

-- the configurations' table holds those of the rows before and of the open row, where these are in range, not too many and have room
abbrev pub Kept : (H : ℕ) (lent now : List ℕ) → List Row → List Configuration → Type 0
Kept H lent now before list =
    every (in_range H) list ≡ true → length list ≤ most_listed → (listed before + length list) * configuration_width ≤ length lent
    → now ≡ over (flat configuration_numbers (configurations_of before ++ list)) lent

pub record InLine (H : ℕ) (lent : Tables) (line : Line) (now : Tables) (place : ℕ) (before : List Row) (closed : List ℕ) (list : List Configuration) (entry : List ℕ) : Type 0 where
  pub horizon : H ≤ most_held
  pub going : line.fault ≡ None
  pub placed : line.place ≡ place
  pub opened : Opened H line.slot line.numbers line.entries line.nominal line.wide closed list entry
  pub rowed : Rowed lent.legs now.legs (length lent.configurations) line.rows line.configurations line.above before
  pub long : length now.configurations ≡ length lent.configurations
  pub kept : Kept H lent.configurations now.configurations before list

-- what closing an entry by its third number, held as p, must give
pub record Entered (H : ℕ) (line : Line) (p : ℕ) (line' : Line) (table table' : List ℕ) : Type 0 where
  pub entered : (lent : Tables) (legs : List ℕ) (place : ℕ) (before : List Row) (closed : List ℕ) (list : List Configuration) (d t v : ℕ)
      → InLine H lent line (tables legs table) place before closed list (d ∷ t ∷ []) → p ≡ held v
      → InLine H lent line' (tables legs table') place before closed (list ++ configuration d t v ∷ []) []
  pub next_entry : line'.slot ≡ entry_slot
  pub no_fault : line'.fault ≡ line.fault

-- what a byte that no digit follows must give: the row goes on with an empty number, or breaks its form
abbrev pub AfterByte : (H : ℕ) (lent : Tables) (line : Line) (now : Tables) (place : ℕ) → List Row → Option Open → Type 0
AfterByte H lent line now place before None = (line.fault ≡ Some bad_row) × (line.place ≡ place)
AfterByte H lent line now place before (Some o) = InLine H lent line now place before o.closed o.list o.entry × (o.number ≡ empty)

-- what closing a number, held as n, by a byte that it does not take must give
pub record Closed (H : ℕ) (line : Line) (n b : ℕ) (line' : Line) (table table' : List ℕ) : Type 0 where
  pub closes : (lent : Tables) (legs : List ℕ) (place : ℕ) (before : List Row) (o : Open) (v : ℕ)
      → InLine H lent line (tables legs table) place before o.closed o.list o.entry → number_end o.number ≡ Some v → n ≡ held v → number_step o.number b ≡ None
      → AfterByte H lent line' (tables legs table') place before (open_step o b)
