-- 14: a solution's rows beside the draft's, as far as they are read.
use Rattle.std.specs.Prelude.{ℕ, ◌+◌, ◌*◌, ◌≤◌, Bool, false, cond, Option, Some, None, Result, Ok, Err, ◌&&◌, List, ltb, eqb, length, get_or, drop}
use Rattle.std.specs.Option.{is_some}
use Rattle.rules.specs.Limits.{leg_width}
use Rattle.rules.specs.Lists.{starts_with}
use Rattle.rules.specs.Answers.{differs}
use Rattle.timetable_row.specs.Slots.{held_ids}
use Rattle.rules.specs.declared.answers.Fault.{Fault}
use Rattle.timetable_row.specs.Faults.{fault_at}

-- the table has a whole row there
abbrev pub InTable : (row : ℕ) (legs : List ℕ) → Type 0
InTable row legs = row * leg_width + leg_width ≤ length legs

-- a row of the leg table begins with a row's ids, as they are held
abbrev pub same_at : (numbers legs : List ℕ) (row : ℕ) → Bool
same_at numbers legs row = starts_with (held_ids numbers) (drop (row * leg_width) legs)

-- where the first row that differs starts
abbrev pub none_differs : Option ℕ
none_differs = None

abbrev pub differs_at : (place : ℕ) → Option ℕ
differs_at place = Some place

-- the draft's id where the next row stands, while no row differs
abbrev pub next_id : Option ℕ → (legs : List ℕ) (n row : ℕ) → Option ℕ
next_id differing legs n row = cond (is_some differing) None (cond (ltb row n) (Some (get_or legs (row * leg_width) 0)) None)

abbrev pub is_known : Option ℕ → (id : ℕ) → Bool
is_known (Some known) id = eqb known id
is_known None id = false

-- with one row more: the first that differs is kept
abbrev pub compared_with : Option ℕ → (numbers legs : List ℕ) (n row place : ℕ) → Option ℕ
compared_with differing numbers legs n row place =
    cond (is_some differing) differing (cond (ltb row n && same_at numbers legs row) differing (differs_at place))

-- the answer after the last row: what differs, or how many rows there are
abbrev pub compared_answer : Option ℕ → (rows n end : ℕ) → Result ℕ Fault
compared_answer (Some place) rows n end = Err (fault_at differs place)
compared_answer None rows n end = cond (ltb rows n) (Err (fault_at differs end)) (Ok rows)
