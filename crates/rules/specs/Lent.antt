-- What is lent to an entry, by the names of its parameters: the three texts that do not depend on a solution, the six tables as they came, and the six
-- tables as they are left. The contract of each entry, and of each function that an entry lends all of them to, is written with these.
use Rattle.std.specs.Prelude.{ℕ, List, ℤ}
use Rattle.std.specs.Borrow.{Bor, MutBor}
use denote.Triple.Both.{Both}
use Rattle.rules.specs.Reading.{Texts, texts}
use Rattle.rules.specs.Entries.{Tables, tables}

-- a slice that is lent, to be read, and to be written: at entry, and at exit
abbrev pub Lent : Type 0 → Type 0
Lent A = Both (Bor (List A)) (Bor (List A))

abbrev pub LentMut : Type 0 → Type 0
LentMut A = Both (MutBor (List A)) (MutBor (List A))

abbrev pub given : (timetable profiles constraints : Lent ℕ) → Texts
given timetable profiles constraints = texts timetable.entry.now profiles.entry.now constraints.entry.now

abbrev pub before : (legs configurations profiles : LentMut ℕ) (samples : LentMut ℤ) (constraints tracks : LentMut ℕ) → Tables
before legs configurations profiles samples constraints tracks =
    tables legs.entry.now configurations.entry.now profiles.entry.now samples.entry.now constraints.entry.now tracks.entry.now

abbrev pub after : (legs configurations profiles : LentMut ℕ) (samples : LentMut ℤ) (constraints tracks : LentMut ℕ) → Tables
after legs configurations profiles samples constraints tracks =
    tables legs.exit.now configurations.exit.now profiles.exit.now samples.exit.now constraints.exit.now tracks.exit.now
