-- The digits are taken as the definition takes them: what is left gives what the whole gives. Assumes nothing.
use Rattle.std.proofs.Common.{◌≡◌, ◌≤◌, max, length, drop}
use Rattle.timetable_row.specs.Digits.{digits_from}
use Rattle.timetable_row.proofs.number.digits.Given as goal

abbrev pub invariant-loop-i : goal.invariant-loop-i
invariant-loop-i l = (digits_from l.v l.i (drop l.i l.part) ≡ digits_from l.value l.from (drop l.from l.part)) × (l.i ≤ max (length l.part) l.from)
