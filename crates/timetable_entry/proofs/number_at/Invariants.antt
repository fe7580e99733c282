-- A number of digits that fit, where the byte behind them closes it. The loop's invariant: the digits that were passed are the number so far. Assumes nothing.
use Rattle.timetable_entry.proofs.Reading.{Reading}
use Rattle.timetable_entry.proofs.number_at.Given as goal

abbrev pub invariant-loop-i : goal.invariant-loop-i
invariant-loop-i l = Reading l.part l.from l.number l.i
