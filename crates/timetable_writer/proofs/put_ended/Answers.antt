-- `timetable_writer::put_ended` meets its contract: a number, then the sign. Assumes nothing.
use native.Mathlib.Omega.{arith}
use Rattle.text_write.proofs.Writing.{written_then}
use Rattle.timetable_writer.proofs.put_ended.Goals as goal

pub returns : goal.returns
returns c = written_then c.put_number-after.ensures c.put_byte.ensures (omega arith)
