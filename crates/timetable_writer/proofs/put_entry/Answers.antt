-- `timetable_writer::put_entry` meets its contract: the first entry stands alone, each further one after a space. Assumes nothing.
use native.Mathlib.Omega.{arith}
use Rattle.timetable_writer.proofs.RowTexts.{first-written, further_written}
use Rattle.timetable_writer.proofs.put_entry.Goals as goal

pub returns-then-j-eq0 : goal.returns-then-j-eq0
returns-then-j-eq0 c = first-written c.args.c c.args.j c.if-j-eq0.true c.put_configuration.ensures

pub returns : goal.returns
returns c = further_written c.args.c c.args.j c.if-j-eq0.false c.put_byte-after.ensures c.put_configuration-2.ensures (omega arith)
