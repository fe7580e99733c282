-- `timetable_writer::put_configuration` meets its contract: three numbers, with underscores between. Assumes nothing.
use native.Mathlib.Omega.{arith}
use Rattle.timetable_writer.proofs.RowTexts.{configuration-written}
use Rattle.timetable_writer.proofs.put_configuration.Goals as goal

pub returns : goal.returns
returns c = configuration-written c.args.c c.put_ended-travel.ensures c.put_ended-profile.ensures c.put_number.ensures (omega arith)
