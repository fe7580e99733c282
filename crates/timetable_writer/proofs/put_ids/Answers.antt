-- `timetable_writer::put_ids` meets its contract: five numbers, each ended by a comma. Assumes nothing.
use native.Mathlib.Omega.{arith}
use Rattle.timetable_writer.proofs.RowTexts.{ids-written}
use Rattle.timetable_writer.proofs.put_ids.Goals as goal

pub returns : goal.returns
returns c =
    ids-written c.args.leg c.put_ended-train.ensures c.put_ended-track.ensures c.put_ended-start.ensures c.put_ended-end.ensures c.put_ended.ensures (omega arith)
