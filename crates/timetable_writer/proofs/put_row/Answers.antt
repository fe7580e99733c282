-- `timetable_writer::put_row` meets its contract: the ids, the nominal, a comma, the list and LF are the row. Assumes nothing.
use native.Mathlib.Omega.{arith}
use Rattle.timetable_writer.proofs.RowTexts.{row_written}
use Rattle.timetable_writer.proofs.put_row.Goals as goal

pub returns : goal.returns
returns c =
    row_written c.args.configurations.now c.args.leg c.args.nominal c.put_ids-chosen.ensures c.put_configuration-comma.ensures c.put_byte-list.ensures c.put_list-end.ensures c.put_byte.ensures
    (omega arith)
