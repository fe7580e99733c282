-- `timetable_writer::put_list` meets its contract: after each turn the list so far is written. Assumes nothing.
use Rattle.timetable_writer.specs.Rows.{spelled_list, list_from}
use Rattle.text_write.proofs.Growing.{Growing}
use Rattle.timetable_writer.proofs.put_list.Given as goal

abbrev pub invariant-loop-j : goal.invariant-loop-j
invariant-loop-j l = Growing (λ k. spelled_list (list_from l.configurations l.first k)) l.count l.initial.buffer l.at l.buffer l.place l.j
