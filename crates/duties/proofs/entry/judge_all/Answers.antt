-- `duties::entry::judge_all` meets its contract. Assumes nothing.
use borrow.Author.Rules.{rules}
use Rattle.duties.proofs.Telling.{whole_starts, judged_row, judged_place, judged_kept, judged_broken}
use Rattle.duties.proofs.entry.judge_all.Goals as goal

pub judge_rows-requires : goal.judge_rows-requires
judge_rows-requires c = search (whole_starts, rules)

pub overflow_cast-row : goal.overflow_cast-row
overflow_cast-row c = search (judged_row, rules)

pub overflow_cast-place : goal.overflow_cast-place
overflow_cast-place c = search (judged_place, rules)

pub returns-in-Ok : goal.returns-in-Ok
returns-in-Ok c = search (judged_kept, rules)

pub returns-in-Err : goal.returns-in-Err
returns-in-Err c = search (judged_broken, rules)
