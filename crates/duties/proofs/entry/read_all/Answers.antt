-- `duties::entry::read_all` meets its contract. Assumes nothing.
use borrow.Author.Rules.{rules}
use Rattle.duties.proofs.Telling.{read_whole, read_told, read_place, read_refused}
use Rattle.duties.proofs.entry.read_all.Goals as goal

pub judge_all-requires : goal.judge_all-requires
judge_all-requires c = search (read_whole, rules)

pub overflow_cast-place : goal.overflow_cast-place
overflow_cast-place c = search (read_place, rules)

pub returns-in-Ok : goal.returns-in-Ok
returns-in-Ok c = search (read_told, rules)

pub returns-in-Err : goal.returns-in-Err
returns-in-Err c = search (read_refused, rules)
