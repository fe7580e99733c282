-- `duties_row::numbers::value` meets its contract: a number past the greatest id is held at one past it. Assumes nothing.
use borrow.Author.Rules.{rules}
use Rattle.duties_row.proofs.Testing.{value_number, value_beyond, value_none}
use Rattle.duties_row.proofs.numbers.value.Goals as goal

pub returns-in-Ok : goal.returns-in-Ok
returns-in-Ok c = search (value_number, rules)

pub returns-in-Err-Beyond : goal.returns-in-Err-Beyond
returns-in-Err-Beyond c = search (value_beyond, rules)

pub returns-in-Err-Malformed : goal.returns-in-Err-Malformed
returns-in-Err-Malformed c = search (value_none, rules)
