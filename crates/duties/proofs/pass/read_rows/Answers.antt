-- `duties::pass::read_rows` meets its contract: the rows before a place are read, and their nodes are in the table. Assumes nothing.
use borrow.Author.Rules.{rules}
use Rattle.duties.proofs.Passing.{begin_holds, pass_open, pass_fault, pass_good, pass_next, pass_end}
use Rattle.duties.proofs.pass.read_rows.Goals as goal

pub loop-place-init : goal.loop-place-init
loop-place-init c = search (begin_holds, rules)

pub returns-then-text-end : goal.returns-then-text-end
returns-then-text-end c = search (pass_open, rules)

pub returns-then-number-ne-NO_FAULT : goal.returns-then-number-ne-NO_FAULT
returns-then-number-ne-NO_FAULT c = search (pass_fault, rules)

pub put_both-n-requires : goal.put_both-n-requires
put_both-n-requires c = search (pass_good, rules)

pub loop-place-preserved : goal.loop-place-preserved
loop-place-preserved c = search (pass_next, rules)

pub returns : goal.returns
returns c = search (pass_end, rules)
