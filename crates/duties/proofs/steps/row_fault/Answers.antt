-- `duties::steps::row_fault` meets its contract: the line, then the counts. Assumes nothing.
use borrow.Author.Rules.{rules}
use Rattle.duties.proofs.Viewing.{step_line}
use Rattle.duties.proofs.steps.row_fault.Goals as goal

pub returns : goal.returns
returns c = search (step_line, rules)
