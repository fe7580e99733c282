-- `duties::turns::end_duty` meets its contract: the empty line before the first row ends nothing. Assumes nothing.
use borrow.Author.Rules.{rules}
use Rattle.duties.proofs.Turning.{end_none, end_some}
use Rattle.duties.proofs.turns.end_duty.Goals as goal

pub returns-then-before-eq0 : goal.returns-then-before-eq0
returns-then-before-eq0 c = search (end_none, rules)

pub returns : goal.returns
returns c = search (end_some, rules)
