-- `duties::lines::less_return` meets its contract: the last byte decides. Assumes nothing.
use borrow.Author.Rules.{rules}
use Rattle.duties.proofs.Returns.{less_none, less_last, less_all}
use Rattle.duties.proofs.lines.less_return.Goals as goal

pub returns-then-all-eq0 : goal.returns-then-all-eq0
returns-then-all-eq0 c = search (less_none, rules)

pub returns-then-line-last-eq-RETURN : goal.returns-then-line-last-eq-RETURN
returns-then-line-last-eq-RETURN c = search (less_last, rules)

pub returns : goal.returns
returns c = search (less_all, rules)
