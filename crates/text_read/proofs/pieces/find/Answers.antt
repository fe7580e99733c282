-- `text_read::pieces::find` meets its contract: what is left from the loop's place on says where the first separator stands. Assumes nothing.
use borrow.Author.Rules.{rules}
use Rattle.text_read.proofs.Laws.{found, passed, none_left}
use Rattle.text_read.proofs.pieces.find.Goals as goal

pub returns-then-s-at : goal.returns-then-s-at
returns-then-s-at c = search (found, rules)

pub loop-at-preserved : goal.loop-at-preserved
loop-at-preserved c = search (passed, rules)

pub returns : goal.returns
returns c = search (none_left, rules)
