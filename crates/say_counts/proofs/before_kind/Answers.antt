-- `say_counts::before_kind` meets its contract: the records of smaller kinds that are left from the loop's place on. Assumes nothing.
use Rattle.say_counts.proofs.Counting.{below_stop, below_more, below_end}
use borrow.Author.Rules.{rules}
use Rattle.say_counts.proofs.before_kind.Goals as goal

pub returns-then-kind-c : goal.returns-then-kind-c
returns-then-kind-c c = search (below_stop, rules)

pub loop-i-preserved : goal.loop-i-preserved
loop-i-preserved c = search (below_more, rules)

pub returns : goal.returns
returns c = search (below_end, rules)
