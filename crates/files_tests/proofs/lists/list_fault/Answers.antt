-- `files_tests::lists::list_fault` meets its contract: what was seen of the entries tells the fault. Assumes nothing.
use borrow.Author.Rules.{rules}
use Rattle.files_tests.proofs.Counts.{seeing_gone, counts}
use Rattle.files_tests.proofs.lists.list_fault.Goals as goal

pub returns-in_default : goal.returns-in_default
returns-in_default c = seeing_gone c.loop-k.invariant c.loop-k-test.true c.configuration_at-c.ensures c.see.ensures c.in_default.is

pub loop-k-preserved : goal.loop-k-preserved
loop-k-preserved c = search (counts, rules)
