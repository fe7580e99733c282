-- `text_write::put_number` meets its contract, by the laws of `Spelling`: the digits laid so far follow the number that is left. Assumes nothing.
use borrow.Author.Rules.{rules}
use Rattle.text_write.proofs.Spelling.{spelling_none, spelling_more, place_left, spelling_written}
use Rattle.text_write.proofs.put_number.Goals as goal

pub loop-left-init : goal.loop-left-init
loop-left-init c = search (spelling_none, rules)

pub overflow_sub-k : goal.overflow_sub-k
overflow_sub-k c = search (place_left, rules)

pub loop-left-preserved : goal.loop-left-preserved
loop-left-preserved c = search (spelling_more, rules)

pub returns : goal.returns
returns c = spelling_written c.loop-left.invariant c.loop-left-test.false c.put_bytes.ensures
