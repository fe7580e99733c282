-- Each turn puts one choice where its id and itself stood. Assumes nothing.
use borrow.Author.Rules.{rules}
use Rattle.solution.proofs.Unpacking.{unpack_first, unpack_on, unpack_end}
use Rattle.solution.proofs.reader.unpack.Goals as goal

pub loop-i-init : goal.loop-i-init
loop-i-init c = search (unpack_first, rules)

pub loop-i-preserved : goal.loop-i-preserved
loop-i-preserved c = search (unpack_on, rules)

pub returns : goal.returns
returns c = search (unpack_end, rules)
