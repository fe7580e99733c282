-- `energy_curves::sums::fluctuation` meets its contract. The loop's invariant: the greatest and the least total of the seconds passed. Assumes nothing.
use borrow.Author.Rules.{rules}
use Rattle.energy_curves.proofs.Totals.{range_more, range_fits, range_whole}
use Rattle.energy_curves.proofs.sums.fluctuation.Goals as goal

pub loop-t-preserved : goal.loop-t-preserved
loop-t-preserved c = search (range_more, rules)

pub overflow_sub-result : goal.overflow_sub-result
overflow_sub-result c = search (range_fits, rules)

pub returns : goal.returns
returns c = search (range_whole, rules)
