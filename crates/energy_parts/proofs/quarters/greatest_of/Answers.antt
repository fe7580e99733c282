-- `energy_parts::quarters::greatest_of` meets its contract. The loop's invariant: the peak of the sums passed. Assumes nothing.
use borrow.Author.Rules.{rules}
use Rattle.energy_parts.proofs.QuarterSums.{all_compared}
use Rattle.energy_parts.proofs.quarters.greatest_of.Goals as goal

pub returns : goal.returns
returns c = search (all_compared, rules)
