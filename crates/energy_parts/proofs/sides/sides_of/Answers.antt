-- `energy_parts::sides::sides_of` meets its contract. The loop's invariant: the two sums are those of the powers passed. Assumes nothing.
use borrow.Author.Rules.{rules}
use Rattle.energy_parts.proofs.SideSums.{all_added}
use Rattle.energy_parts.proofs.sides.sides_of.Goals as goal

pub returns : goal.returns
returns c = search (all_added, rules)
