-- `energy_parts::quarters::in_quarter` meets its contract: the part of the run that falls into the quarter is summed. Assumes nothing.
use Rattle.energy_parts.proofs.WindowSums.{quarter-part}
use borrow.Author.Rules.{rules}
use Rattle.energy_parts.proofs.quarters.in_quarter.Goals as goal

pub returns : goal.returns
returns c = search (quarter-part, rules)
