-- `energy_parts::desk::divided` meets its contract: the casts lose nothing, and the quotient is rounded once. Assumes nothing.
use borrow.Author.Rules.{rules}
use Rattle.energy_parts.proofs.Once.{once}
use Rattle.energy_parts.proofs.desk.divided.Goals as goal

pub returns : goal.returns
returns c = search (once, rules)
