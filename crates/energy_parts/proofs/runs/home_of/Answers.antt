-- `energy_parts::runs::home_of` meets its contract: the first track with the id, or none. Assumes nothing.
use Rattle.energy_parts.proofs.Lookup.{home_found, home_missing}
use borrow.Author.Rules.{rules}
use Rattle.energy_parts.proofs.runs.home_of.Goals as goal

pub returns-in-Some : goal.returns-in-Some
returns-in-Some c = search (home_found, rules)

pub returns-in-None : goal.returns-in-None
returns-in-None c = search (home_missing, rules)
