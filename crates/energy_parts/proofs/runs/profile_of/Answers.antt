-- `energy_parts::runs::profile_of` meets its contract: the first entry with the id, or none. Assumes nothing.
use Rattle.energy_parts.proofs.Lookup.{profile_found, profile_missing}
use borrow.Author.Rules.{rules}
use Rattle.energy_parts.proofs.runs.profile_of.Goals as goal

pub returns-in-Some : goal.returns-in-Some
returns-in-Some c = search (profile_found, rules)

pub returns-in-None : goal.returns-in-None
returns-in-None c = search (profile_missing, rules)
