-- `files::parts::read_powers` meets its contract: each way out by its law. Assumes nothing.
use borrow.Author.Rules.{rules}
use Rattle.files.proofs.PowerWays.{powers_able, powers_refused, powers_row, powers_whole}
use Rattle.files.proofs.parts.read_powers.Goals as goal

pub profile_fault-requires : goal.profile_fault-requires
profile_fault-requires c =
    let given = c.args in
    let asked = c.requires in
    let read-profiles = c.read_profiles in
    powers_able given.counts _ _ _ _ _ _ _ _ read-profiles.ensures c.in-Ok.is asked

pub returns-in-Err : goal.returns-in-Err
returns-in-Err c = search (powers_refused, rules)

pub returns-in-Some : goal.returns-in-Some
returns-in-Some c = search (powers_row, rules)

pub returns-in-None : goal.returns-in-None
returns-in-None c = search (powers_whole, rules)
