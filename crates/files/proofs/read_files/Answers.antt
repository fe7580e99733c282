-- `files::read_files` meets its contract: the parts, one after the other. Assumes nothing.
use borrow.Author.Rules.{rules}
use Rattle.files.proofs.Joined.{files_draft, powers_listed, files_powers, rules-drafted, files_rules}
use Rattle.files.proofs.read_files.Goals as goal

pub returns-in_default : goal.returns-in_default
returns-in_default c = search (files_draft, rules)

pub read_powers-power-requires : goal.read_powers-power-requires
read_powers-power-requires c = search (powers_listed, rules)

pub returns-in_default-power : goal.returns-in_default-power
returns-in_default-power c = search (files_powers, rules)

pub read_rules-requires : goal.read_rules-requires
read_rules-requires c =
    let read-draft = c.read_draft-draft in
    let read-powers = c.read_powers-power in
    let s = c.args in
    rules-drafted s.stated s.timetable.now s.profiles.now s.constraints.now s.legs.now s.configurations.now s.profile_table.now s.samples.now s.constraint_table.now
    s.tracks.now read-draft.ensures c.in-Ok.is read-powers.ensures c.in-Ok-power.is

pub returns : goal.returns
returns c =
    let read-draft = c.read_draft-draft in
    let read-powers = c.read_powers-power in
    let read-rules = c.read_rules in
    files_rules _ _ _ _ _ _ _ _ _ _ read-draft.ensures c.in-Ok.is read-powers.ensures c.in-Ok-power.is
    read-rules.ensures
