-- `checker::merges::merge` meets its contract: what was read and written stands; a violation zeroes the text, and a refusal fills everything. Assumes nothing.
use Rattle.rules.specs.Reading.{texts}
use Rattle.rules.specs.Entries.{tables}
use Rattle.checker.proofs.MergeWays.{merge_ends}
use Rattle.checker.proofs.merges.merge.Goals as goal

pub returns : goal.returns
returns c =
    let empty-tables = c.empty_tables in
    let empty-choices = c.empty_choices in
    let empty-choices2 = c.empty_choices-2 in
    let s = c.args in
    let r = c.read_and_merge-merged in
    merge_ends s.direction s.stated (texts s.timetable.now s.profiles.now s.constraints.now) s.first.now s.second.now (tables s.legs.now s.configurations.now s.profile_table.now s.samples.now s.constraint_table.now s.tracks.now) s.choices.now s.second_choices.now s.text.now r.ensures
    (record { legs = r.auto.legs; configurations = r.auto.configurations; profiles = r.auto.profile_table; samples = r.auto.samples; constraints = r.auto.constraint_table; tracks = r.auto.tracks })
    r.auto.choices r.auto.second_choices r.auto.text empty-tables.ensures empty-choices.ensures empty-choices2.ensures c.empty_text.ensures
