-- `checker::verdicts::check` meets its contract: what was read stands, and after a refusal everything is filled. Assumes nothing.
use Rattle.rules.specs.Reading.{texts}
use Rattle.rules.specs.Entries.{tables}
use Rattle.checker.proofs.CheckWays.{check_ends}
use Rattle.checker.proofs.verdicts.check.Goals as goal

pub returns : goal.returns
returns c =
    let s = c.args in
    let r = c.read_and_judge-judged in
    check_ends s.stated (texts s.timetable.now s.profiles.now s.constraints.now) s.solution.now (tables s.legs.now s.configurations.now s.profile_table.now s.samples.now s.constraint_table.now s.tracks.now) s.choices.now r.ensures
    (record { legs = r.auto.legs; configurations = r.auto.configurations; profiles = r.auto.profile_table; samples = r.auto.samples; constraints = r.auto.constraint_table; tracks = r.auto.tracks })
    r.auto.choices c.empty_tables.ensures c.empty_choices.ensures
