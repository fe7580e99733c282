-- `checker::energies::energy` meets its contract: what was read and laid stands; a violation fills the curves, and a refusal everything. Assumes nothing.
use Rattle.checker.proofs.ReportWays.{report_ends}
use Rattle.checker.proofs.energies.energy.Goals as goal

pub returns : goal.returns
returns c =
    let s = c.args in
    let r = c.read_and_report-report in
    report_ends r.ensures
    (record { legs = r.auto.legs; configurations = r.auto.configurations; profiles = r.auto.profile_table; samples = r.auto.samples; constraints = r.auto.constraint_table; tracks = r.auto.tracks })
    r.auto.choices r.auto.curves c.empty_tables.ensures c.empty_choices.ensures c.empty_curves.ensures
