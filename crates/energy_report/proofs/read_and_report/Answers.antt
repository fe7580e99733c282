-- `energy_report::read_and_report` meets its contract. Assumes nothing.
use Rattle.energy_report.proofs.Reporting.{reported_short, counts_there, accepted_left, reported-tested}
use Rattle.energy_report.proofs.read_and_report.Goals as goal

pub unwrap-counts-requires : goal.unwrap-counts-requires
unwrap-counts-requires c = counts_there c.read_and_judge-judged.ensures c.is_accepted.ensures c.if-is_accepted.true

pub report_accepted-requires : goal.report_accepted-requires
report_accepted-requires c =
    accepted_left c.read_and_judge-judged.ensures c.is_accepted.ensures c.if-is_accepted.true c.unwrap-counts.ensures

pub returns-then-is_accepted : goal.returns-then-is_accepted
returns-then-is_accepted c =
    reported-tested c.read_and_judge-judged.ensures c.is_accepted.ensures c.if-is_accepted.true c.unwrap-counts.ensures
    c.report_accepted.ensures

pub returns : goal.returns
returns c = reported_short c.read_and_judge-judged.ensures c.is_accepted.ensures c.if-is_accepted.false c.no_report.ensures
