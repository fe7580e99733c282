-- `energy_report::working::report_accepted` meets its contract. Assumes nothing.
use native.Mathlib.Omega.{arith}
use Rattle.energy_report.proofs.OfTables.{left-small, tested_short, tested_right}
use Rattle.energy_report.proofs.working.report_accepted.Goals as goal

pub overflow_mul-subnets : goal.overflow_mul-subnets
overflow_mul-subnets c = omega (arith, left-small c.requires)

pub returns-then-curves-subnets : goal.returns-then-curves-subnets
returns-then-curves-subnets c = λ l. tested_short l c.if-curves-subnets.true c.new-refusal.ensures c.none.ensures c.no_report.ensures

pub work_out-requires : goal.work_out-requires
work_out-requires c = record { left = c.requires; room = c.if-curves-subnets.false }

pub returns : goal.returns
returns c = λ l. tested_right l c.if-curves-subnets.false (c.work_out.ensures l)
