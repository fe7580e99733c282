-- `energy_report::working::work_out` meets its contract. Assumes nothing.
use mathlib.Core.Path.{refl}
use borrow.Author.Rules.{rules}
use Rattle.energy_report.proofs.OfTables.{left-profiles, left-tracks, left_readable, worked_exact, worked_out, risen_room}
use Rattle.energy_report.proofs.working.work_out.Goals as goal

pub risen-entries-requires : goal.risen-entries-requires
risen-entries-requires c = search (left-profiles, left-tracks, rules)

pub work_out-figures-requires : goal.work_out-figures-requires
work_out-figures-requires c = search (left_readable, risen_room, rules)

pub for_desk-desk-requires : goal.for_desk-desk-requires
for_desk-desk-requires c = worked_exact c.requires.left c.risen-entries.ensures c.work_out-figures.ensures

pub returns : goal.returns
returns c = λ l. worked_out l c.risen-entries.ensures c.work_out-figures.ensures refl c.for_desk-desk.ensures
