-- `exports::energies::wagontulip_energy` meets its contract: the entry's outcome, told in numbers. Assumes nothing.
use Rattle.exports.proofs.energies.wagontulip_energy.Goals as goal

pub returns : goal.returns
returns c = record { outcome = _; keeps = c.energy-report.ensures; tells = c.of_report.ensures }
