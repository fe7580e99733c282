-- `exports::verdicts::wagontulip_check` meets its contract: the entry's outcome, told in numbers. Assumes nothing.
use Rattle.exports.proofs.verdicts.wagontulip_check.Goals as goal

pub returns : goal.returns
returns c = record { outcome = _; keeps = c.check-checked.ensures; tells = c.of_check.ensures }
