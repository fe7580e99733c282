-- `exports::merges::tell_merge` meets its contract: the entry's outcome, told in numbers. Assumes nothing.
use Rattle.exports.proofs.merges.tell_merge.Goals as goal

pub returns : goal.returns
returns c = record { outcome = _; keeps = c.merge-merged.ensures; tells = c.of_merge.ensures }
