-- `exports::merges::wagontulip_merge_earlier` meets its contract: it is what `tell_merge` promises of this direction. Assumes nothing.
use Rattle.exports.proofs.merges.wagontulip_merge_earlier.Goals as goal

pub returns : goal.returns
returns c = c.tell_merge.ensures
