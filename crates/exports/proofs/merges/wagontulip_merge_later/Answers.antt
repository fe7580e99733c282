-- `exports::merges::wagontulip_merge_later` meets its contract: it is what `tell_merge` promises of this direction. Assumes nothing.
use Rattle.exports.proofs.merges.wagontulip_merge_later.Goals as goal

pub returns : goal.returns
returns c = c.tell_merge.ensures
