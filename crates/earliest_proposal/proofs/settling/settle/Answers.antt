-- `earliest_proposal::settling::settle` meets its contract. Assumes nothing.
use borrow.Author.Rules.{rules}
use Rattle.earliest_proposal.proofs.Restoring.{settle_wide, settle_within, settles}
use Rattle.earliest_proposal.proofs.settling.settle.Goals as goal

pub restore-requires : goal.restore-requires
restore-requires c = search (settle_wide, rules)

pub judge-requires : goal.judge-requires
judge-requires c = search (settle_within, rules)

pub returns : goal.returns
returns c = settles _ _ _ _ _ _ _ c.unpack_choices.ensures _ c.restore.ensures _ _ c.judge.ensures
