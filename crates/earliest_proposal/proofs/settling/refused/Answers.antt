-- `earliest_proposal::settling::refused` meets its contract. Assumes nothing.
use borrow.Author.Rules.{rules}
use Rattle.earliest_proposal.proofs.Rulings.{refused_is}
use Rattle.earliest_proposal.proofs.settling.refused.Goals as goal

pub returns : goal.returns
returns c = search (refused_is, rules)
