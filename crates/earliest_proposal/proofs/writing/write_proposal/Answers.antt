-- `earliest_proposal::writing::write_proposal` meets its contract. Assumes nothing.
use borrow.Author.Rules.{rules}
use Rattle.earliest_proposal.proofs.Texts.{writes}
use Rattle.earliest_proposal.proofs.writing.write_proposal.Goals as goal

pub returns : goal.returns
returns c = search (writes, rules)
