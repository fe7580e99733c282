-- `earliest_proposal::settling::propose` meets its contract. Assumes nothing.
use borrow.Author.Rules.{rules}
use Rattle.earliest_proposal.proofs.Rulings.{propose_settleable, propose_settled, propose_no_room, propose_never}
use Rattle.earliest_proposal.proofs.settling.propose.Goals as goal

pub settle-requires : goal.settle-requires
settle-requires c = search (propose_settleable, rules)

pub returns-then-n-room : goal.returns-then-n-room
returns-then-n-room c = search (propose_settled, rules)

pub returns-then-find : goal.returns-then-find
returns-then-find c = search (propose_no_room, rules)

pub returns : goal.returns
returns c = search (propose_never, rules)
