-- `profiles_state::state::whole_step` meets its contract: a byte of a sample's whole part. Assumes nothing.
use Rattle.profiles_state.proofs.Steps.{ways}
use borrow.Author.Rules.{rules}
use Rattle.profiles_state.proofs.state.whole_step.Goals as goal

pub returns-then-b-eq46 : goal.returns-then-b-eq46
returns-then-b-eq46 c = search (ways, rules)

pub returns-then-b-eq45 : goal.returns-then-b-eq45
returns-then-b-eq45 c = search (ways, rules)

pub returns-then-b-lt48 : goal.returns-then-b-lt48
returns-then-b-lt48 c = search (ways, rules)

pub returns-then-b-gt57 : goal.returns-then-b-gt57
returns-then-b-gt57 c = search (ways, rules)
