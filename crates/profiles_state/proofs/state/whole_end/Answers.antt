-- `profiles_state::state::whole_end` meets its contract: the point behind a sample's whole part. Assumes nothing.
use Rattle.profiles_state.proofs.Steps.{ways}
use borrow.Author.Rules.{rules}
use Rattle.profiles_state.proofs.state.whole_end.Goals as goal

pub returns-in-Some : goal.returns-in-Some
returns-in-Some c = search (ways, rules)

pub returns-in-None : goal.returns-in-None
returns-in-None c = search (ways, rules)
