-- `profiles_state::state::whole_digit` meets its contract: a digit of a sample's whole part. Assumes nothing.
use Rattle.profiles_state.proofs.Steps.{ways}
use borrow.Author.Rules.{rules}
use Rattle.profiles_state.proofs.state.whole_digit.Goals as goal

pub returns-in-To : goal.returns-in-To
returns-in-To c = search (ways, rules)

pub returns-in-Broken : goal.returns-in-Broken
returns-in-Broken c = search (ways, rules)
