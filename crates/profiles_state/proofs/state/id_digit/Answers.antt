-- `profiles_state::state::id_digit` meets its contract: a digit of the id. Assumes nothing.
use Rattle.profiles_state.proofs.Steps.{ways}
use borrow.Author.Rules.{rules}
use Rattle.profiles_state.proofs.state.id_digit.Goals as goal

pub returns-in-Some : goal.returns-in-Some
returns-in-Some c = search (ways, rules)

pub returns-in-None : goal.returns-in-None
returns-in-None c = search (ways, rules)
