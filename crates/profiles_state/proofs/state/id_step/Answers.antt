-- `profiles_state::state::id_step` meets its contract: a byte of the id. Assumes nothing.
use Rattle.profiles_state.proofs.Steps.{ways}
use borrow.Author.Rules.{rules}
use Rattle.profiles_state.proofs.state.id_step.Goals as goal

pub returns-in-Some : goal.returns-in-Some
returns-in-Some c = search (ways, rules)

pub returns-in-None : goal.returns-in-None
returns-in-None c = search (ways, rules)

pub returns-then-b-lt48 : goal.returns-then-b-lt48
returns-then-b-lt48 c = search (ways, rules)

pub returns-then-b-gt57 : goal.returns-then-b-gt57
returns-then-b-gt57 c = search (ways, rules)
