-- `profiles_state::state::negate` meets its contract: a minus stands first or nowhere. Assumes nothing.
use Rattle.profiles_state.proofs.Steps.{ways}
use borrow.Author.Rules.{rules}
use Rattle.profiles_state.proofs.state.negate.Goals as goal

pub returns-then-negative : goal.returns-then-negative
returns-then-negative c = search (ways, rules)

pub returns-in-Empty : goal.returns-in-Empty
returns-in-Empty c = search (ways, rules)

pub returns-in-Zero : goal.returns-in-Zero
returns-in-Zero c = search (ways, rules)

pub returns-in-Digits : goal.returns-in-Digits
returns-in-Digits c = search (ways, rules)
