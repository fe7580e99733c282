-- `profiles_state::state::fraction_step` meets its contract: a byte past the point. Assumes nothing.
use Rattle.profiles_state.proofs.Fraction.{fractions}
use borrow.Author.Rules.{rules}
use Rattle.profiles_state.proofs.state.fraction_step.Goals as goal

pub returns-then-b-gt57 : goal.returns-then-b-gt57
returns-then-b-gt57 c = search (fractions, rules)

pub returns : goal.returns
returns c = c.fraction_digit.ensures _ _ _
