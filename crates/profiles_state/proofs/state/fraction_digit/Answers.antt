-- `profiles_state::state::fraction_digit` meets its contract: a digit past the point. Assumes nothing.
use Rattle.profiles_state.proofs.Fraction.{fractions}
use borrow.Author.Rules.{rules}
use Rattle.profiles_state.proofs.state.fraction_digit.Goals as goal

pub returns-then-t-ge-MOST_DIGITS : goal.returns-then-t-ge-MOST_DIGITS
returns-then-t-ge-MOST_DIGITS c = search (fractions, rules)

pub returns : goal.returns
returns c = search (fractions, rules)
