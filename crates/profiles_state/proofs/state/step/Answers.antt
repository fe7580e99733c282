-- `profiles_state::state::step` meets its contract: a byte of any state. Assumes nothing.
use Rattle.profiles_state.proofs.Fraction.{fractions}
use borrow.Author.Rules.{rules}
use Rattle.profiles_state.proofs.state.step.Goals as goal

pub fraction_step-requires : goal.fraction_step-requires
fraction_step-requires c = search (fractions, rules)

pub returns-in-Id : goal.returns-in-Id
returns-in-Id c = search (fractions, rules)

pub returns-in-Whole : goal.returns-in-Whole
returns-in-Whole c = search (fractions, rules)

pub returns-in-Fraction : goal.returns-in-Fraction
returns-in-Fraction c = search (fractions, rules)

pub returns-in-Stopped : goal.returns-in-Stopped
returns-in-Stopped c = search (fractions, rules)
