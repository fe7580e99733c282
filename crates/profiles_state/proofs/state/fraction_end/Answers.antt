-- `profiles_state::state::fraction_end` meets its contract: a space or LF closes the sample. Assumes nothing.
use mathlib.Core.Path.{refl}
use Rattle.profiles_state.proofs.Fraction.{fractions, fraction_line}
use borrow.Author.Rules.{rules}
use Rattle.profiles_state.proofs.state.fraction_end.Goals as goal

pub returns-then-t-eq0 : goal.returns-then-t-eq0
returns-then-t-eq0 c = search (fractions, rules)

pub close_sample-closed-requires : goal.close_sample-closed-requires
close_sample-closed-requires c = search (fractions, rules)

pub returns-then-b-eq32 : goal.returns-then-b-eq32
returns-then-b-eq32 c = search (fractions, rules)

pub close_sample-closed-requires-then-b-eq10 : goal.close_sample-closed-requires-then-b-eq10
close_sample-closed-requires-then-b-eq10 c = search (fractions, rules)

pub close_row-requires : goal.close_row-requires
close_row-requires c = search (fractions, rules)

pub returns-then-b-eq10 : goal.returns-then-b-eq10
returns-then-b-eq10 c = fraction_line _ _ _ _ _ _ _ _ c.if-t-eq0.false c.close_sample-closed-then-b-eq10.ensures.closes _ _ _ _ c.if-b-eq10.true refl c.close_row.ensures

pub returns : goal.returns
returns c = search (fractions, rules)
