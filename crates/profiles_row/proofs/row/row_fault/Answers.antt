-- The tests in the order of their numbers. Assumes nothing.
use Rattle.profiles_row.proofs.Faults.{faults}
use borrow.Author.Rules.{rules}
use Rattle.profiles_row.proofs.row.row_fault.Goals as goal

pub returns-then-not-counts_fit : goal.returns-then-not-counts_fit
returns-then-not-counts_fit c = search (faults, rules)

pub is_new-requires : goal.is_new-requires
is_new-requires c = search (faults, rules)

pub returns-then-not-is_new : goal.returns-then-not-is_new
returns-then-not-is_new c = search (faults, rules)

pub returns : goal.returns
returns c = search (faults, rules)
