-- `profiles_row::row::enter` meets its contract: three stores are the entry. Assumes nothing.
use native.Mathlib.Omega.{arith}
use lib.ListN.{length-set}
use Rattle.profiles_row.proofs.Entering.{three_stores}
use borrow.Author.Rules.{rules}
use Rattle.profiles_row.proofs.row.enter.Goals as goal

pub bounds-profiles-at-2 : goal.bounds-profiles-at-2
bounds-profiles-at-2 c = simp length-set (omega arith)

pub bounds-profiles-at-3 : goal.bounds-profiles-at-3
bounds-profiles-at-3 c = simp length-set (omega arith)

pub returns : goal.returns
returns c = search (three_stores, rules)
