-- `constraints_tokens::token_here` meets its contract: a string, a run or a sign, by the byte that stands there. Assumes nothing.
use Rattle.rules.specs.Tokens.{in_run}
use Rattle.constraints_tokens.proofs.Here.{run_seen, sign_seen}
use Rattle.constraints_tokens.proofs.Scan.{scan_within}
use borrow.Author.Rules.{rules}
use native.Mathlib.Omega.{arith}
use native.Mathlib.Nat.{le_of_lt}
use Rattle.constraints_tokens.proofs.token_here.Goals as goal

pub overflow_cast-result-then-in_run : goal.overflow_cast-result-then-in_run
overflow_cast-result-then-in_run c = omega (arith, scan_within in_run _ _ _ c.run_end-end.ensures (le_of_lt c.requires.here), c.requires.short)

pub returns-then-in_run : goal.returns-then-in_run
returns-then-in_run c = search (run_seen, rules)

pub returns : goal.returns
returns c = search (sign_seen, rules)

pub slice_bounds-result-end : goal.slice_bounds-result-end
slice_bounds-result-end c = scan_within in_run _ _ _ c.run_end-end.ensures (le_of_lt c.requires.here)
