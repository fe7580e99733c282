-- `constraints_tokens::past_white` meets its contract: at each white byte the tokens that are left stay the same. Assumes nothing.
use Rattle.constraints_tokens.proofs.Scan.{Going}
use Rattle.constraints_tokens.proofs.past_white.Given as goal

abbrev pub invariant-loop-i : goal.invariant-loop-i
invariant-loop-i l = Going l.s l.at l.i
