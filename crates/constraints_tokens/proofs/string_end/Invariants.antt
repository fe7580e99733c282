-- `constraints_tokens::string_end` meets its contract: what is left from the loop's place on says where the bytes end that pass. Assumes nothing.
use mathlib.Core.Path.{◌≡◌}
use Prim.Native.Nat.{◌+◌}
use lib.ListN.{length, drop}
use Rattle.rules.specs.Lists.{lead}
use Rattle.rules.specs.Tokens.{in_string}
use Rattle.constraints_tokens.proofs.string_end.Given as goal

abbrev pub invariant-loop-i : goal.invariant-loop-i
invariant-loop-i l = l.i + length (lead in_string (drop l.i l.s)) ≡ l.at + length (lead in_string (drop l.at l.s))
