-- `constraints_tables::put_numbers` meets its contract: what is left to be stored makes of the table what all of it makes. Assumes nothing.
use Prim.Native.Nat.{◌+◌}
use mathlib.Core.Path.{◌≡◌}
use lib.ListN.{drop}
use lib.Seq.{sets}
use Rattle.constraints_tables.proofs.put_numbers.Given as goal

abbrev pub invariant-loop-k : goal.invariant-loop-k
invariant-loop-k l = sets l.table (l.place + l.k) (drop l.k l.numbers) ≡ sets l.initial.table l.place l.numbers
