-- `text_read::numbers::digits` meets its contract: what is left from the loop's place on, after the value so far, makes the same run.
-- Assumes nothing.
use Prim.Native.Nat.{◌≤◌}
use mathlib.Core.Path.{◌≡◌}
use lib.ListN.{drop}
use Rattle.text_read.specs.Held.{past_id, ran_from}
use Rattle.text_read.proofs.numbers.digits.Given as goal

abbrev pub invariant-loop-next : goal.invariant-loop-next
invariant-loop-next l = (l.value ≤ past_id) × (ran_from l.value l.next (drop l.next l.s) ≡ ran_from l.n l.from (drop l.from l.s))
