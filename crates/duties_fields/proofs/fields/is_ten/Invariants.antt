-- What is left of the line has the fields that are left. Assumes nothing.
use lib.ListN.{length, drop}
use mathlib.Core.Path.{◌≡◌}
use Prim.Native.Nat.{◌≤◌}
use Rattle.duties_fields.specs.Fields.{ten_from, is_ten}
use Rattle.rules.specs.Bytes.{comma, split_on}
use Rattle.duties_fields.proofs.fields.is_ten.Given as goal

abbrev pub invariant-loop-n : goal.invariant-loop-n
invariant-loop-n l = (l.at ≤ length l.line) × (ten_from l.n (split_on comma (drop l.at l.line)) ≡ is_ten l.line)
