-- What is left of the line has the fields that are left. Assumes nothing.
use lib.ListN.{length, drop}
use mathlib.Core.Path.{◌≡◌}
use Prim.Native.Nat.{◌+◌, ◌-◌, ◌≤◌}
use Rattle.rules.specs.Bytes.{comma, split_on, start_of}
use Rattle.duties_fields.proofs.fields.start_of.Given as goal

abbrev pub invariant-loop : goal.invariant-loop
invariant-loop l = (l.at ≤ length l.line) × (l.at + start_of (l.k - l.counter) (split_on comma (drop l.at l.line)) ≡ start_of l.k (split_on comma l.line))
