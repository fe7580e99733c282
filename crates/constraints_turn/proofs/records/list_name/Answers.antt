-- `constraints_turn::records::list_name` meets its contract: a known list is one of six. Assumes nothing.
use Prim.Native.Nat.{◌≤◌, ℕ}
use Rattle.constraints_turn.proofs.Keys.{list_within}
use Rattle.rules.specs.Kinds.{subnets}
use mathlib.Core.Path.{subst, sym}
use native.Mathlib.Omega.{arith}
use Rattle.constraints_turn.proofs.records.list_name.Goals as goal

pub list_bit-bit-requires : goal.list_bit-bit-requires
list_bit-bit-requires c = (omega (arith, c.if-list-eq-UNKNOWN.false), subst (λ (n : ℕ). n ≤ subnets) (sym c.list_named-list.ensures) (list_within _))
