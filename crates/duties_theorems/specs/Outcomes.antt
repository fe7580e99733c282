-- An outcome of `check_duties`: what was lent, what it gave back, and what was lent, as it is left.
use Rattle.std.specs.Prelude.{ℕ, List, ℤ}
use Rattle.rules.specs.Promises.{ChecksDuties}
use Rattle.rules.specs.declared.outcomes.Duties.{Duties}

pub record Outcome (text : List ℕ) : Type 0 where
  pub lent_nodes : List ℕ
  pub lent_balance : List ℤ
  pub result : Duties
  pub nodes : List ℕ
  pub balance : List ℤ
  pub keeps : ChecksDuties text lent_nodes lent_balance result nodes balance
