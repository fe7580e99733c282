-- `constraints_states::values::subnet_value` meets its contract: a number that no subnet had. Assumes nothing.
use Rattle.constraints_states.proofs.Numbers.{refused_number, subnet_new, subnet_seen}
use Rattle.rules.specs.Limits.{most_id}
use Rattle.rules.specs.Constraints.{subnet_value}
use native.Mathlib.Omega.{arith}
use Rattle.constraints_states.proofs.values.subnet_value.Goals as goal

pub returns-in_err-id : goal.returns-in_err-id
unfolding subnet_value
returns-in_err-id c = λ legs constraints tracks d t says held. refused_number d t _ says _ most_id _ _ (omega arith) c.in_err-id.ensures c.from_residual.ensures.1

pub returns-in-Some : goal.returns-in-Some
returns-in-Some c = λ legs constraints tracks d t says held. subnet_seen _ _ _ _ _ _ _ says _ c.in_ok-id.ensures _ _ _ held c.row_of.ensures c.in-Some.is

pub returns-in-None : goal.returns-in-None
returns-in-None c = λ legs constraints tracks d t says held. subnet_new _ _ _ _ _ _ _ says _ c.in_ok-id.ensures _ _ _ held c.row_of.ensures c.in-None.is c.to_phase.ensures
