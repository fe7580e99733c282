-- `constraints_states::values::seconds_value` meets its contract: no more than the greatest. Assumes nothing.
use Rattle.constraints_states.proofs.Numbers.{refused_number}
use Rattle.rules.specs.Limits.{most_seconds}
use Rattle.rules.specs.Constraints.{seconds_value}
use native.Mathlib.Omega.{arith}
use Rattle.constraints_states.proofs.values.seconds_value.Goals as goal

pub returns-in_err-seconds : goal.returns-in_err-seconds
unfolding seconds_value
returns-in_err-seconds c = λ legs constraints tracks d t says. refused_number d t _ says _ most_seconds _ _ (omega arith) c.in_err-seconds.ensures c.from_residual.ensures.1
