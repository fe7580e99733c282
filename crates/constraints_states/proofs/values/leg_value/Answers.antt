-- `constraints_states::values::leg_value` meets its contract: a number that is the id of a row. Assumes nothing.
use Rattle.constraints_states.proofs.Numbers.{refused_number, leg-missing, leg_there}
use Rattle.constraints_states.proofs.Words.{row_there}
use Rattle.tables_ids.specs.Column.{column}
use Rattle.rules.specs.Limits.{leg_width, most_id}
use Rattle.rules.specs.Constraints.{leg_value}
use native.Mathlib.Omega.{arith}
use Rattle.tables_ids.proofs.Column.{column-length}
use Rattle.constraints_states.proofs.values.leg_value.Goals as goal

pub overflow_cast-row : goal.overflow_cast-row
overflow_cast-row c = omega (arith, row_there _ _ (column leg_width c.args.n c.args.legs.now) _ c.numbered.ensures c.in-Some.is, column-length leg_width c.args.n c.args.legs.now, c.requires.1)

pub returns-in_err-id : goal.returns-in_err-id
unfolding leg_value
returns-in_err-id c = λ constraints tracks d t says. refused_number d t _ says _ most_id _ _ (omega arith) c.in_err-id.ensures c.from_residual.ensures.1

pub returns-in-Some : goal.returns-in-Some
returns-in-Some c = λ constraints tracks d t says. leg_there _ _ _ _ _ _ _ says _ c.in_ok-id.ensures _ _ _ c.numbered.ensures c.in-Some.is c.given.ensures

pub returns-in-None : goal.returns-in-None
returns-in-None c = λ constraints tracks d t says. leg-missing _ _ _ _ _ _ _ says _ c.in_ok-id.ensures _ c.numbered.ensures c.in-None.is
