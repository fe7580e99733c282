-- `energy_parts::desk::pattern` meets its contract. Assumes nothing.
use lib.Ieee.{to_bits}
use Rattle.energy_parts.proofs.Patterns.{no_number_lem, number}
use borrow.Author.Rules.{rules}
use Rattle.energy_parts.proofs.desk.pattern.Goals as goal

pub returns-then-x : goal.returns-then-x
unfolding to_bits
returns-then-x c = no_number_lem c.args.x c.if-x.true

pub float_to_bits-result : goal.float_to_bits-result
float_to_bits-result c = search (number, rules)
