-- `profiles_row::number::number_step` meets its contract: each digit takes the number where it takes the machine's. Assumes nothing.
use borrow.Author.Rules.{rules}
use Rattle.profiles_row.proofs.Near.{ways}
use Rattle.profiles_row.proofs.number.number_step.Goals as goal

pub returns-then-b-eq48 : goal.returns-then-b-eq48
returns-then-b-eq48 c = search (ways, rules)

pub returns-else-b-eq48 : goal.returns-else-b-eq48
returns-else-b-eq48 c = search (ways, rules)

pub returns-in-Zero : goal.returns-in-Zero
returns-in-Zero c = search (ways, rules)

pub returns-in-Digits : goal.returns-in-Digits
returns-in-Digits c = search (ways, rules)
