-- `profiles_row::number::number_end` meets its contract: an open number says what the machine's says. Assumes nothing.
use borrow.Author.Rules.{rules}
use Rattle.profiles_row.proofs.Near.{ways}
use Rattle.profiles_row.proofs.number.number_end.Goals as goal

pub returns-in-Empty : goal.returns-in-Empty
returns-in-Empty c = search (ways, rules)

pub returns-in-Zero : goal.returns-in-Zero
returns-in-Zero c = search (ways, rules)

pub returns-in-Digits : goal.returns-in-Digits
returns-in-Digits c = search (ways, rules)
