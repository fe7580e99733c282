-- The header ends where the comparison says so, or it differs. Assumes nothing.
use borrow.Author.Rules.{rules}
use Rattle.solution.proofs.Heading.{head_right, head_short, head_wrong}
use Rattle.solution.proofs.reader.head_end.Goals as goal

pub returns-in_default : goal.returns-in_default
returns-in_default c = let wrong = c.in_default.is in search (head_wrong, rules)

pub returns-then-headed-lt-HEADER_LENGTH : goal.returns-then-headed-lt-HEADER_LENGTH
returns-then-headed-lt-HEADER_LENGTH c = let right = c.in-Ok.ensures in search (head_short, rules)

pub returns : goal.returns
returns c = let right = c.in-Ok.ensures in search (head_right, rules)
