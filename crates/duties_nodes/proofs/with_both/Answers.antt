-- Each name is known or new, and two new ones may be one. Assumes nothing.
use borrow.Author.Rules.{rules}
use Rattle.duties_nodes.proofs.Walking.{both_in, to_more, from_more, one_more, two_more}
use Rattle.duties_nodes.proofs.with_both.Goals as goal

pub returns-in-Some-Some : goal.returns-in-Some-Some
returns-in-Some-Some c = search (both_in, rules)

pub returns-in-Some-None : goal.returns-in-Some-None
returns-in-Some-None c = search (to_more, rules)

pub returns-in-None-Some : goal.returns-in-None-Some
returns-in-None-Some c = search (from_more, rules)

pub returns-then-same_name : goal.returns-then-same_name
returns-then-same_name c = search (one_more, rules)

pub returns-else-same_name : goal.returns-else-same_name
returns-else-same_name c = search (two_more, rules)
