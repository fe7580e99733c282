-- Two numbers are put behind the others, or nothing. Assumes nothing.
use borrow.Author.Rules.{rules}
use Rattle.duties_nodes.proofs.Walking.{put_known, put_new}
use Rattle.duties_nodes.proofs.put_node.Goals as goal

pub returns-in-Some : goal.returns-in-Some
returns-in-Some c = search (put_known, rules)

pub returns-in-None : goal.returns-in-None
returns-in-None c = search (put_new, rules)
