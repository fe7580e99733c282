-- `duties_nodes::balances::bump` meets its contract: what is left to look at gives the whole. Assumes nothing.
use Rattle.duties_nodes.proofs.Bumping.{Bumping}
use Rattle.duties_nodes.proofs.balances.bump.Given as goal

abbrev pub invariant-loop-i : goal.invariant-loop-i
invariant-loop-i l = Bumping l.text l.table l.n l.name l.by l.initial.balance l.balance l.i
