-- So many zeros stand at the front, and the rest keeps its numbers. Assumes nothing.
use mathlib.Core.Path.{◌≡◌}
use lib.ListN.{replicate}
use lib.IntN.{pos}
use borrow.Author.Rules.{rules}
use Rattle.duties_nodes.proofs.Bumping.{cleared}
use Rattle.duties_nodes.proofs.balances.clear.Goals as goal

pub returns : goal.returns
returns c = let zeros : c.fill.new.self ≡ replicate c.args.n (pos 0) = search rules in cleared c.args.balance.now c.fill.new.self c.args.n zeros
