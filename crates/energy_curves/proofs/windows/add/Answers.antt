-- `energy_curves::windows::add` meets its contract. The loop's invariant: what is left to add, added, gives the whole. Assumes nothing.
use borrow.Author.Rules.{rules}
use Rattle.energy_curves.proofs.Adding.{one_added}
use Rattle.energy_curves.proofs.windows.add.Goals as goal

pub loop-j-preserved : goal.loop-j-preserved
loop-j-preserved c = search (one_added, rules)
