-- `energy_figures::laying::lay_whole` meets its contract: zeros, and then all legs, are the curves. Assumes nothing.
use Rattle.energy_figures.proofs.LegsLaid.{curves-made}
use borrow.Author.Rules.{rules}
use Rattle.energy_figures.proofs.laying.lay_whole.Goals as goal

pub returns : goal.returns
returns c = search (curves-made, rules)
