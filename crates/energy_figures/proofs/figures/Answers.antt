-- `energy_figures::figures` meets its contract: each figure is what its function gives. Assumes nothing.
use Rattle.energy_figures.proofs.Figured.{figures-made}
use borrow.Author.Rules.{rules}
use Rattle.energy_figures.proofs.figures.Goals as goal

pub returns : goal.returns
returns c = search (figures-made, rules)
