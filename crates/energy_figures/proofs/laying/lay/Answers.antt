-- `energy_figures::laying::lay` meets its contract: the curves at the front, and the rest as it was. Assumes nothing.
use Rattle.energy_figures.proofs.LegsLaid.{front_made}
use Rattle.energy_figures.proofs.laying.lay.Goals as goal

pub returns : goal.returns
returns c = front_made _ _ _ _ _ c.lay_whole.ensures
