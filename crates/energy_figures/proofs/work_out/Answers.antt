-- `energy_figures::work_out` meets its contract: the curves are laid, and the figures worked out of them. Assumes nothing.
use Rattle.energy_figures.proofs.Figured.{front_table, worked_out}
use borrow.Author.Rules.{rules}
use Rattle.energy_figures.proofs.work_out.Goals as goal

pub figures-requires : goal.figures-requires
figures-requires c =
    let asked = c.requires in
    (front_table _ _ asked.0 _ _ c.lay.ensures, asked.0.legs)

pub returns : goal.returns
returns c = search (worked_out, rules)
