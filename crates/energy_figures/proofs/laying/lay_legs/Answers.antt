-- `energy_figures::laying::lay_legs` meets its contract. The loop's invariant: the legs that are left, laid, give the whole. Assumes nothing.
use borrow.Author.Rules.{rules}
use Rattle.energy_figures.proofs.LegsLaid.{walk_begins, leg_laying, walk_ends}
use Rattle.energy_figures.proofs.laying.lay_legs.Goals as goal

pub loop-i-init : goal.loop-i-init
loop-i-init c = search (walk_begins, rules)

pub loop-i-preserved : goal.loop-i-preserved
loop-i-preserved c = search (leg_laying, rules)

pub returns : goal.returns
returns c = search (walk_ends, rules)
