-- `energy_figures::laying::lay_legs` meets its contract. The loop's invariant: the legs that are left, laid, give the whole. Assumes nothing.
use Rattle.energy_figures.specs.Given.{given}
use Rattle.energy_figures.proofs.LegsLaid.{Walked}
use Rattle.energy_figures.proofs.laying.lay_legs.Given as goal

abbrev pub invariant-loop-i : goal.invariant-loop-i
invariant-loop-i l = Walked l.h l.w.from l.w.size (given l.counts l.choices l.legs l.profiles l.samples l.tracks) l.initial.table l.table l.i
