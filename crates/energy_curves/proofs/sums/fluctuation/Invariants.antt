-- `energy_curves::sums::fluctuation` meets its contract. The loop's invariant: the greatest and the least total of the seconds passed. Assumes nothing.
use Rattle.energy_curves.proofs.Totals.{Ranged}
use Rattle.energy_curves.proofs.sums.fluctuation.Given as goal

abbrev pub invariant-loop-t : goal.invariant-loop-t
invariant-loop-t l = Ranged l.h l.n l.curves l.most l.least l.t
