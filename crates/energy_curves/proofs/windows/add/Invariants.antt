-- `energy_curves::windows::add` meets its contract. The loop's invariant: what is left to add, added, gives the whole. Assumes nothing.
use Rattle.energy_curves.proofs.Adding.{Adding}
use Rattle.energy_curves.proofs.windows.add.Given as goal

abbrev pub invariant-loop-j : goal.invariant-loop-j
invariant-loop-j l = Adding l.initial.table l.at l.xs l.table l.j
