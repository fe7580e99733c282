-- `energy_parts::sides::sides_of` meets its contract. The loop's invariant: the two sums are those of the powers passed. Assumes nothing.
use Rattle.energy_parts.proofs.SideSums.{Summed}
use Rattle.energy_parts.proofs.sides.sides_of.Given as goal

abbrev pub invariant-loop-x : goal.invariant-loop-x
invariant-loop-x l = Summed l.p l.x-index l.drawn l.lost
