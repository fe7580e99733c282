-- `energy_figures::before::add_legs` meets its contract. The loop's invariant: the sums are those of the legs passed. Assumes nothing.
use native.Mathlib.Omega.{arith}
use Rattle.energy_figures.proofs.BeforeSteps.{none_summed}
use Rattle.energy_figures.proofs.before.add_legs.Goals as goal

pub loop-i-init : goal.loop-i-init
loop-i-init c = (omega arith, none_summed _ _)
