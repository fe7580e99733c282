-- `energy_parts::desk::for_desk` meets its contract: each figure within its bound is divided once. Assumes nothing.
use Rattle.rules.specs.Energy.{desk_of}
use Rattle.energy_parts.proofs.desk.for_desk.Goals as goal

pub returns : goal.returns
unfolding desk_of
returns c = cc
