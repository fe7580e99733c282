-- `constraints::walks::walk` meets its contract: between two tokens what is left of the run gives the whole run's outcome. Assumes nothing.
use Prim.Native.Nat.{◌-◌}
use Rattle.constraints.proofs.Going.{Going}
use lib.ListN.{length}
use Rattle.constraints.proofs.walks.walk.Given as goal

abbrev pub invariant-loop-step : goal.invariant-loop-step
invariant-loop-step l =
    Going l.initial.st.rules l.text l.legs l.n l.initial.constraints l.initial.tracks l.initial.next l.sorts l.at l.st l.seen l.ids l.next l.constraints l.tracks

abbrev pub decreases-loop-step : goal.decreases-loop-step
decreases-loop-step l =
    length l.text - l.at
