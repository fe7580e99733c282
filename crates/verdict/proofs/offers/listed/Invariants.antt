-- `verdict::offers::listed` meets its contract. The loop's invariant: the whole list offers the choice just where what is left of it does. Assumes nothing.
use mathlib.Core.Path.{◌≡◌}
use Rattle.verdict.proofs.RowSteps.{offers_left}
use Rattle.verdict.proofs.offers.listed.Given as goal

abbrev pub invariant-loop-j : goal.invariant-loop-j
invariant-loop-j l = offers_left l.configurations l.first l.count l.choice 0 ≡ offers_left l.configurations l.first l.count l.choice l.j
