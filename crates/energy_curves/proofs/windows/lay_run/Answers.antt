-- `energy_curves::windows::lay_run` meets its contract: the samples within the window are added, the others are not. Assumes nothing.
use Rattle.energy_curves.proofs.Cutting.{run_cut, run_outside}
use borrow.Author.Rules.{rules}
use Rattle.energy_curves.proofs.windows.lay_run.Goals as goal

pub returns-then-first-last : goal.returns-then-first-last
returns-then-first-last c = search (run_cut, rules)

pub returns-else-first-last : goal.returns-else-first-last
returns-else-first-last c = search (run_outside, rules)
