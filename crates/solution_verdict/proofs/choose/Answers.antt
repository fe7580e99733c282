-- `solution_verdict::choose` meets its contract: each way out by its law. Assumes nothing.
use mathlib.Core.Path.{refl}
use Rattle.solution_verdict.proofs.Choosing.{choose_able, choose_fault, choose_whole}
use Rattle.solution_verdict.proofs.choose.Goals as goal

pub read_choices-requires : goal.read_choices-requires
read_choices-requires c = choose_able c.requires

pub returns-in-Err : goal.returns-in-Err
returns-in-Err c = choose_fault _ _ c.args.counts _ _ _ c.in-Err.ensures refl c.in_file.ensures

pub returns-in-Ok : goal.returns-in-Ok
returns-in-Ok c = choose_whole _ _ c.args.counts _ _ _ c.in-Ok.ensures refl
