-- `checker_judge::read_and_judge` meets its contract: the files, the solution, the verdict, each way out by its law. Assumes nothing.
use Rattle.checker_judge.proofs.Checking.{files_stop, files_choosable, choice_stop, choice_ready, choice_judged}
use Rattle.checker_judge.proofs.read_and_judge.Goals as goal

pub choose-requires : goal.choose-requires
choose-requires c =
    let s = c.args in
    files_choosable _ _ s.solution.now _ s.choices.now c.read_files-filed.ensures c.in-Ok.is

pub judge_choices-ruling-requires : goal.judge_choices-ruling-requires
judge_choices-ruling-requires c =
    let read-files = c.read_files-filed in
    let choose = c.choose in
    choice_ready _ _ _ _ _ read-files.ensures c.in-Ok.is choose.ensures c.in-Ok-choose.is

pub returns-in-Err : goal.returns-in-Err
returns-in-Err c = files_stop _ _ _ _ _ c.read_files-filed.ensures c.in-Err.is c.refused.ensures

pub returns-in-Err-choose : goal.returns-in-Err-choose
returns-in-Err-choose c =
    let read-files = c.read_files-filed in
    let choose = c.choose in
    choice_stop _ _ _ _ _ read-files.ensures c.in-Ok.is choose.ensures c.in-Err-choose.is c.refused-in-Err-choose.ensures

pub returns-in-Ok-choose : goal.returns-in-Ok-choose
returns-in-Ok-choose c =
    let read-files = c.read_files-filed in
    let choose = c.choose in
    choice_judged _ _ _ _ _ read-files.ensures c.in-Ok.is choose.ensures c.in-Ok-choose.is c.judge_choices-ruling.ensures c.ruled.ensures
