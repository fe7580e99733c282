-- `merge::read_and_merge` meets its contract: the files, then both solutions. Assumes nothing.
use Rattle.merge.proofs.OverFiles.{files_judgeable, files_refused, files_merged}
use Rattle.merge.proofs.read_and_merge.Goals as goal

pub merge_solutions-requires : goal.merge_solutions-requires
merge_solutions-requires c =
    let s = c.args in
    files_judgeable s.direction _ _ s.first.now s.second.now _ s.choices.now s.second_choices.now s.text.now c.read_files.ensures c.in-Ok.is

pub returns-in-Err : goal.returns-in-Err
returns-in-Err c =
    let s = c.args in
    files_refused s.direction _ _ s.first.now s.second.now _ s.choices.now s.second_choices.now s.text.now c.read_files.ensures c.in-Err.is c.not_written.ensures

pub returns-in-Ok : goal.returns-in-Ok
returns-in-Ok c =
    let read-files = c.read_files in
    let merge-solutions = c.merge_solutions in
    let s = c.args in
    files_merged s.direction _ _ s.first.now s.second.now _ s.choices.now s.second_choices.now s.text.now read-files.ensures c.in-Ok.is merge-solutions.ensures
