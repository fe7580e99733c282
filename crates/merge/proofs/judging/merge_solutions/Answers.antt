-- `merge::judging::merge_solutions` meets its contract: both solutions are read, and each way out has its law. Assumes nothing.
use Rattle.merge.proofs.Solutions.{both_refused, both_disputable, both_merged}
use Rattle.merge.proofs.judging.merge_solutions.Goals as goal

pub merge_chosen-requires : goal.merge_chosen-requires
merge_chosen-requires c =
    let asked = c.requires in
    let choose-both = c.choose_both in
    let s = c.args in
    both_disputable s.direction s.first.now s.second.now s.choices.now s.second_choices.now s.text.now asked choose-both.ensures c.in-Ok.is

pub returns-in-Err : goal.returns-in-Err
returns-in-Err c =
    λ k.
    let s = c.args in
    both_refused s.direction s.first.now s.second.now s.choices.now s.second_choices.now s.text.now k c.choose_both.ensures c.in-Err.is c.not_written.ensures

pub returns-in-Ok : goal.returns-in-Ok
returns-in-Ok c =
    λ k.
    let s = c.args in
    both_merged s.direction s.first.now s.second.now s.choices.now s.second_choices.now s.text.now k c.choose_both.ensures c.in-Ok.is c.merge_chosen.ensures
