-- `solution_verdict::judge_choices` meets its contract: the tables and the choices are those that were read. Assumes nothing.
use Rattle.solution_verdict.proofs.Judging.{judge_able, judge_right}
use Rattle.solution_verdict.proofs.judge_choices.Goals as goal

pub judge-requires : goal.judge-requires
judge-requires c = judge_able c.requires

pub returns : goal.returns
returns c = judge_right _ c.judge.ensures
