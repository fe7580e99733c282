-- `verdict::judge` meets its contract: the rows' violation stays, else the records decide. Assumes nothing.
use borrow.Author.Rules.{rules}
use Rattle.verdict.proofs.Fits.{within_rows}
use Rattle.verdict.proofs.Joined.{records-asked, records_decide, rows_decide, no_refusal}
use Rattle.verdict.proofs.judge.Goals as goal

pub judge_rows-rows-requires : goal.judge_rows-rows-requires
judge_rows-rows-requires c = search (within_rows, rules)

pub judge_records-requires : goal.judge_records-requires
judge_records-requires c = records-asked _ _ _ _ c.requires c.judge_rows-rows.ensures.1

pub returns-in-Accepted : goal.returns-in-Accepted
returns-in-Accepted c = records_decide _ _ _ _ _ c.judge_rows-rows.ensures.0 c.in-Accepted.is _ c.judge_records.ensures

pub returns-in-Violated : goal.returns-in-Violated
returns-in-Violated c = rows_decide _ _ _ _ _ c.judge_rows-rows.ensures.0 _ c.in-Violated.is

pub returns-in-Refused : goal.returns-in-Refused
returns-in-Refused c = no_refusal _ _ _ _ _ c.judge_rows-rows.ensures.0 _ c.in-Refused.is
