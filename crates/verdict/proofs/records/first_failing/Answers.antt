-- `verdict::records::first_failing` meets its contract: as many inequalities as the row has, up to the first that fails. Assumes nothing.
use borrow.Author.Rules.{rules}
use Rattle.verdict.proofs.Inequalities.{found_none, found_first, found_one, found-second, found_both}
use Rattle.verdict.proofs.records.first_failing.Goals as goal

pub returns-then-count-lt1 : goal.returns-then-count-lt1
returns-then-count-lt1 c = search (found_none, rules)

pub returns-then-short-gt0 : goal.returns-then-short-gt0
returns-then-short-gt0 c = search (found_first, rules)

pub returns-then-count-lt2 : goal.returns-then-count-lt2
returns-then-count-lt2 c = search (found_one, rules)

pub returns-then-second-gt0 : goal.returns-then-second-gt0
returns-then-second-gt0 c = search (found-second, rules)

pub returns : goal.returns
returns c = search (found_both, rules)
