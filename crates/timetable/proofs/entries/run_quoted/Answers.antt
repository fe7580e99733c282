-- Ids in quotes where neither a number nor a quote is open. Assumes nothing.
use borrow.Author.Rules.{rules}
use Rattle.timetable.proofs.Quoted.{passes_none, passes_open}
use Rattle.timetable.proofs.entries.run_quoted.Goals as goal

pub returns-in_default : goal.returns-in_default
returns-in_default c = search (passes_none, rules)

pub returns-then-is_empty : goal.returns-then-is_empty
returns-then-is_empty c = search (passes_open, rules)

pub returns : goal.returns
returns c = search (passes_none, rules)
