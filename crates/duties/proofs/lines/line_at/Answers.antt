-- `duties::lines::line_at` meets its contract. Assumes nothing.
use borrow.Author.Rules.{rules}
use Rattle.duties.proofs.Turning.{line-past, line_within, line_here}
use Rattle.duties.proofs.lines.line_at.Goals as goal

pub returns-then-text-place : goal.returns-then-text-place
returns-then-text-place c = search (line-past, rules)

pub slice_bounds-less_return-end : goal.slice_bounds-less_return-end
slice_bounds-less_return-end c = search (line_within, rules)

pub returns : goal.returns
returns c = search (line_here, rules)
