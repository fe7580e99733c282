-- `csv_lines::rows::shown_end` meets its contract: by the line's end and its last byte. Assumes nothing.
use borrow.Author.Rules.{rules}
use Rattle.csv_lines.proofs.Shown.{shown-last, shown-empty, shown_return, shown_whole}
use Rattle.csv_lines.proofs.rows.shown_end.Goals as goal

pub returns-then-s-end : goal.returns-then-s-end
returns-then-s-end c = search (shown-last, rules)

pub returns-then-end-place : goal.returns-then-end-place
returns-then-end-place c = search (shown-empty, rules)

pub returns-then-s-last-eq-RETURN : goal.returns-then-s-last-eq-RETURN
returns-then-s-last-eq-RETURN c = search (shown_return, rules)

pub returns : goal.returns
returns c = search (shown_whole, rules)
