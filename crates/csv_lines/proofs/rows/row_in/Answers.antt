-- `csv_lines::rows::row_in` meets its contract: by whether a row starts there. Assumes nothing.
use borrow.Author.Rules.{rules}
use Rattle.csv_lines.proofs.Shown.{row_room, row_within, row_here, row-none}
use Rattle.csv_lines.proofs.rows.row_in.Goals as goal

pub shown_end-end-requires : goal.shown_end-end-requires
shown_end-end-requires c = search (row_room, rules)

pub slice_bounds-result-end : goal.slice_bounds-result-end
slice_bounds-result-end c = search (row_within, rules)

pub returns-then-starts_row : goal.returns-then-starts_row
returns-then-starts_row c = search (row_here, rules)

pub returns : goal.returns
returns c = search (row-none, rules)
