-- `csv_lines::places::place_of_row` meets its contract: what is left from the loop's place on has the rows that are left. Assumes nothing.
use borrow.Author.Rules.{rules}
use Rattle.csv_lines.proofs.RowPlaces.{row_here, row_on, byte_on, row-past}
use Rattle.csv_lines.proofs.places.place_of_row.Goals as goal
use Rattle.csv_lines.proofs.places.place_of_row.Goals.{then-b-eq-LINE_FEED+else-left-eq0, else-b-eq-LINE_FEED}

pub returns-then-left-eq0 : goal.returns-then-left-eq0
returns-then-left-eq0 c = search (row_here, rules)

pub loop-at-preserved : goal.loop-at-preserved
loop-at-preserved c =
    elim c.if-b-eq-LINE_FEED.branch [
      | then-b-eq-LINE_FEED+else-left-eq0 w ↦ search (row_on, rules)
      | else-b-eq-LINE_FEED w ↦ search (byte_on, rules)
    ]

pub returns : goal.returns
returns c = search (row-past, rules)
