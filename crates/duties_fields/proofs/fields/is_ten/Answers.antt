-- What is left of the line has the fields that are left. Assumes nothing.
use borrow.Author.Rules.{rules}
use Rattle.duties_fields.proofs.Pieces.{ten_next, ten_end, ten_not, ten_past, ten_within}
use Rattle.duties_fields.proofs.fields.is_ten.Goals as goal

pub slice_bounds-is_content-end : goal.slice_bounds-is_content-end
slice_bounds-is_content-end c = search (ten_within, rules)

pub returns-then-not-is_content : goal.returns-then-not-is_content
returns-then-not-is_content c = search (ten_not, rules)

pub returns-then-line-end : goal.returns-then-line-end
returns-then-line-end c = search (ten_end, rules)

pub loop-n-preserved : goal.loop-n-preserved
loop-n-preserved c = search (ten_next, rules)

pub returns : goal.returns
returns c = search (ten_past, rules)
