-- `duties_fields::fields::field` meets its contract: a field goes from its start to the next comma. Assumes nothing.
use borrow.Author.Rules.{rules}
use Rattle.duties_fields.proofs.Pieces.{field_past, field_within, field_here}
use Rattle.duties_fields.proofs.fields.field.Goals as goal

pub returns-then-line-at : goal.returns-then-line-at
returns-then-line-at c = search (field_past, rules)

pub returns : goal.returns
returns c = search (field_here, rules)

pub slice_bounds-result-end-2 : goal.slice_bounds-result-end-2
slice_bounds-result-end-2 c = search (field_within, rules)
