-- `duties_fields::contents::content` meets its contract: between the quotes, or all of it. Assumes nothing.
use borrow.Author.Rules.{rules}
use Rattle.duties_fields.proofs.Quoted.{content_none, content_from, content_fits, content_is}
use Rattle.duties_fields.proofs.contents.content.Goals as goal

pub overflow_sub-end : goal.overflow_sub-end
overflow_sub-end c = search (content_from, rules)

pub slice_bounds-result-count : goal.slice_bounds-result-count
slice_bounds-result-count c = search (content_fits, rules)

pub returns-then-is_content : goal.returns-then-is_content
returns-then-is_content c = search (content_is, rules)

pub returns : goal.returns
returns c = search (content_none, rules)
