-- `say_words::names::line` meets its contract, by the laws of `Lines`: the lines that are left from a line's start on. Assumes nothing.
use Rattle.say_words.proofs.Lines.{left_end, left_next, left-none, left_here}
use borrow.Author.Rules.{rules}
use Rattle.say_words.proofs.names.line.Goals as goal

pub returns-then-s-end : goal.returns-then-s-end
returns-then-s-end c = search (left-none, rules)

pub loop-i-preserved : goal.loop-i-preserved
loop-i-preserved c = search (left_next, rules)

pub slice_bounds-result-end-2 : goal.slice_bounds-result-end-2
slice_bounds-result-end-2 c = search (left_end, rules)

pub returns : goal.returns
returns c = search (left_here, rules)
