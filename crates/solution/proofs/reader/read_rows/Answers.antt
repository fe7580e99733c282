-- The lines after the header, one a turn. What the loop keeps stands too far back for `search` after a turn, and is named. Assumes nothing.
use borrow.Author.Rules.{rules}
use Rattle.text_read.proofs.Laws.{found_from, found_within}
use Rattle.solution.proofs.Going.{going_first, whole, alone, earlier, goes_on, gone_short, gone_fault, gone_over}
use Rattle.solution.proofs.reader.read_rows.Goals as goal

pub loop-i-init : goal.loop-i-init
loop-i-init c = search (going_first, rules)

pub returns-then-text-e : goal.returns-then-text-e
returns-then-text-e c = search (gone_short, rules)

pub next_id-fresh-requires : goal.next_id-fresh-requires
next_id-fresh-requires c = search (whole, rules)

pub slice_bounds-turn-count : goal.slice_bounds-turn-count
slice_bounds-turn-count c = search (found_from, found_within, rules)

pub turn-line-requires : goal.turn-line-requires
turn-line-requires c = (search (alone, rules), search (earlier, rules))

pub returns-in-Some : goal.returns-in-Some
returns-in-Some c = let g = c.loop-i.invariant in search (gone_fault, rules)

pub compared_with-differing-requires : goal.compared_with-differing-requires
compared_with-differing-requires c = let g = c.loop-i.invariant in search (whole, rules)

pub overflow_add-i : goal.overflow_add-i
overflow_add-i c =
    let inside = c.if-text-e.false in
    let short = c.loop-i.invariant.headed.short in
    search rules

pub loop-i-smaller : goal.loop-i-smaller
loop-i-smaller c = search (found_from, rules)

pub loop-i-preserved : goal.loop-i-preserved
loop-i-preserved c = let g = c.loop-i.invariant in search (goes_on, rules)

pub returns : goal.returns
returns c = search (gone_over, rules)
