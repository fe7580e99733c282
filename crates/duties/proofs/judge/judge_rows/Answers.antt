-- `duties::judge::judge_rows` meets its contract: what the rows left will give, given to what the table holds, is the whole. Assumes nothing.
use native.Mathlib.Omega.{arith}
use borrow.Author.Rules.{rules}
use Rattle.duties.proofs.Judging.{judge_begin, judge_ready, judge-broken, judge_room, judge_few, judge_ends, judge_on, judge-end_room, judge-end}
use Rattle.duties.proofs.judge.judge_rows.Goals as goal

pub loop-place-init : goal.loop-place-init
loop-place-init c = search (judge_begin, rules)

pub row_rule-ruled-requires : goal.row_rule-ruled-requires
row_rule-ruled-requires c = search (judge_ready, rules)

pub returns-then-ruled-ne-NONE : goal.returns-then-ruled-ne-NONE
returns-then-ruled-ne-NONE c = search (judge-broken, rules)

pub turn-requires : goal.turn-requires
turn-requires c = search (judge_room, rules)

pub overflow_add-place : goal.overflow_add-place
overflow_add-place c = omega (arith, judge_ends _ _ _ _ _ _ c.requires _ _ _ _ _ _ c.loop-place.invariant c.loop-place-test.true _ c.find-place.ensures)

pub overflow_add-row : goal.overflow_add-row
overflow_add-row c = omega (arith, judge_few _ _ _ _ _ _ c.requires _ _ _ _ _ _ c.loop-place.invariant c.loop-place-test.true)

pub loop-place-preserved : goal.loop-place-preserved
loop-place-preserved c = search (judge_on, rules)

pub end_last-requires : goal.end_last-requires
end_last-requires c = search (judge-end_room, rules)

pub returns : goal.returns
returns c = search (judge-end, rules)
