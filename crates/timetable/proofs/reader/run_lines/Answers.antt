-- The rows of a part: plain bytes, and then one that is not. Assumes nothing.
use mathlib.Core.Path.{sym, ◌∙◌}
use native.Mathlib.Omega.{arith}
use lib.ListN.{get_or}
use borrow.Author.Rules.{rules}
use Rattle.csv_marks.proofs.Moves.{step_most}
use Rattle.timetable.proofs.Run.{lining, lined_ran, lined_stopped, lining_on, lining_freed, lined_over, line_less, late_freed}
use Rattle.timetable.proofs.reader.run_lines.Goals as goal

pub loop-i-init : goal.loop-i-init
loop-i-init c = search (lining, rules)

pub returns-then-part-next : goal.returns-then-part-next
returns-then-part-next c = search (lined_ran, rules)

pub overflow_add-i : goal.overflow_add-i
overflow_add-i c =
    let byte = get_or c.args.part.now c.run_rows-ran.result.next 0 in
    let one = step_most c.loop-i.mark byte c.begins.result c.in-Some.moved c.in-Some.ensures in
    let inside = c.if-part-next.false in
    search rules

pub loop-i-smaller : goal.loop-i-smaller
loop-i-smaller c =
    let less = line_less c.run_rows-ran.ensures c.if-part-next.false c.begins.result c.in-Some.moved c.in-Some.ensures in
    omega (arith, late_freed c.freed-mark.ensures)

pub loop-i-preserved : goal.loop-i-preserved
loop-i-preserved c = let moved = c.in-Some.ensures in search (lining_on, lining_freed, rules)

pub returns-in_default : goal.returns-in_default
returns-in_default c =
    let held = c.loop-i.invariant in
    let ran = c.run_rows-ran.ensures in
    let inside = c.if-part-next.false in
    let begins = c.begins.ensures in
    lined_stopped held _ _ _ ran inside _ begins _ (sym c.in_default.is ∙ c.moved.ensures) c.stopped-line.ensures

pub returns : goal.returns
returns c = search (lined_over, rules)
