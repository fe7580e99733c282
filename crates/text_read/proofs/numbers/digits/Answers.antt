-- `text_read::numbers::digits` meets its contract: what is left from the loop's place on, after the value so far, makes the same run.
-- Assumes nothing.
use mathlib.Core.Path.{sym, ◌∙◌}
use native.Mathlib.Omega.{arith}
use borrow.Author.Rules.{rules}
use Rattle.text_read.proofs.Digits.{run_starts, run_digit, run_other, run_ends}
use Rattle.text_read.proofs.numbers.digits.Goals as goal

pub loop-next-init : goal.loop-next-init
loop-next-init c = search (run_starts, rules)

pub returns-then-not-is_ascii_digit : goal.returns-then-not-is_ascii_digit
returns-then-not-is_ascii_digit c =
    let at = c.loop-next in
    run_other c.args.s.now at.value at.next _ at.invariant.1 at.invariant.0 c.loop-next-test.true (sym c.is_ascii_digit.ensures.value ∙ c.if-not-is_ascii_digit.true)

pub loop-next-preserved : goal.loop-next-preserved
loop-next-preserved c =
    let at = c.loop-next in (
      omega arith,
      run_digit c.args.s.now at.value at.next _ at.invariant.1 at.invariant.0 _ c.loop-next-test.true (sym c.is_ascii_digit.ensures.value ∙ c.if-not-is_ascii_digit.false) (omega arith),
    )

pub returns : goal.returns
returns c = run_ends c.args.s.now _ c.loop-next.next c.args.n c.args.from _ c.loop-next.invariant.1 c.loop-next.invariant.0 c.loop-next-test.false (omega arith) c.max.ensures
