-- `csv_lines::ends::clear_at` meets its contract. The loop's invariant: while the flag stands, the bytes passed end no line. Assumes nothing.
use mathlib.Core.Path.{sym}
use mathlib.Core.Bool.{true≢false}
use borrow.Author.Rules.{rules}
use Rattle.csv_lines.proofs.Clearing.{flagged_first, flagged_step, flagged_all}
use Rattle.csv_lines.proofs.ends.clear_at.Goals as goal

pub returns-then-text-lt-TOGETHER : goal.returns-then-text-lt-TOGETHER
returns-then-text-lt-TOGETHER c = λ e. absurd (true≢false (sym e))

pub returns-then-text-at : goal.returns-then-text-at
returns-then-text-at c = λ e. absurd (true≢false (sym e))

pub loop-k-init : goal.loop-k-init
loop-k-init c = search (flagged_first, rules)

pub loop-k-preserved : goal.loop-k-preserved
loop-k-preserved c = flagged_step c.loop-k.invariant c.loop-k-test.true

pub returns : goal.returns
returns c = search (flagged_all, rules)
