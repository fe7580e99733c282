-- `verdict::offers::judge_rows` meets its contract. The loop's invariant: the verdict of all rows is that of the rows left, after those counted. Assumes nothing.
use mathlib.Core.Path.{refl}
use borrow.Author.Rules.{rules}
use Rattle.verdict.proofs.Tallies.{fair_none, row_countable, fair_row, fair_rows, fair_failed}
use Rattle.verdict.proofs.RowSteps.{rows-passed, row_passes, row-fails}
use Rattle.verdict.proofs.offers.judge_rows.Goals as goal

pub loop-i-init : goal.loop-i-init
loop-i-init c = rw c.none-tally.ensures (record { fair = fair_none; left = refl })

pub with-tally-requires : goal.with-tally-requires
with-tally-requires c = search (row_countable, rules)

pub loop-i-preserved : goal.loop-i-preserved
loop-i-preserved c =
    let l = c.loop-i in
    let a = c.args in
    record {
      fair = search (fair_row, rules);
      left = row_passes a.n a.legs.now a.configurations.now a.choices.now _ l.tally l.i l.invariant.left c.loop-i-test.true _ c.is_offered.ensures _ c.with-tally.ensures c.if-not-is_offered.false;
    }

pub returns-then-not-is_offered : goal.returns-then-not-is_offered
returns-then-not-is_offered c =
    let l = c.loop-i in
    let a = c.args in (
      row-fails a.n a.legs.now a.configurations.now a.choices.now _ l.tally l.i l.invariant.left c.loop-i-test.true _ c.is_offered.ensures _
          c.with-tally.ensures c.if-not-is_offered.true a.file _ c.not_offered-answer.ensures,
      fair_failed a.n l.i l.tally _ l.invariant.fair c.with-tally.ensures c.loop-i-test.true,
    )

pub returns-after-loop-i : goal.returns-after-loop-i
returns-after-loop-i c = (search (rows-passed, rules), search (fair_rows, rules))
