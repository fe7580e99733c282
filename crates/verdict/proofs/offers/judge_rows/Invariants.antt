-- `verdict::offers::judge_rows` meets its contract. The loop's invariant: the verdict of all rows is that of the rows left, after those counted. Assumes nothing.
use mathlib.Core.Path.{◌≡◌}
use Rattle.rules.specs.Tally.{no_tests}
use Rattle.verdict.specs.Within.{Fair}
use Rattle.verdict.proofs.RowSteps.{rows_left}
use Rattle.verdict.proofs.offers.judge_rows.Given as goal

abbrev pub invariant-loop-i : goal.invariant-loop-i
invariant-loop-i l =
    record {
      fair : Fair l.i l.tally;
      left : rows_left l.n l.legs l.configurations l.choices no_tests 0 ≡ rows_left l.n l.legs l.configurations l.choices l.tally l.i;
    }
