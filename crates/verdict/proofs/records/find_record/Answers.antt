-- `verdict::records::find_record` meets its contract: the kind's row of the table gives its inequalities. Assumes nothing.
use borrow.Author.Rules.{rules}
use Rattle.verdict.proofs.KindRows.{no_kind_lem, no_such_kind, by_table_lem}
use Rattle.verdict.proofs.records.find_record.Goals as goal
use Rattle.verdict.proofs.records.find_record.Goals.{then-kind-lt1-via-then-kind-lt1, then-kind-lt1-via-else-kind-lt1+then-kind-gt-COUNT}

pub returns-then-kind-lt1 : goal.returns-then-kind-lt1
returns-then-kind-lt1 c =
    elim c.then-kind-lt1.branch [
      | then-kind-lt1-via-then-kind-lt1 w ↦ search (no_kind_lem, rules)
      | then-kind-lt1-via-else-kind-lt1+then-kind-gt-COUNT w ↦ search (no_such_kind, rules)
    ]

pub returns : goal.returns
returns c = search (by_table_lem, rules)
