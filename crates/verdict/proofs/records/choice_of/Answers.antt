-- `verdict::records::choice_of` meets its contract: a row of the table is seen, a row past the last has no choice. Assumes nothing.
use mathlib.Core.Path.{sym, ◌∙◌}
use lib.ListN.{get_or-eq_default}
use Rattle.rules.specs.Verdict.{no_choice}
use Rattle.rules_theorems.proofs.Tabulate.{tabulate-at, tabulate-length}
use Rattle.tables_views.specs.View.{configuration_at, configurations_in}
use Rattle.verdict.proofs.records.choice_of.Goals as goal

pub returns-then-row-n : goal.returns-then-row-n
returns-then-row-n c =
    let a = c.args in
    c.configuration_at.ensures ∙ sym (tabulate-at a.n (configuration_at a.choices.now) no_choice a.row c.if-row-n.true)

pub returns-else-row-n : goal.returns-else-row-n
returns-else-row-n c =
    let a = c.args in
    sym (get_or-eq_default (configurations_in a.n a.choices.now) no_choice (rw (tabulate-length a.n (configuration_at a.choices.now)) c.if-row-n.false))
