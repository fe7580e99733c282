-- `verdict::records::judge_records` meets its contract. The loop's invariant: the verdict of all records is that of the records left, after the tests counted. Assumes nothing.
use Prim.Native.Nat.{◌+◌, ◌*◌, ◌≤◌}
use mathlib.Core.Path.{◌≡◌}
use Rattle.rules.specs.Limits.{most_legs}
use Rattle.rules.specs.Kinds.{not_offered}
use Rattle.tables_views.specs.View.{constraint_at, configurations_in}
use Rattle.verdict.specs.Within.{Fair}
use Rattle.verdict.proofs.RecordSteps.{records_left}
use Rattle.verdict.proofs.records.judge_records.Given as goal

abbrev pub invariant-loop-i : goal.invariant-loop-i
invariant-loop-i l =
    record {
      follows : l.next ≤ l.i;
      fair : Fair (most_legs + 2 * l.i) l.tally;
      left :
          records_left l.m (constraint_at l.constraints) (configurations_in l.n l.choices) l.initial.tally not_offered 0 0
          ≡ records_left l.m (constraint_at l.constraints) (configurations_in l.n l.choices) l.tally l.before l.next l.i;
    }
