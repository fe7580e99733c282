-- `verdict::records::judge_records` meets its contract. The loop's invariant: the verdict of all records is that of the records left, after the tests counted. Assumes nothing.
use native.Mathlib.Omega.{arith}
use mathlib.Core.Path.{refl}
use borrow.Author.Rules.{rules}
use Rattle.tables_views.specs.View.{constraint_at, configurations_in}
use Rattle.verdict.proofs.Tallies.{fair_start}
use Rattle.verdict.proofs.Fits.{position_fits, failed, records_countable, records_fair}
use Rattle.verdict.proofs.RecordSteps.{position_within, all_passed, record_passes, record_fails}
use Rattle.verdict.proofs.records.judge_records.Goals as goal

pub loop-i-init : goal.loop-i-init
loop-i-init c = record { follows = omega arith; fair = search (fair_start, rules); left = refl }

pub with-tally-requires : goal.with-tally-requires
with-tally-requires c = search (records_countable, rules)

pub violated-answer-requires : goal.violated-answer-requires
violated-answer-requires c = search (failed, rules)

pub overflow_add-next : goal.overflow_add-next
overflow_add-next c = search (position_fits, rules)

pub loop-i-preserved : goal.loop-i-preserved
loop-i-preserved c =
    let l = c.loop-i in
    let a = c.args in
    let entry = c.constraint_at-c in
    let position = c.position_after-position.ensures in
    let finding = c.judge_record-finding in
    let tests = c.tests_of.ensures in
    let tally = c.with-tally.ensures in
    record {
      follows = search (position_within, rules);
      fair = records_fair (configurations_in a.n a.choices.now) l.i l.tally l.invariant.fair entry.result _ finding.ensures _ tests _ tally;
      left =
          record_passes a.m (constraint_at a.constraints.now) (configurations_in a.n a.choices.now) _ l.tally l.before l.next l.i l.invariant.left c.loop-i-test.true _ entry.ensures _ position _ finding.ensures _ tests _ tally
          _ c.in_default.is;
    }

pub returns-in-Err : goal.returns-in-Err
returns-in-Err c =
    let l = c.loop-i in
    let a = c.args in
    let entry = c.constraint_at-c in
    let position = c.position_after-position.ensures in
    let finding = c.judge_record-finding in
    let tests = c.tests_of.ensures in
    let tally = c.with-tally.ensures in
    record_fails a.m (constraint_at a.constraints.now) (configurations_in a.n a.choices.now) _ l.tally l.before l.next l.i l.invariant.left c.loop-i-test.true _ entry.ensures _ position _ finding.ensures _ tests _ tally
    a.file _ c.in-Err.is _ c.violated-answer.ensures

pub returns-after-loop-i : goal.returns-after-loop-i
returns-after-loop-i c = search (all_passed, rules)
