-- `constraints_turn::turn` meets its contract: each action by its name. Assumes nothing.
use borrow.Author.Rules.{rules}
use mathlib.Core.Path.{ap, refl}
use Rattle.rules.specs.Constraints.{act, on}
use Rattle.rules.specs.declared.tokens.State.{State}
use Rattle.constraints_turn.proofs.ByAction.{by_action, past-found, by_step, told_at}
use Rattle.constraints_turn.proofs.turn.Goals as goal
use Rattle.constraints_turn.proofs.turn.Goals.{in-Goes, in-ListName, in-DocumentEnds, in-RecordOpens, in-KeyName, in-RecordEnds, in-StringValue, in-NumberValue, in-TracksOpen, in-TrackNumber, in-Finishes}

pub returns-in-Broken : goal.returns-in-Broken
unfolding act
returns-in-Broken c = λ d tied. by_action _ _ _ _ _ _ _ _ _ c.action.ensures c.in-Broken.is (rw c.new.ensures refl)

pub returns-in-Early : goal.returns-in-Early
unfolding act
returns-in-Early c = λ d tied. by_action _ _ _ _ _ _ _ _ _ c.action.ensures c.in-Early.is (rw (c.new-in-Early.ensures, past-found c.args.t c.requires.starts))

pub returns-in-StringCut : goal.returns-in-StringCut
unfolding act
returns-in-StringCut c = λ d tied. by_action _ _ _ _ _ _ _ _ _ c.action.ensures c.in-StringCut.is (c.string_cut.ensures _ _ _ d _ refl (past-found c.args.t c.requires.starts))

pub returns : goal.returns
unfolding act
returns c = λ d tied.
    let m = told_at c.match-action.step c.map_err.result c.args.t.place d c.map_err.ensures.cases (λ e f h. search rules) in
    elim c.match-action.branch [
      | in-Goes w ↦ by_step _ _ _ _ _ _ _ _ _ _ _ _ m c.action.ensures w.step-is w.in-Goes.is (ap (λ (s : State). on s d) w.to_phase.ensures)
      | in-ListName w ↦ by_step _ _ _ _ _ _ _ _ _ _ _ _ m c.action.ensures w.step-is w.in-ListName.is (w.list_name-step.ensures _ _ _ d _)
      | in-DocumentEnds w ↦ by_step _ _ _ _ _ _ _ _ _ _ _ _ m c.action.ensures w.step-is w.in-DocumentEnds.is (w.document_ends-step.ensures _ _ _ d _)
      | in-RecordOpens w ↦ by_step _ _ _ _ _ _ _ _ _ _ _ _ m c.action.ensures w.step-is w.in-RecordOpens.is (w.record_opens-step.ensures _ _ d _ tied.constraints tied.opened)
      | in-KeyName w ↦ by_step _ _ _ _ _ _ _ _ _ _ _ _ m c.action.ensures w.step-is w.in-KeyName.is (w.key_name-step.ensures _ _ _ d _)
      | in-RecordEnds w ↦ by_step _ _ _ _ _ _ _ _ _ _ _ _ m c.action.ensures w.step-is w.in-RecordEnds.is (w.record_ends-step.ensures _ _ _ d _)
      | in-StringValue w ↦ by_step _ _ _ _ _ _ _ _ _ _ _ _ m c.action.ensures w.step-is w.in-StringValue.is (w.string_value-step.ensures _ _ _ d _)
      | in-NumberValue w ↦ by_step _ _ _ _ _ _ _ _ _ _ _ _ m c.action.ensures w.step-is w.in-NumberValue.is (w.number_value-step.ensures _ _ d _ w.read_whole.ensures tied.ids_held)
      | in-TracksOpen w ↦ by_step _ _ _ _ _ _ _ _ _ _ _ _ m c.action.ensures w.step-is w.in-TracksOpen.is (w.tracks_open-step.ensures _ _ _ d _)
      | in-TrackNumber w ↦ by_step _ _ _ _ _ _ _ _ _ _ _ _ m c.action.ensures w.step-is w.in-TrackNumber.is (w.track_number-step.ensures _ _ d _ w.read_whole-in-TrackNumber.ensures tied.tracks_held)
      | in-Finishes w ↦ by_step _ _ _ _ _ _ _ _ _ _ _ _ m c.action.ensures w.step-is w.in-Finishes.is refl
    ]
