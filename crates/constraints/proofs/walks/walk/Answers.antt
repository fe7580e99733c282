-- `constraints::walks::walk` meets its contract: between two tokens what is left of the run gives the whole run's outcome. Assumes nothing.
use Rattle.constraints.proofs.Going.{able_at, ends_good, ends_refused, few, going_emit, going_listed, going_named, going_on, going_opened, going_start, started, began_by, id_room, nearer, next_low, ready, step_goes, track_open}
use mathlib.Core.Path.{ap, ◌∙◌}
use native.Mathlib.Omega.{arith}
use Rattle.std.proofs.Common.{Ok}
use Rattle.std.proofs.lemmas.Result.{err_from_is_err_and}
use Rattle.constraints.proofs.walks.walk.Goals as goal

pub loop-step-init : goal.loop-step-init
loop-step-init c = going_start _ _ _ _ _ _ _ _ (started c.starting-st.ensures) c.none-seen.ensures

pub token_at-t-requires : goal.token_at-t-requires
token_at-t-requires c = able_at c.loop-step.invariant c.requires

pub turn-requires : goal.turn-requires
turn-requires c = ready c.loop-step.invariant c.token_at-t.result c.requires c.token_at-t.ensures

pub emit-st-requires : goal.emit-st-requires
emit-st-requires c = (next_low c.loop-step.invariant c.requires _, (few c.loop-step.invariant).constraints)

pub overflow_add-seen : goal.overflow_add-seen
overflow_add-seen c = omega (arith, (few c.loop-step.invariant).subnets)

pub name-st-requires : goal.name-st-requires
name-st-requires c = id_room c.loop-step.invariant c.token_at-t.result c.token_at-t.ensures c.of-room.ensures _ c.turn.ensures (c.in_ok-step.was ∙ ap Ok c.in-Named.is)

pub list-st-requires : goal.list-st-requires
list-st-requires c = (track_open c.loop-step.invariant c.token_at-t.result c.token_at-t.ensures c.of-room.ensures _ c.turn.ensures (c.in_ok-step.was ∙ ap Ok c.in-Listed.is), (few c.loop-step.invariant).subnets, (few c.loop-step.invariant).tracks)

pub loop-step-smaller-in-On : goal.loop-step-smaller-in-On
loop-step-smaller-in-On c = nearer c.loop-step.invariant c.token_at-t.result c.token_at-t.ensures c.of-room.ensures _ c.turn.ensures (ap step_goes (c.in_ok-step.was ∙ ap Ok c.in-On.is))

pub loop-step-preserved-in-On : goal.loop-step-preserved-in-On
loop-step-preserved-in-On c = going_on c.loop-step.invariant c.token_at-t.result c.token_at-t.ensures c.of-room.ensures _ c.turn.ensures (c.in_ok-step.was ∙ ap Ok c.in-On.is)

pub loop-step-smaller-in-Emit : goal.loop-step-smaller-in-Emit
loop-step-smaller-in-Emit c = nearer c.loop-step.invariant c.token_at-t.result c.token_at-t.ensures c.of-room.ensures _ c.turn.ensures (ap step_goes (c.in_ok-step.was ∙ ap Ok c.in-Emit.is))

pub loop-step-preserved-in-Emit : goal.loop-step-preserved-in-Emit
loop-step-preserved-in-Emit c = going_emit c.loop-step.invariant c.token_at-t.result c.token_at-t.ensures c.of-room.ensures _ c.turn.ensures (c.in_ok-step.was ∙ ap Ok c.in-Emit.is) c.emit-st.ensures.0 c.emit-st.ensures.1 c.emit-st.ensures.2 c.emit-st.ensures.3

pub loop-step-smaller-in-Opened : goal.loop-step-smaller-in-Opened
loop-step-smaller-in-Opened c = nearer c.loop-step.invariant c.token_at-t.result c.token_at-t.ensures c.of-room.ensures _ c.turn.ensures (ap step_goes (c.in_ok-step.was ∙ ap Ok c.in-Opened.is))

pub loop-step-preserved-in-Opened : goal.loop-step-preserved-in-Opened
loop-step-preserved-in-Opened c = going_opened c.loop-step.invariant c.token_at-t.result c.token_at-t.ensures c.of-room.ensures _ c.turn.ensures (c.in_ok-step.was ∙ ap Ok c.in-Opened.is)

pub loop-step-smaller-in-Named : goal.loop-step-smaller-in-Named
loop-step-smaller-in-Named c = nearer c.loop-step.invariant c.token_at-t.result c.token_at-t.ensures c.of-room.ensures _ c.turn.ensures (ap step_goes (c.in_ok-step.was ∙ ap Ok c.in-Named.is))

pub loop-step-preserved-in-Named : goal.loop-step-preserved-in-Named
loop-step-preserved-in-Named c = going_named c.loop-step.invariant c.token_at-t.result c.token_at-t.ensures c.of-room.ensures _ c.turn.ensures (c.in_ok-step.was ∙ ap Ok c.in-Named.is) c.name-st.ensures.0 c.name-st.ensures.1 c.name-st.ensures.2

pub loop-step-smaller : goal.loop-step-smaller
loop-step-smaller c = nearer c.loop-step.invariant c.token_at-t.result c.token_at-t.ensures c.of-room.ensures _ c.turn.ensures (ap step_goes (c.in_ok-step.was ∙ ap Ok c.in-Listed.is))

pub loop-step-preserved : goal.loop-step-preserved
loop-step-preserved c = going_listed c.loop-step.invariant c.token_at-t.result c.token_at-t.ensures c.of-room.ensures _ c.turn.ensures (c.in_ok-step.was ∙ ap Ok c.in-Listed.is) c.list-st.ensures.0 c.list-st.ensures.1 c.list-st.ensures.2

pub returns-in-Finish : goal.returns-in-Finish
returns-in-Finish c = ends_good c.loop-step.invariant c.token_at-t.result c.token_at-t.ensures c.of-room.ensures _ c.turn.ensures (began_by c.starting-st.ensures) (c.in_ok-step.was ∙ ap Ok c.in-Finish.is)

pub returns-in_err-step : goal.returns-in_err-step
returns-in_err-step c =
    let p = err_from_is_err_and c.from_residual.result c.from_residual.ensures.1 in
    rw (p.1, p.2) (ends_refused c.loop-step.invariant c.token_at-t.result c.token_at-t.ensures c.of-room.ensures _ c.turn.ensures (began_by c.starting-st.ensures) c.in_err-step.was)
