-- `constraints_states::tracks::track_number` meets its contract: 6 before 7 before 16. Assumes nothing.
use Rattle.constraints_states.proofs.Numbers.{refused_number, track_full, track_new, track_seen, tracks_many}
use Rattle.rules.specs.Limits.{most_id}
use Rattle.rules.specs.Constraints.{track_number}
use native.Mathlib.Omega.{arith}
use Rattle.constraints_states.proofs.tracks.track_number.Goals as goal

pub returns-in_err-id : goal.returns-in_err-id
unfolding track_number
returns-in_err-id c = λ legs constraints d t says held. refused_number d t _ says _ most_id _ _ (omega arith) c.in_err-id.ensures c.from_residual.ensures.1

pub returns-then-n-ge-MOST : goal.returns-then-n-ge-MOST
returns-then-n-ge-MOST c = λ legs constraints d t says held. tracks_many _ _ _ _ _ _ _ says _ c.in_ok-id.ensures _ _ held c.if-n-ge-MOST.true

pub returns-in-Some : goal.returns-in-Some
returns-in-Some c = λ legs constraints d t says held. track_seen _ _ _ _ _ _ _ says _ c.in_ok-id.ensures _ _ held c.if-n-ge-MOST.false _ c.row_of.ensures _ c.in-Some.is

pub returns-then-room-n : goal.returns-then-room-n
returns-then-room-n c = λ legs constraints d t says held. track_full _ _ _ _ _ _ _ says _ c.in_ok-id.ensures _ _ held c.if-n-ge-MOST.false _ c.row_of.ensures c.in_default.is c.if-room-n.true

pub returns : goal.returns
returns c = λ legs constraints d t says held. track_new _ _ _ _ _ _ _ says _ c.in_ok-id.ensures _ _ held c.if-n-ge-MOST.false _ c.row_of.ensures _ c.in_default.is c.if-room-n.false c.to_phase.ensures
