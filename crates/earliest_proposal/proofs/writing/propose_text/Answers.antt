-- `earliest_proposal::writing::propose_text` meets its contract. Assumes nothing.
use Prim.Native.Nat.{◌<◌}
use mathlib.Core.Path.{sym, ◌∙◌}
use native.Mathlib.Omega.{arith}
use lib.ListN.{length}
use Rattle.text_write.specs.Written.{last_place}
use Rattle.earliest_proposal.proofs.Ways.{makes_text, makes_no_room, makes_refused}
use Rattle.earliest_proposal.proofs.writing.propose_text.Goals as goal

pub returns-then-fits : goal.returns-then-fits
returns-then-fits c =
    let small : length c.args.text.now < last_place = omega arith in
    let proposed = c.propose-ruling.ensures in
    let accepted = sym c.is_accepted.ensures ∙ c.if-is_accepted.true in
    let written = c.write_proposal-length.ensures in
    makes_text _ _ _ _ _ _ c.args.text.now _ _ _ proposed accepted _ _ written small _ c.fits.ensures c.if-fits.true _ c.told.ensures

pub returns-then-is_accepted : goal.returns-then-is_accepted
returns-then-is_accepted c =
    let small : length c.args.text.now < last_place = omega arith in
    let proposed = c.propose-ruling.ensures in
    let accepted = sym c.is_accepted.ensures ∙ c.if-is_accepted.true in
    let written = c.write_proposal-length.ensures in
    makes_no_room _ _ _ _ _ _ c.args.text.now _ _ _ proposed accepted _ _ written small _ c.fits.ensures c.if-fits.false _ c.refused-short.ensures _ c.told-then-is_accepted.ensures _ _ _

pub returns : goal.returns
returns c =
    let proposed = c.propose-ruling.ensures in
    let refused = sym c.is_accepted.ensures ∙ c.if-is_accepted.false in
    makes_refused _ _ _ _ _ _ c.args.text.now _ _ _ proposed refused _ c.told-2.ensures _ _ _
