-- `earliest_offer::soonest_of` meets its contract. The loop keeps the soonest of the offers from `place` on. Assumes nothing.
use borrow.Author.Rules.{rules}
use Rattle.earliest_offer.proofs.Seeking.{seeking_begins, other_travel, too_soon_lem, sooner-found, later-passed, seeking_some}
use Rattle.earliest_offer.proofs.soonest_of.Goals as goal
use Rattle.earliest_offer.proofs.soonest_of.Goals.{else-offer-travel-via-then-offer-travel+then-least-departure+else-is_sooner, else-offer-travel-via-then-offer-travel+else-least-departure, else-offer-travel-via-else-offer-travel}

pub loop-place-init : goal.loop-place-init
loop-place-init c = search (seeking_begins, rules)

pub loop-place-preserved-then-is_sooner : goal.loop-place-preserved-then-is_sooner
loop-place-preserved-then-is_sooner c = search (sooner-found, rules)

pub loop-place-preserved : goal.loop-place-preserved
loop-place-preserved c =
    elim c.else-offer-travel.branch [
      | else-offer-travel-via-then-offer-travel+then-least-departure+else-is_sooner w ↦ search (later-passed, rules)
      | else-offer-travel-via-then-offer-travel+else-least-departure w ↦ search (too_soon_lem, rules)
      | else-offer-travel-via-else-offer-travel w ↦ search (other_travel, rules)
    ]

pub returns : goal.returns
returns c = seeking_some _ c.args.leg _ _ _ _ c.loop-place.invariant c.loop-place-test.false c.in_ok-best.field-0 c.in_ok-best.was
