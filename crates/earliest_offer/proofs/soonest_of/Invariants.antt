-- `earliest_offer::soonest_of` meets its contract. The loop keeps the soonest of the offers from `place` on. Assumes nothing.
use Rattle.earliest_offer.proofs.Seeking.{Seeking}
use Rattle.earliest_offer.proofs.soonest_of.Given as goal

abbrev pub invariant-loop-place : goal.invariant-loop-place
invariant-loop-place l = Seeking l.configurations l.first l.count l.travel l.least l.best l.place
