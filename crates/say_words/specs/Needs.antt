-- What an inequality that fails asks of the second leg.
use Rattle.std.specs.Prelude.{ℕ, ◌+◌, ◌-◌, cond, eqb}
use Rattle.rules.specs.Kinds.{headway, departure, arrival}
use Rattle.rules.specs.declared.sizes.Configuration.{Configuration}
use Rattle.say_words.specs.declared.needs.Bound.{Bound}
use Rattle.say_words.specs.declared.needs.Bound.TheVariants.{DepartsFrom, ArrivesFrom, DepartsBy}

-- the second leg, by as many seconds as are short: departs later; of a headway's second inequality, arrives later; of a connection's, departs earlier
unfoldable pub needed_of : (kind inequality short : ℕ) → (two : Configuration) → Bound
needed_of kind i short two =
    cond (eqb i 2)
    (cond (eqb kind headway) (ArrivesFrom (arrival two + short)) (DepartsBy (departure two - short)))
    (DepartsFrom (departure two + short))
