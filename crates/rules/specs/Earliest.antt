-- The earliest timetable (document 02, E10): "keep each leg's nominal travel time and propose the earliest solution". The legs begin at their soonest offers; then, one after
-- another, the leg that an inequality holds back is moved on to its next offer, until every inequality holds or there is no offer left. That no accepted solution with those travel
-- times has any leg leaving sooner is a theorem (`earliest_theorems`).
use Rattle.std.specs.Prelude.{ℕ, zero, suc, ◌+◌, ◌-◌, cond, ◌&&◌, List, [], ◌∷◌, map, leb, eqb, get_or, set, Option, Some, None}
use Rattle.rules.specs.Lists.{◌>>=◌, each, only}
use Rattle.rules.specs.Timetable.{Row, listed}
use Rattle.rules.specs.Kinds.{Inequality, connection}
use Rattle.rules.specs.Verdict.{choice_at, inequalities}
use Rattle.rules.specs.Merge.{sooner}
use Rattle.rules.specs.declared.sizes.Configuration.{Configuration}
use Rattle.rules.specs.declared.sizes.Constraint.{Constraint}

-- ---- the offers

-- those with a travel time
abbrev pub timed_of : (travel : ℕ) → List Configuration → List Configuration
timed_of t os = only (λ o. eqb o.travel t) os

-- those of a row with its nominal's
abbrev pub timed : Row → List Configuration
timed r = timed_of r.nominal.travel r.list

abbrev pub timed_rows : List Row → List (List Configuration)
timed_rows rows = map timed rows

abbrev pub sooner_than : Configuration → Option Configuration → Option Configuration
sooner_than o None = Some o
sooner_than o (Some c) = Some (sooner o c)

-- of the offers that leave at second m or after it, the one that leaves soonest; "where two offers differ only in profile, take the first listed"
abbrev pub soonest : ℕ → List Configuration → Option Configuration
soonest m [] = None
soonest m (o ∷ os) = cond (leb m o.departure) (sooner_than o (soonest m os)) (soonest m os)

-- ---- a leg that has to leave later

pub record Late : Type 0 where
  pub row : ℕ
  pub by : ℕ

-- the inequality of kind 5 that has its maximum, `d2 ≤ x + b`
abbrev pub at_most : ℕ
at_most = 2

-- where an inequality fails, the row whose time is its right side: the second, but the first under a connection's maximum
abbrev pub held_back : Constraint → (inequality : ℕ) → ℕ
held_back c i = cond (eqb c.kind connection && eqb i at_most) c.first c.second

-- the first inequality that fails, from inequality i on: its row has to leave later, by the shortfall
abbrev pub late_from : Constraint → ℕ → List Inequality → Option Late
late_from c i [] = None
late_from c i (q ∷ qs) =
    cond (leb q.left q.right) (late_from c (suc i) qs) (Some (record { row = held_back c i; by = q.left - q.right }))

abbrev pub or_next : Option Late → Option Late → Option Late
or_next None next = next
or_next (Some l) next = Some l

-- in the constraint table's order
abbrev pub first_late : List Configuration → List Constraint → Option Late
first_late s [] = None
first_late s (c ∷ cs) = or_next (late_from c 1 (inequalities s c)) (first_late s cs)

-- ---- the search

module _ (offers : List (List Configuration)) (cs : List Constraint) where
  abbrev pub on_offer : (List Configuration → Option (List Configuration)) → List Configuration → (row : ℕ) → Option Configuration → Option (List Configuration)
  on_offer more s row None = None
  on_offer more s row (Some c) = more (set s row c)

  -- the late row goes on to the soonest offer that leaves late enough
  abbrev pub on_late : (List Configuration → Option (List Configuration)) → List Configuration → Option Late → Option (List Configuration)
  on_late more s None = Some s
  on_late more s (Some l) = on_offer more s l.row (soonest ((choice_at s l.row).departure + l.by) (get_or offers l.row []))

  -- n is more than the steps that are needed
  unfoldable pub raised : ℕ → List Configuration → Option (List Configuration)
  raised zero s = None
  raised (suc n) s = on_late (raised n) s (first_late s cs)

-- every step passes over an offer, so there are no more steps than offers
unfoldable pub earliest : List Row → List Constraint → Option (List Configuration)
earliest rows cs = each (soonest 0) (timed_rows rows) >>= raised (timed_rows rows) cs (suc (listed rows))
