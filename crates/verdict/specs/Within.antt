-- What the walk asks of the tables: they keep document 01's limits, as whatever a reader accepted does. A shortfall and a position then fit.
use Rattle.std.specs.Prelude.{ℕ, ◌+◌, ◌≤◌, ◌<◌, List, length, get_or}
use Rattle.rules.specs.Limits.{most_legs, most_horizon, most_constraints, most_seconds}
use Rattle.rules.specs.Kinds.{arrival}
use Rattle.rules.specs.Tally.{kind_count}
use Rattle.rules.specs.Verdict.{All}
use Rattle.rules.specs.declared.sizes.Configuration.{Configuration}
use Rattle.rules.specs.declared.sizes.Constraint.{Constraint}
use Rattle.rules.specs.declared.answers.Tally.{Tally}

-- departure plus travel at most the greatest H
abbrev pub Timely : Configuration → Type 0
Timely c = arrival c ≤ most_horizon

-- a record's kind has a count, and its seconds keep their limit
abbrev pub Brief : Constraint → Type 0
Brief c = (c.kind < kind_count) × (c.low ≤ most_seconds) × (c.high ≤ most_seconds)

pub record Within (cs : List Constraint) (s : List Configuration) : Type 0 where
  pub rows : length s ≤ most_legs
  pub records : length cs ≤ most_constraints
  pub timely : All Timely s
  pub brief : All Brief cs

-- a tally of at most so many tests: no count passes the total
pub record Fair (most : ℕ) (t : Tally) : Type 0 where
  pub few : t.total ≤ most
  pub each : (k : ℕ) → get_or t.kinds k 0 ≤ t.total

-- what follows for a record that fails: its kind has a count, so a byte names it, and its shortfall is small
abbrev pub most_shortfall : ℕ
most_shortfall = most_horizon + most_seconds

pub record Failed (kind short : ℕ) : Type 0 where
  pub known : kind < kind_count
  pub small : short ≤ most_shortfall
