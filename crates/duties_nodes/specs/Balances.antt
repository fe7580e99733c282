-- The balances, where a name's is changed.
use Rattle.std.specs.Prelude.{ℕ, ◌+◌, ◌*◌, ◌-◌, ◌≤◌, ◌<◌, ◌^◌, cond, List, [], ◌∷◌, length, get_or, ℤ, pos, nat_abs}
use Rattle.rules.specs.Limits.{node_width}
use Rattle.rules.specs.Lists.{same_list}
use Rattle.rules_theorems.specs.Laying.{add_at}

-- node i, where it has the name
abbrev pub bumped_one : (name : List ℕ) (by : ℤ) (i : ℕ) (node : List ℕ) → List ℤ → List ℤ
bumped_one name by i node t = cond (same_list name node) (add_at t i by) t

-- nodes, of which the first is node i
abbrev pub bumped_at : (name : List ℕ) (by : ℤ) (i : ℕ) → List (List ℕ) → List ℤ → List ℤ
bumped_at name by i [] t = t
bumped_at name by i (n ∷ ns) t = bumped_at name by (i + 1) ns (bumped_one name by i n t)

-- the greatest balance that can still be changed by 1
abbrev pub most_balance : ℕ
most_balance = 2 ^ 31 - 2

pub record OneRoom (table : List ℕ) (i : ℕ) (t : List ℤ) (by : ℤ) : Type 0 where
  pub node : i * node_width + 1 < length table
  pub place : i < length t
  pub low : nat_abs (get_or t i (pos 0)) ≤ most_balance
  pub one : nat_abs by ≤ 1

pub record BumpRoom (table : List ℕ) (n : ℕ) (t : List ℤ) (by : ℤ) : Type 0 where
  pub nodes : n * node_width ≤ length table
  pub places : n ≤ length t
  pub low : (k : ℕ) → k < n → nat_abs (get_or t k (pos 0)) ≤ most_balance
  pub one : nat_abs by ≤ 1
