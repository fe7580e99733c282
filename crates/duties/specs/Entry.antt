-- The entry: what both passes answer, and what an answer leaves in the two tables.
use Rattle.std.specs.Prelude.{ℕ, ◌*◌, ◌≤◌, ◌≡◌, List, [], map, length, ℤ, Some, None}
use Rattle.rules.specs.Limits.{most_text, most_events, most_nodes, node_width, unsigned_fill, signed_fill}
use Rattle.rules.specs.Lists.{over}
use Rattle.rules.specs.Answers.{good, broken_rule}
use Rattle.rules.specs.Rows.{place_of_row}
use Rattle.rules.specs.Entries.{filled}
use Rattle.rules.specs.Duties.{broken, balance_from, node_room, events_of, not_accepted, duties_checked}
use Rattle.rules.specs.declared.answers.Refusal.{Refusal}
use Rattle.rules.specs.declared.answers.BrokenRule.{BrokenRule}
use Rattle.rules.specs.declared.answers.Told.{Told}
use Rattle.rules.specs.declared.answers.Told.TheVariants.{Accepted, Broken, Refused}
use Rattle.duties_nodes.specs.Nodes.{view}
use Rattle.duties.specs.Steps.{left_at, RowsAt, Begins}
use Rattle.duties.specs.Turns.{rest_at}

-- all rows are read, and their nodes are in the table
pub record Whole (text table : List ℕ) (n : ℕ) (z : List ℤ) (from : ℕ) : Type 0 where
  pub room : ℕ
  pub left : left_at room text from [] ≡ good (rest_at text from)
  pub few : length (rest_at text from) ≤ most_events
  pub short : length text ≤ most_text
  pub within : from ≤ length text
  pub rows_at : RowsAt text 0 from
  pub nodes : n * node_width ≤ length table
  pub places : n ≤ length z
  pub most : n ≤ most_nodes

-- the rows judged: accepted with the balances, or broken
pub data Judged (text table : List ℕ) (n : ℕ) (z₀ : List ℤ) (from : ℕ) : Told → List ℤ → Type 0 where
  keeps : {z : List ℤ} → broken (rest_at text from) ≡ None → z ≡ over (map (balance_from None (rest_at text from)) (view text table n)) z₀ → Judged text table n z₀ from (Accepted n) z
  breaks : {row rule place : ℕ} {z : List ℤ} → broken (rest_at text from) ≡ Some (record { row = row; number = rule }) → place ≡ place_of_row text row
      → Judged text table n z₀ from (Broken (broken_rule row rule place)) z

-- the header is passed, and so many nodes have room
pub record Passed (room : ℕ) (text t : List ℕ) (z : List ℤ) (from : ℕ) : Type 0 where
  pub begins : Begins room text t from
  pub room_is : room ≡ node_room text t z
  pub rows : events_of room text ≡ left_at room text from []

-- the answer is the definition's, and where it is accepted so are the tables
pub data Tells (text t₀ : List ℕ) (z₀ : List ℤ) : Told → List ℕ → List ℤ → Type 0 where
  accepts : {n : ℕ} {t : List ℕ} {z : List ℤ} → duties_checked text t₀ z₀ ≡ record { answer = Accepted n; nodes = t; balance = z } → Tells text t₀ z₀ (Accepted n) t z
  tells_broken : {b : BrokenRule} {t : List ℕ} {z : List ℤ} → duties_checked text t₀ z₀ ≡ not_accepted text t₀ z₀ (Broken b) → Tells text t₀ z₀ (Broken b) t z
  tells_refused : {r : Refusal} {t : List ℕ} {z : List ℤ} → duties_checked text t₀ z₀ ≡ not_accepted text t₀ z₀ (Refused r) → Tells text t₀ z₀ (Refused r) t z

-- all but acceptance fills both
abbrev pub nodes_after : Told → List ℕ → List ℕ
nodes_after (Accepted n) t = t
nodes_after (Broken b) t = filled unsigned_fill t
nodes_after (Refused r) t = filled unsigned_fill t

abbrev pub balance_after : Told → List ℤ → List ℤ
balance_after (Accepted n) z = z
balance_after (Broken b) z = filled signed_fill z
balance_after (Refused r) z = filled signed_fill z
