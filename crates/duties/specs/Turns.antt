-- The second pass: a line by its place, the rows that are left, and the balances after a row.
use Rattle.std.specs.Prelude.{ℕ, ◌+◌, ◌*◌, ◌≤◌, ◌<◌, ◌≡◌, cond, List, [], ◌∷◌, map, ltb, eqb, length, get_or, take, drop, ℤ, pos, negsuc, nat_abs, Result, Ok, Err, Some, None}
use Rattle.rules.specs.Limits.{most_text, most_events, node_width}
use Rattle.rules.specs.Lists.{over}
use Rattle.rules.specs.Answers.{good}
use Rattle.rules.specs.Bytes.{line_feed, split_on, less_return}
use Rattle.rules.specs.Rows.{place_of_row}
use Rattle.rules.specs.Duties.{duty_column, from_column, to_column, place_in, Event, broken, balance_from}
use Rattle.text_read.specs.Places.{up_to}
use Rattle.duties_fields.specs.Fields.{content_in}
use Rattle.duties_row.specs.Rowed.{event_in}
use Rattle.duties_row.specs.Ruled.{follows_in, rule_in}
use Rattle.duties_nodes.specs.Nodes.{view, Puts}
use Rattle.duties_nodes.specs.Balances.{bumped_at, most_balance}
use Rattle.duties.specs.Steps.{left_at, RowsAt}
use Rattle.duties.specs.declared.turns.Ruled.{Ruled}
use Rattle.duties.specs.declared.judge.Breach.{Breach}

-- the line from a place on, less its CR
unfoldable pub line_at : List ℕ → ℕ → List ℕ
line_at text place = less_return (take (up_to line_feed (drop place text)) (drop place text))

-- the events of the lines from a place on
abbrev pub events_in : List (List ℕ) → List Event
events_in [] = []
events_in (line ∷ []) = []
events_in (line ∷ next ∷ lines) = event_in (less_return line) ∷ events_in (next ∷ lines)

abbrev pub rest_at : List ℕ → ℕ → List Event
rest_at text place = events_in (split_on line_feed (drop place text))

-- a row's duty is put among the duties, and the lowest rule that the row breaks is told
pub record Rules (text d : List ℕ) (m last place : ℕ) (r : Ruled) (d' : List ℕ) : Type 0 where
  pub puts : Puts text d m (content_in duty_column (line_at text place)) (place + place_in duty_column (line_at text place)) r.duties d'
  pub rule : r.rule ≡ rule_in (ltb m r.duties) (line_at text last) (line_at text place)

-- the duty of the line before ends; before the first row there is none
unfoldable pub ended_in : (before : List ℕ) → List (List ℕ) → List ℤ → List ℤ
ended_in before names z = cond (eqb (length before) 0) z (bumped_at (content_in to_column before) (pos 1) 0 names z)

-- where a line is not of the duty before it, that one ends and its own starts
unfoldable pub turned_in : (before line : List ℕ) → List (List ℕ) → List ℤ → List ℤ
turned_in before line names z = cond (follows_in before line) z (bumped_at (content_in from_column line) (negsuc 0) 0 names (ended_in before names z))

-- each balance can be changed so often
pub record TurnRoom (table : List ℕ) (n : ℕ) (z : List ℤ) (more : ℕ) : Type 0 where
  pub nodes : n * node_width ≤ length table
  pub places : n ≤ length z
  pub low : (k : ℕ) → k < n → nat_abs (get_or z k (pos 0)) + more ≤ most_balance

-- the second pass begins: all rows are read, and each balance is 0
pub record Starts (text table : List ℕ) (n : ℕ) (d : List ℕ) (z : List ℤ) (from : ℕ) : Type 0 where
  pub room : ℕ
  pub left : left_at room text from [] ≡ good (rest_at text from)
  pub few : length (rest_at text from) ≤ most_events
  pub short : length text ≤ most_text
  pub within : from ≤ length text
  pub rows_at : RowsAt text 0 from
  pub nodes : n * node_width ≤ length table
  pub places : n ≤ length z
  pub zeros : (k : ℕ) → k < n → get_or z k (pos 0) ≡ pos 0
  pub duties : most_events * node_width ≤ length d

-- the answer of the second pass
pub data Judges (text table : List ℕ) (n : ℕ) (z₀ : List ℤ) (from : ℕ) : Result Unit Breach → List ℤ → Type 0 where
  all_kept : {z : List ℤ} → broken (rest_at text from) ≡ None → z ≡ over (map (balance_from None (rest_at text from)) (view text table n)) z₀ → Judges text table n z₀ from (Ok tt) z
  one_broken : {b : Breach} {z : List ℤ} → b.row ≤ most_events → b.place ≤ most_text → broken (rest_at text from) ≡ Some (record { row = b.row; number = b.rule })
      → b.place ≡ place_of_row text b.row → Judges text table n z₀ from (Err b) z
