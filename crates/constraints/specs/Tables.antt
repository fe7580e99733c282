-- What a walk over the text leaves in the tables, and what a reading of constraints.json answers.
use Rattle.std.specs.Prelude.{ℕ, ◌/◌, ◌≤◌, ◌≡◌, Bool, List, length, get_or, Result, Ok, Err}
use Rattle.rules.specs.Limits.{most_text, most_legs, most_constraints, leg_width, constraint_width, track_width}
use Rattle.rules.specs.Lists.{flat, over}
use Rattle.rules.specs.Answers.{Reading, refused, good}
use Rattle.rules.specs.Tokens.{tokens_of}
use Rattle.rules.specs.Constraints.{Document, empty, start, run, constraints_of, ordered, constraint_numbers, track_numbers}
use Rattle.rules.specs.declared.tokens.Rules.{Rules}
use Rattle.tables_ids.specs.Column.{Sought, column}
use Rattle.constraints_states.specs.declared.Counts.{Counts}
use Rattle.rules.specs.declared.answers.Fault.{Fault}
use Rattle.constraints_states.specs.Steps.{counts_of}
use Rattle.rules.specs.Answers.{fault_at}
use Rattle.constraints_tables.specs.Places.{nexts, written}

-- ---- a walk

-- what a text of at most the greatest length says, with these legs and this room
abbrev pub outcome : (rules : Rules) (text legs : List ℕ) (n : ℕ) (constraints tracks : List ℕ) → Reading Document
outcome rules text legs n constraints tracks =
    run (column leg_width n legs) (length constraints / constraint_width) (length tracks / track_width) (start rules) empty (tokens_of text)

-- the next places and the tables c and t before, those and c' and t' after
pub record Filled (starts : List ℕ) (sorts : Bool) (d : Document) (c t : List ℕ) (r : Result Counts Fault) (next c' t' : List ℕ) : Type 0 where
  pub answer : r ≡ Ok (counts_of d)
  pub places : next ≡ nexts starts d.constraints
  pub table : c' ≡ written sorts starts c d.constraints
  pub tracks : t' ≡ over (flat track_numbers d.tracks) t

unfoldable pub Walks : (starts : List ℕ) (sorts : Bool) → Reading Document → (c t : List ℕ) → Result Counts Fault → (next c' t' : List ℕ) → Type 0
Walks starts sorts (refused x) c t r next c' t' = r ≡ Err (fault_at x.number x.place)
Walks starts sorts (good d) c t r next c' t' = Filled starts sorts d c t r next c' t'

-- what a walk needs: a text that is not too long, the legs that are said to be there, places that are not past all limits
pub record Able (text legs : List ℕ) (n rising : ℕ) (starts : List ℕ) : Type 0 where
  pub short : length text ≤ most_text
  pub legs_there : Sought leg_width n rising legs
  pub few_legs : n ≤ most_legs
  pub low : (k : ℕ) → get_or starts k 0 ≤ most_constraints

-- ---- the whole reading

abbrev pub read_of : Reading Document → Result Counts Fault
read_of (refused x) = Err (fault_at x.number x.place)
read_of (good d) = Ok (counts_of d)

abbrev pub reading : (rules : Rules) (text legs : List ℕ) (n : ℕ) (constraints tracks : List ℕ) → Reading Document
reading rules text legs n constraints tracks =
    constraints_of (column leg_width n legs) (length constraints / constraint_width) (length tracks / track_width) rules text

-- by kind and then by file; tracks in file order; what lies past them keeps its contents
pub record Tables (d : Document) (c t c' t' : List ℕ) : Type 0 where
  pub by_kind : c' ≡ over (flat constraint_numbers (ordered d.constraints)) c
  pub by_file : t' ≡ over (flat track_numbers d.tracks) t

-- the answer always, the tables where the text was read
pub record Reads (o : Reading Document) (c t : List ℕ) (r : Result Counts Fault) (c' t' : List ℕ) : Type 0 where
  pub answer : r ≡ read_of o
  pub tables : (d : Document) → o ≡ good d → Tables d c t c' t'
