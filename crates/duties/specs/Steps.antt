-- A row after the rows before it, by the nodes so far.
use Rattle.std.specs.Prelude.{ℕ, ◌+◌, ◌*◌, ◌≤◌, ◌≡◌, List, [], length, drop, Result, Ok, Err}
use Rattle.rules.specs.Limits.{node_width, most_text, most_events, most_nodes}
use Rattle.rules.specs.Answers.{Reading, good, refused, refusal, duties_file}
use Rattle.rules.specs.Lists.{over}
use Rattle.rules.specs.Bytes.{line_feed, split_on, start_of}
use Rattle.rules.specs.Rows.{rows_from, place_of_row}
use Rattle.rules.specs.Duties.{Event, place_in, nodes_of, places_from, row_of, from_column, to_column}
use Rattle.duties.specs.declared.pass.Pass.{Pass}
use Rattle.duties.specs.declared.pass.Fault.{Fault}
use Rattle.duties_fields.specs.Fields.{content_in}
use Rattle.duties_row.specs.Rowed.{line_fault, count_fault, or_fault}
use Rattle.duties_nodes.specs.Nodes.{view, with_both, Puts}

abbrev pub row_fault : (nodes : List (List ℕ)) (rows room : ℕ) (line : List ℕ) → ℕ
row_fault nodes rows room line = or_fault (line_fault line) (count_fault line rows (length (with_both nodes (content_in from_column line) (content_in to_column line))) room)

-- a name that is put: its line ends within a text of lawful length, and it has a byte
pub record Near (place : ℕ) (line : List ℕ) (k : ℕ) : Type 0 where
  pub short : place + length line ≤ most_text
  pub some_byte : 1 ≤ length (content_in k line)

pub record Ready (t : List ℕ) (n place : ℕ) (line : List ℕ) (k : ℕ) : Type 0 where
  pub fits : n * node_width ≤ length t
  pub near : Near place line k

-- both names of a row are put, its start first
pub record PutsBoth (text t : List ℕ) (n place : ℕ) (line : List ℕ) (r : ℕ) (t' : List ℕ) : Type 0 where
  pub between : List ℕ
  pub some_nodes : ℕ
  pub start : Puts text t n (content_in from_column line) (place + place_in from_column line) some_nodes between
  pub end : Puts text between some_nodes (content_in to_column line) (place + place_in to_column line) r t'

-- a row of good form whose nodes have room
pub record Good (text t : List ℕ) (n place : ℕ) (line : List ℕ) : Type 0 where
  pub fits : n * node_width ≤ length t
  pub room : length (with_both (view text t n) (content_in from_column line) (content_in to_column line)) * node_width ≤ length t
  pub from : Near place line from_column
  pub to : Near place line to_column

-- what is left of a text from a place on, after the rows before
abbrev pub left_at : (room : ℕ) (text : List ℕ) (place : ℕ) → List Event → Reading (List Event)
left_at room text place before = rows_from duties_file (row_of room) place before (split_on line_feed (drop place text))

-- a row's place by its number: the rows that are left start where the text's rows do
abbrev pub RowsAt : (text : List ℕ) (rows place : ℕ) → Type 0
RowsAt text rows place = (j : ℕ) → place_of_row text (rows + j) ≡ place + start_of j (split_on line_feed (drop place text))

-- the rows before a place, and the nodes in the table
pub record Holding (room : ℕ) (text : List ℕ) (from : ℕ) (t₀ : List ℕ) (place rows n : ℕ) (t : List ℕ) : Type 0 where
  pub before : List Event
  pub left : left_at room text place before ≡ left_at room text from []
  pub count : rows ≡ length before
  pub seen : view text t n ≡ nodes_of before
  pub table : t ≡ over (places_from text 0 [] before) t₀
  pub wide : length (places_from text 0 [] before) ≡ n * node_width
  pub rows_at : RowsAt text rows place
  pub within : place ≤ length text
  pub fits : n ≤ room
  pub few : rows ≤ most_events
  pub most : n ≤ most_nodes
  pub long : length t ≡ length t₀

pub record Begins (room : ℕ) (text t : List ℕ) (from : ℕ) : Type 0 where
  pub short : length text ≤ most_text
  pub within : from ≤ length text
  pub rows_at : RowsAt text 0 from
  pub room_fits : room * node_width ≤ length t

-- all rows are read: there are so many, and the table holds their nodes
pub record AllRead (room : ℕ) (text : List ℕ) (from : ℕ) (t₀ : List ℕ) (es : List Event) (rows n : ℕ) (t : List ℕ) : Type 0 where
  pub left : left_at room text from [] ≡ good es
  pub count : rows ≡ length es
  pub few : rows ≤ most_events
  pub seen : view text t n ≡ nodes_of es
  pub table : t ≡ over (places_from text 0 [] es) t₀
  pub fits : n ≤ room
  pub most : n ≤ most_nodes
  pub long : length t ≡ length t₀

-- the answer of the first pass
pub data Passes (room : ℕ) (text : List ℕ) (from : ℕ) (t₀ : List ℕ) : Result Pass Fault → List ℕ → Type 0 where
  all_read : {p : Pass} {t : List ℕ} (es : List Event) → AllRead room text from t₀ es p.rows p.nodes t → Passes room text from t₀ (Ok p) t
  at_fault : {f : Fault} {t : List ℕ} → f.place ≤ most_text → left_at room text from [] ≡ refused (refusal f.number duties_file f.place) → Passes room text from t₀ (Err f) t
