-- What a step of the code does to a document, so that it is a turn of ../../rules/specs/Constraints.antt; and what the code knows of the document.
use Rattle.std.specs.Prelude.{ℕ, ◌≤◌, ◌≡◌, List, length, Result, Ok, Err}
use Rattle.rules.specs.Limits.{most_legs, leg_width, track_width}
use Rattle.rules.specs.Answers.{bad_json, out_of_range}
use Rattle.rules.specs.Bytes.{whole_of}
use Rattle.rules.specs.Tokens.{Token}
use Rattle.rules.specs.Constraints.{Document, with_constraint, with_subnet, with_id, with_track, Turn, fault, on, finish}
use Rattle.text_read.specs.Held.{whole_held}
use Rattle.constraints_tokens.specs.declared.Token.{Token as Found}
use Rattle.tables_ids.specs.Column.{Records, Sought, column, track_ids_of}
use Rattle.constraints_states.specs.declared.Step.{Step}
use Rattle.constraints_states.specs.declared.Step.TheVariants.{On, Emit, Opened, Named, Listed, Finish}
use Rattle.rules.specs.declared.answers.Fault.{Fault}
use Rattle.constraints_states.specs.declared.Counts.{Counts}
use Rattle.text_read.specs.declared.numbers.Unread.{Unread}
use Rattle.text_read.specs.declared.numbers.Unread.TheVariants.{Beyond, Malformed}

-- ---- what a step does

abbrev pub stepped : Step → Document → Turn
stepped (On st) d = on st d
stepped (Emit st) d = on st (with_constraint st.entry d)
stepped (Opened st) d = on st (with_subnet d)
stepped (Named st id) d = on st (with_id id d)
stepped (Listed st id) d = on st (with_track id d)
stepped (Finish st) d = finish st d

-- a step, or a refusal by its number, which lies at a place
abbrev pub turned : (place : ℕ) → Result Step ℕ → Document → Turn
turned place (Ok step) d = stepped step d
turned place (Err number) d = fault number place

-- a step, or a refusal that says its place itself
abbrev pub told : Result Step Fault → Document → Turn
told (Ok step) d = stepped step d
told (Err f) d = fault f.number f.place

-- ---- an action by what it needs to know: the legs, the lent room, the document, the token

abbrev pub Acts : Type 0
Acts = List ℕ → (constraints tracks : ℕ) → Document → Token → Turn

-- a step is that action, whatever the rest is
abbrev pub Always : Acts → Result Step ℕ → Type 0
Always acts r = (legs : List ℕ) (constraints tracks : ℕ) (d : Document) (t : Token) → turned t.place r d ≡ acts legs constraints tracks d t

-- a token whose word was read as a number
abbrev pub Says : Token → Result ℕ Unread → Type 0
Says t n = n ≡ whole_held (whole_of t.word)

-- the number, or the number of the refusal
abbrev pub said : Result ℕ Unread → Result ℕ ℕ
said (Ok n) = Ok n
said (Err Beyond) = Err out_of_range
said (Err Malformed) = Err bad_json

-- ---- what the code holds of the document: how many records, the ids of tracks and subnets

-- the ids of subnets stand alone
abbrev pub id_width : ℕ
id_width = 1

abbrev pub counts_of : Document → Counts
counts_of d = record { constraints = length d.constraints; tracks = length d.tracks; subnets = d.opened; ids = length d.ids }

pub record Tied (c : Counts) (tracks ids : List ℕ) (d : Document) : Type 0 where
  pub constraints : c.constraints ≡ length d.constraints
  pub opened : c.subnets ≡ d.opened
  pub tracks_held : column track_width c.tracks tracks ≡ track_ids_of d.tracks
  pub ids_held : column id_width c.ids ids ≡ d.ids

-- the tables are long enough for what is said to be in them, the legs can be looked up, and the token does not end before it starts
pub record Ready (legs : List ℕ) (n rising : ℕ) (tracks ids : List ℕ) (c : Counts) (t : Found) : Type 0 where
  pub legs_there : Sought leg_width n rising legs
  pub few_legs : n ≤ most_legs
  pub tracks_there : Records track_width c.tracks tracks
  pub ids_there : Records id_width c.ids ids
  pub starts : t.place ≤ t.next
