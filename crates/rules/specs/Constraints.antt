-- How constraints.json is read (document 01): an automaton goes over its tokens, and the first token at fault is refused with its lowest number. What it read
-- fills the table of constraints and the table of tracks.
use Rattle.std.specs.Prelude.{ℕ, ◌+◌, ◌-◌, ◌^◌, Bool, not, cond, ◌||◌, List, [], ◌∷◌, ◌++◌, leb, ltb, eqb, length, get_or, is_some, Option, Some, None, unwrap_or}
use Rattle.std.specs.Int.Bits.{bit_and, bit_or}
use Rattle.rules.specs.Limits.{most_text, most_id, most_seconds, most_constraints, most_subnets, most_tracks}
use Rattle.rules.specs.Lists.{any, only, first_place}
use Rattle.rules.specs.Answers.{refusal, too_long, out_of_range, too_many, already_seen, bad_json, unknown_name, repeated_or_missing, not_there, no_subnet, no_room, constraints_file, Reading, refused, good, Test, ◌needs◌}
use Rattle.rules.specs.Bytes.{whole_of}
use Rattle.rules.specs.Timetable.{Row}
use Rattle.rules.specs.Kinds.{list_named, key_in, type_named, unknown, headway, single_track, dwell, turnaround, connection, subnets, first_leg, second_leg, min_headway, min_dwell, min_turnaround, min_connection, max_connection, connection_type, subnet_id, track_ids, no_type, kind_table, no_kind}
use Rattle.rules.specs.Tokens.{Token, tokens_of}
use Rattle.rules.specs.declared.sizes.Constraint.{Constraint}
use Rattle.rules.specs.declared.sizes.Track.{Track}
use Rattle.rules.specs.declared.tokens.Class.{Class}
use Rattle.rules.specs.declared.tokens.Class.TheVariants.{OpenBrace, CloseBrace, OpenBracket, CloseBracket, Colon, Comma, Quoted, Run, End, Unclosed, Forbidden}
use Rattle.rules.specs.declared.tokens.Phase.{Phase}
use Rattle.rules.specs.declared.tokens.Phase.TheVariants.{Document as Text, FirstName, Name, NameColon, ListOpen, AfterList, FirstRecord, Record, AfterRecord, FirstKey, NextKey, KeyColon, Value, AfterValue, FirstTrack, NextTrack, AfterTrack, Done}
use Rattle.rules.specs.declared.tokens.Action.{Action}
use Rattle.rules.specs.declared.tokens.Action.TheVariants.{Broken, Early, Goes, ListName, DocumentEnds, RecordOpens, KeyName, RecordEnds, StringValue, StringCut, NumberValue, TracksOpen, TrackNumber, Finishes}
use Rattle.rules.specs.declared.tokens.Rules.{Rules}
use Rattle.rules.specs.declared.tokens.State.{State}

-- ---- THE TABLE: what may stand in each phase, and what it does there. Any other token may not stand there

pub record May : Type 0 where
  pub class : Class
  pub action : Action

infix 70 ◌⇒◌
abbrev pub ◌⇒◌ : Class → Action → May
◌⇒◌ c a = record { class = c; action = a }

abbrev pub table : Phase → List May
table Text = OpenBrace ⇒ Goes FirstName ∷ []
table FirstName = Quoted ⇒ ListName ∷ Unclosed ⇒ Early ∷ CloseBrace ⇒ DocumentEnds ∷ []
table Name = Quoted ⇒ ListName ∷ Unclosed ⇒ Early ∷ []
table NameColon = Colon ⇒ Goes ListOpen ∷ []
table ListOpen = OpenBracket ⇒ Goes FirstRecord ∷ []
table AfterList = Comma ⇒ Goes Name ∷ CloseBrace ⇒ DocumentEnds ∷ []
table FirstRecord = OpenBrace ⇒ RecordOpens ∷ CloseBracket ⇒ Goes AfterList ∷ []
table Record = OpenBrace ⇒ RecordOpens ∷ []
table AfterRecord = Comma ⇒ Goes Record ∷ CloseBracket ⇒ Goes AfterList ∷ []
table FirstKey = Quoted ⇒ KeyName ∷ Unclosed ⇒ Early ∷ CloseBrace ⇒ RecordEnds ∷ []
table NextKey = Quoted ⇒ KeyName ∷ Unclosed ⇒ Early ∷ []
table KeyColon = Colon ⇒ Goes Value ∷ []
table Value = Run ⇒ NumberValue ∷ Quoted ⇒ StringValue ∷ Unclosed ⇒ StringCut ∷ OpenBracket ⇒ TracksOpen ∷ []
table AfterValue = Comma ⇒ Goes NextKey ∷ CloseBrace ⇒ RecordEnds ∷ []
table FirstTrack = Run ⇒ TrackNumber ∷ CloseBracket ⇒ Goes AfterValue ∷ []
table NextTrack = Run ⇒ TrackNumber ∷ []
table AfterTrack = Comma ⇒ Goes NextTrack ∷ CloseBracket ⇒ Goes AfterValue ∷ []
table Done = End ⇒ Finishes ∷ []

-- where a class stands among the classes
abbrev pub class_number : Class → ℕ
class_number OpenBrace = 0
class_number CloseBrace = 1
class_number OpenBracket = 2
class_number CloseBracket = 3
class_number Colon = 4
class_number Comma = 5
class_number Quoted = 6
class_number Run = 7
class_number End = 8
class_number Unclosed = 9
class_number Forbidden = 10

-- the text ends too early in every phase but the last
abbrev pub otherwise : Class → Action
otherwise End = Early
otherwise OpenBrace = Broken
otherwise CloseBrace = Broken
otherwise OpenBracket = Broken
otherwise CloseBracket = Broken
otherwise Colon = Broken
otherwise Comma = Broken
otherwise Quoted = Broken
otherwise Run = Broken
otherwise Unclosed = Broken
otherwise Forbidden = Broken

abbrev pub sought : Class → List May → Action
sought c [] = otherwise c
sought c (m ∷ ms) = cond (eqb (class_number m.class) (class_number c)) m.action (sought c ms)

unfoldable pub action_of : Phase → Class → Action
action_of p c = sought c (table p)

-- ---- the state, and what has been read

abbrev pub no_entry : (kind : ℕ) → Constraint
no_entry kind = record { kind = kind; first = 0; second = 0; low = 0; high = 0; connection = no_type }

-- a bit for each list, and all six
abbrev pub list_bit : ℕ → ℕ
list_bit list = 2 ^ (list - 1)

abbrev pub all_lists : ℕ
all_lists = 63

-- document 01 wants all six lists, in whatever edition
abbrev pub rules_in : (edition : ℕ) → Rules
rules_in edition = record { required = all_lists; edition = edition }

abbrev pub state : Rules → Phase → (list lists key keys : ℕ) → Constraint → State
state r p list lists key keys entry =
    record { rules = r; phase = p; list = list; lists = lists; key = key; keys = keys; entry = entry }

abbrev pub start : Rules → State
start r = state r Text unknown 0 unknown 0 (no_entry 0)

abbrev pub goes : Phase → State → State
goes p st = state st.rules p st.list st.lists st.key st.keys st.entry

abbrev pub in_list : (list : ℕ) → State → State
in_list list st = state st.rules NameColon list (bit_or st.lists (list_bit list)) st.key st.keys st.entry

abbrev pub in_record : State → State
in_record st = state st.rules FirstKey st.list st.lists unknown 0 (no_entry st.list)

abbrev pub at_key : (key : ℕ) → State → State
at_key key st = state st.rules KeyColon st.list st.lists key (bit_or st.keys key) st.entry

abbrev pub with_entry : Constraint → State → State
with_entry entry st = state st.rules AfterValue st.list st.lists st.key st.keys entry

-- the keys that a record of a list must carry
unfoldable pub keys_of : (list : ℕ) → ℕ
keys_of list = cond (eqb list subnets) (subnet_id + track_ids) (get_or kind_table (list - 1) no_kind).keys

-- a record's number by its key: a leg's row, the least seconds, the greatest, a type
abbrev pub is_low : ℕ → Bool
is_low key = eqb key min_headway || (eqb key min_dwell || (eqb key min_turnaround || eqb key min_connection))

abbrev pub entered : (key n : ℕ) → Constraint → Constraint
entered key n c =
    record {
      kind = c.kind;
      first = cond (eqb key first_leg) n c.first;
      second = cond (eqb key second_leg) n c.second;
      low = cond (is_low key) n c.low;
      high = cond (eqb key max_connection) n c.high;
      connection = cond (eqb key connection_type) n c.connection;
    }

-- constraints and tracks in file order, how many subnets were opened, and their ids
pub record Document : Type 0 where
  pub constraints : List Constraint
  pub tracks : List Track
  pub opened : ℕ
  pub ids : List ℕ

abbrev pub document : List Constraint → List Track → ℕ → List ℕ → Document
document cs ts n ids = record { constraints = cs; tracks = ts; opened = n; ids = ids }

abbrev pub empty : Document
empty = document [] [] 0 []

abbrev pub with_constraint : Constraint → Document → Document
with_constraint c d = document (d.constraints ++ c ∷ []) d.tracks d.opened d.ids

abbrev pub with_subnet : Document → Document
with_subnet d = document d.constraints d.tracks (d.opened + 1) d.ids

abbrev pub with_id : ℕ → Document → Document
with_id id d = document d.constraints d.tracks d.opened (d.ids ++ id ∷ [])

-- a track belongs to the subnet that was opened last
abbrev pub with_track : ℕ → Document → Document
with_track id d = document d.constraints (d.tracks ++ record { id = id; subnet = d.opened - 1 } ∷ []) d.opened d.ids

-- ---- one token

pub data Turn : Type 0 where
  fault : (number place : ℕ) → Turn
  on : State → Document → Turn
  finish : State → Document → Turn

-- the tests stand in the order of their numbers: the first that fails is the lowest, at the token
abbrev pub requires : List Test → Token → Turn → Turn
requires [] t next = next
requires (x ∷ xs) t next = cond x.holds (requires xs t next) (fault x.number t.place)

-- the place just past a token: the text's length where it is the end, or is cut by the end
abbrev pub past : Token → ℕ
past t = t.place + t.size

-- the number that a run says, and whether it says one
abbrev pub number_of : Token → ℕ
number_of t = unwrap_or (whole_of t.word) 0

abbrev pub is_number : Token → Bool
is_number t = is_some (whole_of t.word)

abbrev pub row_of_leg : List ℕ → ℕ → Option ℕ
row_of_leg legs id = first_place (λ leg. eqb leg id) legs

-- legs: the ids of the timetable's rows. constraints, tracks: how many records the lent room takes
module _ (legs : List ℕ) (constraints tracks : ℕ) where
  unfoldable pub list_name : (list : ℕ) → State → Document → Token → Turn
  list_name list st d t =
      requires
      (unknown_name needs not (eqb list unknown)
      ∷ repeated_or_missing needs eqb (bit_and st.lists (list_bit list)) 0
      ∷ [])
      t
      (on (in_list list st) d)

  unfoldable pub document_ends : State → Document → Token → Turn
  document_ends st d t = requires (repeated_or_missing needs eqb (bit_and st.lists st.rules.required) st.rules.required ∷ []) t (on (goes Done st) d)

  unfoldable pub record_opens : State → Document → Token → Turn
  record_opens st d t =
      cond (eqb st.list subnets)
      (requires (too_many needs ltb d.opened most_subnets ∷ []) t (on (in_record st) (with_subnet d)))
      (requires
      (too_many needs ltb (length d.constraints) most_constraints
      ∷ no_room needs ltb (length d.constraints) constraints
      ∷ [])
      t
      (on (in_record st) d))

  -- a key of another kind is unknown here
  unfoldable pub key_name : (key : ℕ) → State → Document → Token → Turn
  key_name key st d t =
      requires
      (unknown_name needs not (eqb (bit_and (keys_of st.list) key) 0)
      ∷ repeated_or_missing needs eqb (bit_and st.keys key) 0
      ∷ [])
      t
      (on (at_key key st) d)

  unfoldable pub record_ends : State → Document → Token → Turn
  record_ends st d t =
      requires (repeated_or_missing needs eqb st.keys (keys_of st.list) ∷ []) t
      (on (goes AfterRecord st) (cond (eqb st.list subnets) d (with_constraint st.entry d)))

  -- only a connection type is a string
  unfoldable pub string_value : (type : ℕ) → State → Document → Token → Turn
  string_value type st d t =
      requires
      (bad_json needs eqb st.key connection_type
      ∷ unknown_name needs not (eqb type unknown)
      ∷ [])
      t
      (on (with_entry (entered connection_type type st.entry) st) d)

  unfoldable pub string_cut : State → Document → Token → Turn
  string_cut st d t = fault bad_json (cond (eqb st.key connection_type) (past t) t.place)

  unfoldable pub leg_value : State → Document → Token → Turn
  leg_value st d t =
      requires
      (bad_json needs is_number t
      ∷ out_of_range needs leb (number_of t) most_id
      ∷ not_there needs is_some (row_of_leg legs (number_of t))
      ∷ [])
      t
      (on (with_entry (entered st.key (unwrap_or (row_of_leg legs (number_of t)) 0) st.entry) st) d)

  unfoldable pub subnet_value : State → Document → Token → Turn
  subnet_value st d t =
      requires
      (bad_json needs is_number t
      ∷ out_of_range needs leb (number_of t) most_id
      ∷ already_seen needs not (any (eqb (number_of t)) d.ids)
      ∷ [])
      t
      (on (goes AfterValue st) (with_id (number_of t) d))

  unfoldable pub seconds_value : State → Document → Token → Turn
  seconds_value st d t =
      requires
      (bad_json needs is_number t
      ∷ out_of_range needs leb (number_of t) most_seconds
      ∷ [])
      t
      (on (with_entry (entered st.key (number_of t) st.entry) st) d)

  unfoldable pub number_value : State → Document → Token → Turn
  number_value st d t =
      cond (eqb st.key connection_type || eqb st.key track_ids) (fault bad_json t.place)
      (cond (eqb st.key first_leg || eqb st.key second_leg) (leg_value st d t)
      (cond (eqb st.key subnet_id) (subnet_value st d t)
      (seconds_value st d t)))

  unfoldable pub tracks_open : State → Document → Token → Turn
  tracks_open st d t = requires (bad_json needs eqb st.key track_ids ∷ []) t (on (goes FirstTrack st) d)

  unfoldable pub track_number : State → Document → Token → Turn
  track_number st d t =
      requires
      (bad_json needs is_number t
      ∷ out_of_range needs leb (number_of t) most_id
      ∷ too_many needs ltb (length d.tracks) most_tracks
      ∷ already_seen needs not (any (λ k. eqb k.id (number_of t)) d.tracks)
      ∷ no_room needs ltb (length d.tracks) tracks
      ∷ [])
      t
      (on (goes AfterTrack st) (with_track (number_of t) d))

  unfoldable pub act : Action → State → Document → Token → Turn
  act Broken st d t = fault bad_json t.place
  act Early st d t = fault bad_json (past t)
  act (Goes p) st d t = on (goes p st) d
  act ListName st d t = list_name (list_named t.word) st d t
  act DocumentEnds st d t = document_ends st d t
  act RecordOpens st d t = record_opens st d t
  act KeyName st d t = key_name (key_in st.rules.edition st.list t.word) st d t
  act RecordEnds st d t = record_ends st d t
  act StringValue st d t = string_value (type_named t.word) st d t
  act StringCut st d t = string_cut st d t
  act NumberValue st d t = number_value st d t
  act TracksOpen st d t = tracks_open st d t
  act TrackNumber st d t = track_number st d t
  act Finishes st d t = finish st d

  unfoldable pub turn_of : State → Document → Token → Turn
  turn_of st d t = act (action_of st.phase t.class) st d t

  -- ---- the run over all tokens. It always ends by a fault or by the end of the text (laws: `run_ends`)

  abbrev pub onward : Turn → (State → Document → Reading Document) → Reading Document
  onward (fault n p) more = refused (refusal n constraints_file p)
  onward (on st d) more = more st d
  onward (finish st d) more = good d

  unfoldable pub run : State → Document → List Token → Reading Document
  run st d [] = refused (refusal bad_json constraints_file 0)
  run st d (t ∷ ts) = onward (turn_of st d t) (λ st' d'. run st' d' ts)

  unfoldable pub constraints_of : Rules → List ℕ → Reading Document
  constraints_of rules s =
      cond (leb (length s) most_text) (run (start rules) empty (tokens_of s)) (refused (refusal too_long constraints_file 0))

-- ---- the tables: constraints by kind and then by file, tracks in file order

abbrev pub of_kind : ℕ → List Constraint → List Constraint
of_kind kind cs = only (λ c. eqb c.kind kind) cs

unfoldable pub ordered : List Constraint → List Constraint
ordered cs = of_kind headway cs ++ (of_kind single_track cs ++ (of_kind dwell cs ++ (of_kind turnaround cs ++ of_kind connection cs)))

abbrev pub constraint_numbers : Constraint → List ℕ
constraint_numbers c = c.kind ∷ c.first ∷ c.second ∷ c.low ∷ c.high ∷ c.connection ∷ []

abbrev pub track_numbers : Track → List ℕ
track_numbers t = t.id ∷ t.subnet ∷ []

-- ---- a leg's subnet: where its track stands; 15 where it stands nowhere

abbrev pub subnet_of : List Track → (track : ℕ) → Option ℕ
subnet_of [] track = None
subnet_of (t ∷ ts) track = cond (eqb t.id track) (Some t.subnet) (subnet_of ts track)

abbrev pub subnet_fault : List Track → Row → Option ℕ
subnet_fault tracks r = cond (is_some (subnet_of tracks r.track)) None (Some no_subnet)
