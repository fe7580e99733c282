-- How a value is written: its pieces one after the other, with any white space between them (RFC 8259, narrowed by document 01).
use Rattle.std.specs.Prelude.{ℕ, ◌-◌, ◌≤◌, ◌≡◌, true, List, [], ◌∷◌, ◌++◌, eqb, length, get_or, unwrap_or}
use Rattle.rules.specs.Bytes.{bytes, spelled}
use Rattle.rules.specs.Limits.{most_text}
use Rattle.rules.specs.Tokens.{is_white, quote}
use Rattle.rules.specs.Lists.{first_place}
use Rattle.rules.specs.Kinds.{list_names, key_names, type_names, first_leg, second_leg, min_headway, min_dwell, min_turnaround, min_connection, max_connection, connection_type, subnet_id, track_ids, renamed, is_renamed}
use Rattle.rules.specs.Constraints.{Document}
use Rattle.rules_json.specs.Value.{Member, number, type, track_list, Listed, Value, key_of, document_of, Lawful}

-- ---- names

abbrev pub list_name : (list : ℕ) → List ℕ
list_name list = get_or list_names (list - 1) []

abbrev pub type_name : (type : ℕ) → List ℕ
type_name t = get_or type_names (t - 1) []

-- in the order of their names
abbrev pub all_keys : List ℕ
all_keys =
    first_leg ∷ second_leg ∷ min_headway ∷ min_dwell ∷ min_turnaround ∷ min_connection ∷ max_connection ∷ connection_type ∷ subnet_id ∷ track_ids ∷ []

abbrev pub key_name : (key : ℕ) → List ℕ
key_name key = get_or key_names (unwrap_or (first_place (eqb key) all_keys) (length all_keys)) []

-- in a record of a list, by an edition
abbrev pub key_name_in : (E list : ℕ) → (key : ℕ) → List ℕ
key_name_in E list key = key_name (renamed (is_renamed E list) key)

-- ---- pieces

pub data Piece : Type 0 where
  open_brace close_brace open_bracket close_bracket colon comma : Piece
  string : (word : List ℕ) → Piece
  whole : (n : ℕ) → Piece

-- a piece, as bytes
abbrev pub bytes_of : Piece → List ℕ
bytes_of open_brace = bytes "{"
bytes_of close_brace = bytes "}"
bytes_of open_bracket = bytes "["
bytes_of close_bracket = bytes "]"
bytes_of colon = bytes ":"
bytes_of comma = bytes ","
bytes_of (string word) = quote ∷ word ++ quote ∷ []
bytes_of (whole n) = spelled n

-- each function below writes a thing in front of the pieces that follow it
abbrev pub Writes : Type 0 → Type 0
Writes A = A → List Piece → List Piece

-- further things, each behind a comma, up to the sign that closes them
abbrev pub more : {A : Type 0} → Writes A → (close : Piece) → Writes (List A)
more write close [] rest = close ∷ rest
more write close (x ∷ xs) rest = comma ∷ write x (more write close xs rest)

-- things with a comma between each two, up to the sign that closes them
abbrev pub items : {A : Type 0} → Writes A → (close : Piece) → Writes (List A)
items write close [] rest = close ∷ rest
items write close (x ∷ xs) rest = write x (more write close xs rest)

abbrev pub track_pieces : Writes ℕ
track_pieces id rest = whole id ∷ rest

abbrev pub said_pieces : Writes Member
said_pieces (number key n) rest = whole n ∷ rest
said_pieces (type t) rest = string (type_name t) ∷ rest
said_pieces (track_list ids) rest = open_bracket ∷ items track_pieces close_bracket ids rest

-- E: the edition; a key is named by the list of its record
abbrev pub member_pieces : (E list : ℕ) → Writes Member
member_pieces E list m rest = string (key_name_in E list (key_of m)) ∷ colon ∷ said_pieces m rest

abbrev pub record_pieces : (E list : ℕ) → Writes (List Member)
record_pieces E list ms rest = open_brace ∷ items (member_pieces E list) close_brace ms rest

abbrev pub list_pieces : (E : ℕ) → Writes Listed
list_pieces E l rest = string (list_name l.list) ∷ colon ∷ open_bracket ∷ items (record_pieces E l.list) close_bracket l.records rest

abbrev pub pieces : (E : ℕ) → Value → List Piece
pieces E v = open_brace ∷ items (list_pieces E) close_brace v []

-- ---- a text: the pieces in order, with any white bytes before, between and after them. None need stand there: no two numbers of a value stand side by side

pub data Laid : List Piece → List ℕ → Type 0 where
  done : Laid [] []
  white : {xs : List Piece} {s : List ℕ} {b : ℕ} → is_white b ≡ true → Laid xs s → Laid xs (b ∷ s)
  next : {xs : List Piece} {s : List ℕ} (x : Piece) → Laid xs s → Laid (x ∷ xs) (bytes_of x ++ s)

-- for one: the same white bytes before each piece and at the end
abbrev pub spread : (blank : List ℕ) → List Piece → List ℕ
spread blank [] = blank
spread blank (x ∷ xs) = blank ++ (bytes_of x ++ spread blank xs)

-- THE STATEMENT: a text writes a lawful value, and d is the value's document
pub record Writing (E : ℕ) (legs : List ℕ) (constraints tracks : ℕ) (s : List ℕ) (d : Document) : Type 0 where
  pub value : Value
  pub lawful : Lawful legs constraints tracks value
  pub written : Laid (pieces E value) s
  pub short : length s ≤ most_text
  pub means : document_of legs value ≡ d
