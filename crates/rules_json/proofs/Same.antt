-- Tokens that say the pieces of a value; what one member, record or list after the other adds to a document; and the tests that they pass in that order.
use Prim.Native.Nat.{ℕ}
use mathlib.Core.Path.{◌≡◌}
use mathlib.Core.Bool.{true, cond}
use mathlib.Core.List.{List, [], ◌∷◌}
use lib.Dec.{eqb}
use lib.Bits.{bit_and, bit_or}
use Rattle.rules.specs.Bytes.{whole_of}
use Rattle.rules.specs.Kinds.{subnets, subnet_id}
use Rattle.rules.specs.Tokens.{Token}
use Rattle.rules.specs.Constraints.{Document, with_subnet, with_constraint, with_id, with_track, entered, no_entry, keys_of, list_bit, all_lists}
use Rattle.rules.specs.Verdict.{All}
use Rattle.rules.specs.declared.sizes.Constraint.{Constraint}
use Rattle.rules.specs.declared.tokens.Class.{Class}
use Rattle.rules.specs.declared.tokens.Class.TheVariants.{OpenBrace, CloseBrace, OpenBracket, CloseBracket, Colon, Comma, Quoted, Run, End}
use Rattle.rules_theorems.proofs.Keys.{has}
use Rattle.rules_json.specs.Value.{Member, number, type, track_list, Listed, Value, key_of, worth, six_lists, Among, in_range}
use Rattle.rules_json.specs.Written.{Piece, open_brace, close_brace, open_bracket, close_bracket, colon, comma, string, whole, all_keys}
use Rattle.std.specs.Prelude.{Some}

-- ---- tokens and pieces

abbrev pub Says : Piece → Token → Type 0
Says open_brace t = t.class ≡ OpenBrace
Says close_brace t = t.class ≡ CloseBrace
Says open_bracket t = t.class ≡ OpenBracket
Says close_bracket t = t.class ≡ CloseBracket
Says colon t = t.class ≡ Colon
Says comma t = t.class ≡ Comma
Says (string word) t = (t.class ≡ Quoted) × (t.word ≡ word)
Says (whole n) t = (t.class ≡ Run) × (whole_of t.word ≡ Some n)

abbrev pub class_of : Piece → Class
class_of open_brace = OpenBrace
class_of close_brace = CloseBrace
class_of open_bracket = OpenBracket
class_of close_bracket = CloseBracket
class_of colon = Colon
class_of comma = Comma
class_of (string word) = Quoted
class_of (whole n) = Run

pub says_class : (x : Piece) (t : Token) → Says x t → t.class ≡ class_of x
says_class open_brace t says = says
says_class close_brace t says = says
says_class open_bracket t says = says
says_class close_bracket t says = says
says_class colon t says = says
says_class comma t says = says
says_class (string word) t says = says.0
says_class (whole n) t says = says.0

-- the tokens say the pieces, and then the text ends
abbrev pub Same : List Piece → List Token → Type 0
Same [] [] = ⊥
Same [] (t ∷ ts) = t.class ≡ End
Same (x ∷ xs) [] = ⊥
Same (x ∷ xs) (t ∷ ts) = Says x t × Same xs ts

-- ---- what is added to a document, in order

abbrev pub with_tracks : List ℕ → Document → Document
with_tracks [] d = d
with_tracks (id ∷ ids) d = with_tracks ids (with_track id d)

abbrev pub with_member : Member → Document → Document
with_member (number key n) d = cond (eqb key subnet_id) (with_id n d) d
with_member (type t) d = d
with_member (track_list ids) d = with_tracks ids d

abbrev pub opening : (list : ℕ) → Document → Document
opening list d = cond (eqb list subnets) (with_subnet d) d

abbrev pub closing : (list : ℕ) → Constraint → Document → Document
closing list c d = cond (eqb list subnets) d (with_constraint c d)

module _ (legs : List ℕ) where
  abbrev pub entry_with : Member → Constraint → Constraint
  entry_with m c = entered (key_of m) (worth legs m) c

  abbrev pub after_members : (list : ℕ) → Constraint → Document → List Member → Document
  after_members list c d [] = closing list c d
  after_members list c d (m ∷ ms) = after_members list (entry_with m c) (with_member m d) ms

  abbrev pub after_record : (list : ℕ) → Document → List Member → Document
  after_record list d ms = after_members list (no_entry list) (opening list d) ms

  abbrev pub after_records : (list : ℕ) → Document → List (List Member) → Document
  after_records list d [] = d
  after_records list d (ms ∷ rest) = after_records list (after_record list d ms) rest

  abbrev pub after_lists : Document → Value → Document
  after_lists d [] = d
  after_lists d (l ∷ ls) = after_lists (after_records l.list d l.records) ls

  -- ---- the tests of names and values, in order. seen: the keys, or the lists, that stand before

  pub record Allowed (list seen : ℕ) (m : Member) : Type 0 where
    pub in_keys : Among all_keys (key_of m)
    pub carried : has (keys_of list) (key_of m) ≡ true
    pub fresh : bit_and seen (key_of m) ≡ 0
    pub value : in_range legs m ≡ true

  abbrev pub OkMembers : (list seen : ℕ) → List Member → Type 0
  OkMembers list seen [] = seen ≡ keys_of list
  OkMembers list seen (m ∷ ms) = Allowed list seen m × OkMembers list (bit_or seen (key_of m)) ms

  pub record AllowedList (seen : ℕ) (l : Listed) : Type 0 where
    pub in_lists : Among six_lists l.list
    pub fresh : bit_and seen (list_bit l.list) ≡ 0
    pub records : All (OkMembers l.list 0) l.records

  abbrev pub OkLists : (seen : ℕ) → Value → Type 0
  OkLists seen [] = bit_and seen all_lists ≡ all_lists
  OkLists seen (l ∷ ls) = AllowedList seen l × OkLists (bit_or seen (list_bit l.list)) ls
