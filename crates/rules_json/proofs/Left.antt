-- What is left of a value, by the phase of the automaton: the pieces that are still to come, the tests that they pass, and the document at the end.
-- Assumes nothing.
use Prim.Native.Nat.{ℕ}
use mathlib.Core.Path.{◌≡◌}
use mathlib.Core.Bool.{true}
use mathlib.Core.List.{List, [], ◌∷◌}
use lib.Dec.{leb}
use Rattle.rules.specs.Limits.{most_id}
use Rattle.rules.specs.Lists.{every}
use Rattle.rules.specs.Tokens.{Token}
use Rattle.rules.specs.Constraints.{Document}
use Rattle.rules.specs.Verdict.{All}
use Rattle.rules.specs.declared.sizes.Constraint.{Constraint}
use Rattle.rules.specs.declared.tokens.Phase.{Phase}
use Rattle.rules.specs.declared.tokens.Phase.TheVariants.{Document as Text, FirstName, Name, NameColon, ListOpen, AfterList, FirstRecord, Record, AfterRecord, FirstKey, NextKey, KeyColon, Value as AtValue, AfterValue, FirstTrack, NextTrack, AfterTrack, Done}
use Rattle.rules.specs.declared.tokens.State.{State}
use Rattle.rules_json.specs.Value.{Member, Value, key_of, in_range}
use Rattle.rules_json.specs.Written.{Piece, Writes, close_brace, open_bracket, close_bracket, colon, more, items, track_pieces, said_pieces, member_pieces, record_pieces, list_pieces, pieces}
use Rattle.rules_json.proofs.Same.{Says, Same, with_tracks, with_member, entry_with, after_members, after_records, after_lists, OkMembers, OkLists}

-- ---- the parts of a value that can be left: each with what follows it

pub record Records : Type 0 where
  pub records : List (List Member)
  pub lists : Value

pub record Members : Type 0 where
  pub members : List Member
  pub then : Records

pub record Tracks : Type 0 where
  pub ids : List ℕ
  pub then : Members

pub record ListThen : Type 0 where
  pub list : ℕ
  pub then : Records

pub record MemberThen : Type 0 where
  pub member : Member
  pub then : Members

pub record TrackThen : Type 0 where
  pub id : ℕ
  pub then : Tracks

-- one in front
abbrev pub list_joined : ListThen → Value
list_joined l = record { list = l.list; records = l.then.records } ∷ l.then.lists

abbrev pub record_joined : Members → Records
record_joined m = record { records = m.members ∷ m.then.records; lists = m.then.lists }

abbrev pub member_joined : MemberThen → Members
member_joined m = record { members = m.member ∷ m.then.members; then = m.then.then }

abbrev pub track_joined : TrackThen → Tracks
track_joined t = record { ids = t.id ∷ t.then.ids; then = t.then.then }

-- none in front
abbrev pub no_records : Value → Records
no_records v = record { records = []; lists = v }

abbrev pub no_members : Records → Members
no_members r = record { members = []; then = r }

abbrev pub no_tracks : Members → Tracks
no_tracks m = record { ids = []; then = m }

-- ---- as pieces

-- E: the edition; list: that of the record
abbrev pub records_by : (E : ℕ) → Writes (List (List Member)) → Records → List Piece
records_by E write r = write r.records (more (list_pieces E) close_brace r.lists [])

abbrev pub members_by : (E list : ℕ) → Writes (List Member) → Members → List Piece
members_by E list write m = write m.members (records_by E (more (record_pieces E list) close_bracket) m.then)

abbrev pub tracks_by : (E list : ℕ) → Writes (List ℕ) → Tracks → List Piece
tracks_by E list write t = write t.ids (members_by E list (more (member_pieces E list) close_brace) t.then)

abbrev pub value_of : (E list : ℕ) → MemberThen → List Piece
value_of E list m = said_pieces m.member (members_by E list (more (member_pieces E list) close_brace) m.then)

-- ---- the tests that are left, and the document at the end

module _ (legs : List ℕ) (st : State) where
  abbrev pub RecordsOk : Records → Type 0
  RecordsOk r = All (OkMembers legs st.list 0) r.records × OkLists legs st.lists r.lists

  abbrev pub MembersOk : Members → Type 0
  MembersOk m = OkMembers legs st.list st.keys m.members × RecordsOk m.then

  abbrev pub TracksOk : Tracks → Type 0
  TracksOk t = (every (λ id. leb id most_id) t.ids ≡ true) × MembersOk t.then

  -- the key has been read
  abbrev pub ValueOk : MemberThen → Type 0
  ValueOk m = (key_of m.member ≡ st.key) × (in_range legs m.member ≡ true) × MembersOk m.then

  module _ (d : Document) where
    abbrev pub after_those_records : Records → Document
    after_those_records r = after_lists legs (after_records legs st.list d r.records) r.lists

  module _ (c : Constraint) (d : Document) where
    abbrev pub after_those_members : Members → Document
    after_those_members m = after_those_records (after_members legs st.list c d m.members) m.then

  module _ (d : Document) where
    abbrev pub after_tracks : Tracks → Document
    after_tracks t = after_those_members st.entry (with_tracks t.ids d) t.then

    abbrev pub after_value : MemberThen → Document
    after_value m = after_those_members (entry_with legs m.member st.entry) (with_member m.member d) m.then

-- ---- by phase

-- something is left: the tokens say its pieces, it passes its tests, and D is the document at the end
pub record Is (A : Type 0) (write : A → List Piece) (Ok : A → Type 0) (after : A → Document) (D : Document) (ts : List Token) : Type 0 where
  pub left : A
  pub same : Same (write left) ts
  pub ok : Ok left
  pub ends : after left ≡ D

module _ (E : ℕ) (legs : List ℕ) (D : Document) where
  abbrev pub Left : Phase → State → Document → List Token → Type 0
  Left Text st d = Is Value (pieces E) (OkLists legs st.lists) (after_lists legs d) D
  Left FirstName st d = Is Value (λ v. items (list_pieces E) close_brace v []) (OkLists legs st.lists) (after_lists legs d) D
  Left Name st d =
      Is ListThen (λ l. items (list_pieces E) close_brace (list_joined l) []) (λ l. OkLists legs st.lists (list_joined l)) (λ l. after_lists legs d (list_joined l)) D
  Left AfterList st d = Is Value (λ v. more (list_pieces E) close_brace v []) (OkLists legs st.lists) (after_lists legs d) D
  Left NameColon st d = Is Records (λ r. colon ∷ open_bracket ∷ records_by E (items (record_pieces E st.list) close_bracket) r) (RecordsOk legs st) (after_those_records legs st d) D
  Left ListOpen st d = Is Records (λ r. open_bracket ∷ records_by E (items (record_pieces E st.list) close_bracket) r) (RecordsOk legs st) (after_those_records legs st d) D
  Left FirstRecord st d = Is Records (records_by E (items (record_pieces E st.list) close_bracket)) (RecordsOk legs st) (after_those_records legs st d) D
  Left Record st d =
      Is Members (λ m. records_by E (items (record_pieces E st.list) close_bracket) (record_joined m)) (λ m. RecordsOk legs st (record_joined m))
      (λ m. after_those_records legs st d (record_joined m)) D
  Left AfterRecord st d = Is Records (records_by E (more (record_pieces E st.list) close_bracket)) (RecordsOk legs st) (after_those_records legs st d) D
  Left FirstKey st d = Is Members (members_by E st.list (items (member_pieces E st.list) close_brace)) (MembersOk legs st) (after_those_members legs st st.entry d) D
  Left NextKey st d =
      Is MemberThen (λ m. members_by E st.list (items (member_pieces E st.list) close_brace) (member_joined m)) (λ m. MembersOk legs st (member_joined m))
      (λ m. after_those_members legs st st.entry d (member_joined m)) D
  Left KeyColon st d = Is MemberThen (λ m. colon ∷ value_of E st.list m) (ValueOk legs st) (after_value legs st d) D
  Left AtValue st d = Is MemberThen (value_of E st.list) (ValueOk legs st) (after_value legs st d) D
  Left AfterValue st d = Is Members (members_by E st.list (more (member_pieces E st.list) close_brace)) (MembersOk legs st) (after_those_members legs st st.entry d) D
  Left FirstTrack st d = Is Tracks (tracks_by E st.list (items track_pieces close_bracket)) (TracksOk legs st) (after_tracks legs st d) D
  Left NextTrack st d =
      Is TrackThen (λ t. tracks_by E st.list (items track_pieces close_bracket) (track_joined t)) (λ t. TracksOk legs st (track_joined t))
      (λ t. after_tracks legs st d (track_joined t)) D
  Left AfterTrack st d = Is Tracks (tracks_by E st.list (more track_pieces close_bracket)) (TracksOk legs st) (after_tracks legs st d) D
  Left Done st d = Is (Unit {0}) (λ u. []) (λ u. Unit {0}) (λ u. d) D

-- ---- a sign in front, and the same as another thing

module _ {A : Type 0} {write : A → List Piece} {Ok : A → Type 0} {after : A → Document} {D : Document} where
  pub behind_sign : (x : Piece) {t : Token} {ts : List Token} → Says x t → Is A write Ok after D ts → Is A (λ a. x ∷ write a) Ok after D (t ∷ ts)
  behind_sign x says k = record { left = k.left; same = (says, k.same); ok = k.ok; ends = k.ends }

  pub renamed : {B : Type 0} {OkB : B → Type 0} (f : B → A) → ((b : B) → OkB b → Ok (f b)) → {ts : List Token}
      → Is B (λ b. write (f b)) OkB (λ b. after (f b)) D ts → Is A write Ok after D ts
  renamed f g k = record { left = f k.left; same = k.same; ok = g k.left k.ok; ends = k.ends }
