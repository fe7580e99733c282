-- THE TABLE, row by row: if a document was read, then in every phase what is left of the text is what is left of a value. Assumes nothing.
use Prim.Native.Nat.{ℕ}
use mathlib.Core.Path.{◌≡◌, refl, sym, ap, ap₂, subst, ◌∙◌}
use mathlib.Core.Bool.{Bool, true, false, cond, ◌&&◌}
use mathlib.Core.List.{List, [], ◌∷◌}
use native.Mathlib.Omega.{arith}
use lib.Dec.{eqb}
use lib.Bits.{bit_and, bit_or, and_zero_r}
use borrow.Author.Tests.{eqb-true, eqb-false, not-true}
use Rattle.rules.specs.Answers.{bad_json, Reading, good}
use Rattle.rules.specs.Kinds.{unknown, connection_type, list_named, key_in, type_named}
use Rattle.rules.specs.Tokens.{Token}
use Rattle.rules.specs.Constraints.{May, table, class_number, otherwise, sought, action_of, Document, Turn, fault, past, number_of, goes, in_list, in_record, at_key, with_entry, with_track, entered, keys_of, all_lists, rules_in, list_name, document_ends, record_opens, key_name, record_ends, string_value, string_cut, number_value, tracks_open, track_number, act, turn_of, onward, run}
use Rattle.rules.specs.Verdict.{All}
use Rattle.rules.specs.declared.tokens.Class.{Class}
use Rattle.rules.specs.declared.tokens.Class.TheVariants.{OpenBrace, CloseBrace, OpenBracket, CloseBracket, Colon, Comma, Quoted, Run, End, Unclosed, Forbidden}
use Rattle.rules.specs.declared.tokens.Phase.{Phase}
use Rattle.rules.specs.declared.tokens.Phase.TheVariants.{Document as Text, FirstName, Name, NameColon, ListOpen, AfterList, FirstRecord, Record, AfterRecord, FirstKey, NextKey, KeyColon, Value as AtValue, AfterValue, FirstTrack, NextTrack, AfterTrack, Done}
use Rattle.rules.specs.declared.tokens.Rules.{Rules}
use Rattle.rules.specs.declared.tokens.State.{State}
use Rattle.rules_theorems.proofs.Keys.{has, list-known, type_known}
use Rattle.rules_json.specs.Value.{Member, number, type, track_list, key_of, Among}
use Rattle.rules_json.specs.Written.{open_brace, close_brace, open_bracket, close_bracket, colon, comma, more, record_pieces, key_name_in as name_of_key, all_keys}
use Rattle.rules_json.proofs.Same.{opening, closing, with_member, entry_with, OkMembers}
use Rattle.rules_json.proofs.Names.{list_back, key_in_back, type_back, key_in_in, in_range_lem}
use Rattle.rules_json.proofs.Inverse.{no_fault, list-said, document-said, record_said, key_said, end-said, type_said, tracks-said, track_said, number_said}
use Rattle.rules_json.proofs.Left.{Records, list_joined, record_joined, member_joined, track_joined, no_records, no_members, no_tracks, records_by, RecordsOk, after_those_records, Is, Left, behind_sign, renamed}

-- the class that has a number
class_at : ℕ → Class
class_at n =
    cond (eqb n (class_number OpenBrace)) OpenBrace
    (cond (eqb n (class_number CloseBrace)) CloseBrace
    (cond (eqb n (class_number OpenBracket)) OpenBracket
    (cond (eqb n (class_number CloseBracket)) CloseBracket
    (cond (eqb n (class_number Colon)) Colon
    (cond (eqb n (class_number Comma)) Comma
    (cond (eqb n (class_number Quoted)) Quoted
    (cond (eqb n (class_number Run)) Run
    (cond (eqb n (class_number End)) End
    (cond (eqb n (class_number Unclosed)) Unclosed
    Forbidden)))))))))

class_at_lem : (c : Class) → class_at (class_number c) ≡ c
unfolding class_at
class_at_lem OpenBrace = refl
class_at_lem CloseBrace = refl
class_at_lem OpenBracket = refl
class_at_lem CloseBracket = refl
class_at_lem Colon = refl
class_at_lem Comma = refl
class_at_lem Quoted = refl
class_at_lem Run = refl
class_at_lem End = refl
class_at_lem Unclosed = refl
class_at_lem Forbidden = refl

-- two classes with the same number are the same
same_class : (a b : Class) → eqb (class_number a) (class_number b) ≡ true → b ≡ a
same_class a b e = sym (class_at_lem b) ∙ ap class_at (sym (eqb-true (class_number a) (class_number b) e)) ∙ class_at_lem a

module _ (E : ℕ) (legs : List ℕ) (constraints tracks : ℕ) (D : Document) (ts : List Token) where
  -- the run behind the token
  abbrev next : State → Document → Reading Document
  next st d = run legs constraints tracks st d ts

  -- what is left behind the token, in any phase
  abbrev Behind : Type 0
  Behind = (st : State) (d : Document) → st.rules ≡ rules_in E → next st d ≡ good D → Left E legs D st.phase st d ts

  module _ (st : State) (d : Document) (t : Token) (plain : st.rules ≡ rules_in E) (behind : Behind) where
    -- a turn after which D was read
    abbrev Read : Turn → Type 0
    Read turn = onward legs constraints tracks turn next ≡ good D

    faulty : {A : Type 0} (n place : ℕ) → Read (fault n place) → A
    faulty n place e = no_fault legs constraints tracks next D n place e

    -- ---- tokens that are tested

    list_left : t.class ≡ Quoted → Read (list_name legs constraints tracks (list_named t.word) st d t) → Left E legs D Name st d (t ∷ ts)
    list_left is e =
        let list : ℕ = list_named t.word in
        let said = list-said legs constraints tracks next D st d t list e in
        let named = not-true (eqb list unknown) said.0 in
        let k = behind (in_list list st) d plain said.2 in
        record {
          left = record { list = list; then = k.left };
          same = ((is, sym (list_back t.word (eqb-false list unknown named))), k.same);
          ok = (record { in_lists = list-known t.word named; fresh = said.1; records = k.ok.0 }, k.ok.1);
          ends = k.ends;
        }

    document-left : t.class ≡ CloseBrace → Read (document_ends legs constraints tracks st d t)
        → Is (Unit {0}) (λ u. close_brace ∷ []) (λ u. bit_and st.lists all_lists ≡ all_lists) (λ u. d) D (t ∷ ts)
    document-left is e =
        let said = document-said legs constraints tracks next D st d t E plain e in
        let k = behind (goes Done st) d plain said.1 in
        record { left = tt; same = (is, k.same); ok = said.0; ends = k.ends }

    record_left : t.class ≡ OpenBrace → Read (record_opens legs constraints tracks st d t) → Left E legs D Record st d (t ∷ ts)
    record_left is e =
        let k = behind (in_record st) (opening st.list d) plain (record_said legs constraints tracks next D st d t e) in
        record { left = k.left; same = (is, k.same); ok = ((k.ok.0, k.ok.1.0), k.ok.1.1); ends = k.ends }

    member-left : t.class ≡ Quoted → Read (key_name legs constraints tracks (key_in st.rules.edition st.list t.word) st d t) → Left E legs D NextKey st d (t ∷ ts)
    member-left is e =
        let key : ℕ = key_in st.rules.edition st.list t.word in
        let edition : st.rules.edition ≡ E = ap (λ (r : Rules). r.edition) plain in
        let said = key_said legs constraints tracks next D st d t key e in
        let none : key ≡ unknown → bit_and (keys_of st.list) key ≡ 0 = λ e. ap (bit_and (keys_of st.list)) e ∙ and_zero_r (keys_of st.list) in
        let known : key ≡ unknown → ⊥ = λ e. eqb-false (bit_and (keys_of st.list) key) 0 (not-true _ said.0) (none e) in
        let k = behind (at_key key st) d plain said.2 in
        let is_key : key ≡ key_of k.left.member = sym k.ok.0 in
        record {
          left = k.left;
          same = ((is, sym (key_in_back st.rules.edition st.list t.word known) ∙ ap₂ (λ (e n : ℕ). name_of_key e st.list n) edition is_key), k.same);
          ok = (
            (
              record {
                in_keys = subst (Among all_keys) is_key (key_in_in st.rules.edition st.list t.word known);
                carried = subst (λ (n : ℕ). has (keys_of st.list) n ≡ true) is_key said.0;
                fresh = subst (λ (n : ℕ). bit_and st.keys n ≡ 0) is_key said.1;
                value = k.ok.1;
              },
              subst (λ (n : ℕ). OkMembers legs st.list (bit_or st.keys n) k.left.then.members) is_key k.ok.2.0,
            ),
            k.ok.2.1,
          );
          ends = k.ends;
        }

    record_ended : t.class ≡ CloseBrace → Read (record_ends legs constraints tracks st d t)
        → Is Records (λ r. close_brace ∷ records_by E (more (record_pieces E st.list) close_bracket) r) (λ r. (st.keys ≡ keys_of st.list) × RecordsOk legs st r)
        (after_those_records legs st (closing st.list st.entry d)) D (t ∷ ts)
    record_ended is e =
        let said = end-said legs constraints tracks next D st d t e in
        let k = behind (goes AfterRecord st) (closing st.list st.entry d) plain said.1 in
        record { left = k.left; same = (is, k.same); ok = (said.0, k.ok); ends = k.ends }

    number_left : t.class ≡ Run → Read (number_value legs constraints tracks st d t) → Left E legs D AtValue st d (t ∷ ts)
    number_left is e =
        let said = number_said legs constraints tracks next D st d t e in
        let m : Member = number st.key (number_of t) in
        let k = behind (with_entry (entry_with legs m st.entry) st) (with_member m d) plain said.2 in
        record { left = record { member = m; then = k.left }; same = ((is, said.0), k.same); ok = (refl, said.1, k.ok); ends = k.ends }

    type_left : t.class ≡ Quoted → Read (string_value legs constraints tracks (type_named t.word) st d t) → Left E legs D AtValue st d (t ∷ ts)
    type_left is e =
        let n : ℕ = type_named t.word in
        let said = type_said legs constraints tracks next D st d t n e in
        let named = not-true (eqb n unknown) said.1 in
        let k = behind (with_entry (entered connection_type n st.entry) st) d plain said.2 in
        record {
          left = record { member = type n; then = k.left };
          same = ((is, sym (type_back t.word (eqb-false n unknown named))), k.same);
          ok = (sym said.0, in_range_lem legs n (type_known t.word named), k.ok);
          ends = k.ends;
        }

    tracks-left : t.class ≡ OpenBracket → Read (tracks_open legs constraints tracks st d t) → Left E legs D AtValue st d (t ∷ ts)
    tracks-left is e =
        let said = tracks-said legs constraints tracks next D st d t e in
        let k = behind (goes FirstTrack st) d plain said.1 in
        record {
          left = record { member = track_list k.left.ids; then = k.left.then };
          same = (is, k.same);
          ok = (sym said.0, k.ok.0, k.ok.1);
          ends = k.ends;
        }

    track_left : t.class ≡ Run → Read (track_number legs constraints tracks st d t) → Left E legs D NextTrack st d (t ∷ ts)
    track_left is e =
        let said = track_said legs constraints tracks next D st d t e in
        let k = behind (goes AfterTrack st) (with_track (number_of t) d) plain said.2 in
        record {
          left = record { id = number_of t; then = k.left };
          same = ((is, said.0), k.same);
          ok = (ap₂ ◌&&◌ said.1 k.ok.0, k.ok.1);
          ends = k.ends;
        }

    -- ---- the rows

    -- a cell of the table
    abbrev Cell : Phase → May → Type 0
    Cell p m = t.class ≡ m.class → Read (act legs constraints tracks m.action st d t) → Left E legs D p st d (t ∷ ts)

    row : (p : Phase) → All (Cell p) (table p)
    unfolding act string_cut
    row Text = (λ is e. behind_sign open_brace is (behind (goes FirstName st) d plain e), tt)
    row FirstName = (
      λ is e. renamed list_joined (λ l h. h) (list_left is e),
      (λ is e. faulty bad_json (past t) e, (λ is e. renamed (λ u. []) (λ u h. h) (document-left is e), tt)),
    )
    row Name = (list_left, (λ is e. faulty bad_json (past t) e, tt))
    row NameColon = (λ is e. behind_sign colon is (behind (goes ListOpen st) d plain e), tt)
    row ListOpen = (λ is e. behind_sign open_bracket is (behind (goes FirstRecord st) d plain e), tt)
    row AfterList = (
      λ is e. renamed list_joined (λ l h. h) (behind_sign comma is (behind (goes Name st) d plain e)),
      (λ is e. renamed (λ u. []) (λ u h. h) (document-left is e), tt),
    )
    row FirstRecord = (
      λ is e. renamed record_joined (λ m h. h) (record_left is e),
      (λ is e. renamed no_records (λ v h. (tt, h)) (behind_sign close_bracket is (behind (goes AfterList st) d plain e)), tt),
    )
    row Record = (record_left, tt)
    row AfterRecord = (
      λ is e. renamed record_joined (λ m h. h) (behind_sign comma is (behind (goes Record st) d plain e)),
      (λ is e. renamed no_records (λ v h. (tt, h)) (behind_sign close_bracket is (behind (goes AfterList st) d plain e)), tt),
    )
    row FirstKey = (
      λ is e. renamed member_joined (λ m h. h) (member-left is e),
      (λ is e. faulty bad_json (past t) e, (λ is e. renamed no_members (λ r h. h) (record_ended is e), tt)),
    )
    row NextKey = (member-left, (λ is e. faulty bad_json (past t) e, tt))
    row KeyColon = (λ is e. behind_sign colon is (behind (goes AtValue st) d plain e), tt)
    row AtValue = (number_left, (type_left, (λ is e. faulty bad_json _ e, (tracks-left, tt))))
    row AfterValue = (
      λ is e. renamed member_joined (λ m h. h) (behind_sign comma is (behind (goes NextKey st) d plain e)),
      (λ is e. renamed no_members (λ r h. h) (record_ended is e), tt),
    )
    row FirstTrack = (
      λ is e. renamed track_joined (λ k h. h) (track_left is e),
      (λ is e. renamed no_tracks (λ m h. (refl, h)) (behind_sign close_bracket is (behind (goes AfterValue st) d plain e)), tt),
    )
    row NextTrack = (track_left, tt)
    row AfterTrack = (
      λ is e. renamed track_joined (λ k h. h) (behind_sign comma is (behind (goes NextTrack st) d plain e)),
      (λ is e. renamed no_tracks (λ m h. (refl, h)) (behind_sign close_bracket is (behind (goes AfterValue st) d plain e)), tt),
    )
    row Done = (λ is e. record { left = tt; same = is; ok = tt; ends = cc }, tt)

    -- a token that may not stand where it stands
    otherwise-not : {A : Type 0} (c : Class) → Read (act legs constraints tracks (otherwise c) st d t) → A
    unfolding act
    otherwise-not End e = faulty bad_json (past t) e
    otherwise-not OpenBrace e = faulty bad_json t.place e
    otherwise-not CloseBrace e = faulty bad_json t.place e
    otherwise-not OpenBracket e = faulty bad_json t.place e
    otherwise-not CloseBracket e = faulty bad_json t.place e
    otherwise-not Colon e = faulty bad_json t.place e
    otherwise-not Comma e = faulty bad_json t.place e
    otherwise-not Quoted e = faulty bad_json t.place e
    otherwise-not Run e = faulty bad_json t.place e
    otherwise-not Unclosed e = faulty bad_json t.place e
    otherwise-not Forbidden e = faulty bad_json t.place e

    in_row_lem : (p : Phase) (ms : List May) → All (Cell p) ms → Read (act legs constraints tracks (sought t.class ms) st d t) → Left E legs D p st d (t ∷ ts)
    in_row_lem p [] h e = otherwise-not t.class e
    in_row_lem p (m ∷ ms) h e = go (eqb (class_number m.class) (class_number t.class)) refl e (in_row_lem p ms h.1)
      where
        go : (b : Bool) → eqb (class_number m.class) (class_number t.class) ≡ b
            → Read (act legs constraints tracks (cond b m.action (sought t.class ms)) st d t)
            → (Read (act legs constraints tracks (sought t.class ms) st d t) → Left E legs D p st d (t ∷ ts)) → Left E legs D p st d (t ∷ ts)
        go true same e rest = h.0 (same_class m.class t.class same) e
        go false other e rest = rest e

-- ---- the whole run

module _ (E : ℕ) (legs : List ℕ) (constraints tracks : ℕ) (D : Document) where
  pub run-left : (ts : List Token) (st : State) (d : Document) → st.rules ≡ rules_in E → run legs constraints tracks st d ts ≡ good D
      → Left E legs D st.phase st d ts
  unfolding run turn_of action_of
  run-left [] st d plain e = let z : ◌≡◌ {A = ℕ} 0 1 = cc in absurd (omega arith)
  run-left (t ∷ ts) st d plain e =
      let behind : Behind E legs constraints tracks D ts = run-left ts in
      in_row_lem E legs constraints tracks D ts st d t plain behind st.phase (table st.phase)
      (row E legs constraints tracks D ts st d t plain behind st.phase) e
