-- The members of a record, read one after the other. Assumes nothing.
use Prim.Native.Nat.{ℕ}
use mathlib.Core.Path.{◌≡◌, refl, ap, subst, ◌∙◌}
use mathlib.Core.Bool.{true}
use mathlib.Core.List.{List, [], ◌∷◌}
use lib.Dec.{leb}
use lib.Bits.{bit_and, bit_or}
use borrow.Author.Tests.{eq-eqb, leb-true}
use Rattle.rules.specs.Limits.{most_id}
use Rattle.rules.specs.Answers.{Reading}
use Rattle.rules.specs.Lists.{every}
use Rattle.rules.specs.Kinds.{connection_type, track_ids, key_in, type_named}
use Rattle.rules.specs.Tokens.{Token}
use Rattle.rules.specs.Constraints.{Document, on, action_of, state, goes, at_key, with_entry, with_track, keys_of, key_name, string_value, tracks_open, act}
use Rattle.rules.specs.declared.sizes.Constraint.{Constraint}
use Rattle.rules.specs.declared.tokens.Class.TheVariants.{CloseBrace, Quoted, Run}
use Rattle.rules.specs.declared.tokens.Phase.{Phase}
use Rattle.rules.specs.declared.tokens.Phase.TheVariants.{AfterRecord, FirstKey, NextKey, KeyColon, Value, AfterValue, FirstTrack, NextTrack, AfterTrack}
use Rattle.rules.specs.declared.tokens.Action.TheVariants.{KeyName, RecordEnds, StringValue, NumberValue, TracksOpen, TrackNumber}
use Rattle.rules.specs.declared.tokens.Rules.{Rules}
use Rattle.rules.specs.declared.tokens.State.{State}
use Rattle.rules_theorems.proofs.DocumentWords.{and_first, and_second}
use Rattle.rules_json.specs.Value.{Member, number, type, track_list, key_of, Fits, in_range}
use Rattle.rules_json.specs.Written.{Piece, close_brace, open_bracket, close_bracket, colon, comma, string, whole, more, items, track_pieces, said_pieces, member_pieces, key_name_in as name_of_key, type_name}
use Rattle.rules_json.proofs.Same.{with_tracks, with_member, entry_with, after_members, closing, Allowed, OkMembers}
use Rattle.rules_json.proofs.Grows.{fits-before, tracks_grow, members_grow}
use Rattle.rules_json.proofs.Names.{key_in_named, type_named_lem, type_is_known, type_in}
use Rattle.rules_json.proofs.Turns.{Reads, does, leads, record_ended, track_read, number_read}

module _ (legs : List ℕ) (constraints tracks : ℕ) (r : Reading Document) where
  abbrev Goes : State → Document → List Piece → Type 0
  Goes = Reads legs constraints tracks r

  -- ---- a list of tracks

  module _ (st : State) (rest : List Piece) where
    -- a number and what follows it, behind the bracket or behind a comma
    track_then : (p : Phase) → action_of p Run ≡ TrackNumber → (id : ℕ) (ids : List ℕ) (d : Document)
        → every (λ k. leb k most_id) (id ∷ ids) ≡ true → Fits constraints tracks (with_tracks (id ∷ ids) d)
        → Goes (goes AfterTrack st) (with_track id d) (more track_pieces close_bracket ids rest)
        → Goes (goes p st) d (whole id ∷ more track_pieces close_bracket ids rest)
    unfolding act
    track_then p may id ids d ok fits k =
        does legs constraints tracks r p (whole id) TrackNumber may (more track_pieces close_bracket ids rest) st (goes AfterTrack st) d (with_track id d)
        (λ t says. track_read legs constraints tracks (goes p st) d t id says.1 (leb-true id most_id (and_first (leb id most_id) _ ok))
        (fits-before constraints tracks (tracks_grow ids (with_track id d)) fits))
        k

    more-tracks : (ids : List ℕ) (d : Document) → every (λ id. leb id most_id) ids ≡ true → Fits constraints tracks (with_tracks ids d)
        → Goes (goes AfterValue st) (with_tracks ids d) rest → Goes (goes AfterTrack st) d (more track_pieces close_bracket ids rest)
    unfolding action_of
    more-tracks [] d ok fits k = leads legs constraints tracks r AfterTrack close_bracket AfterValue refl rest st d k
    more-tracks (id ∷ ids) d ok fits k =
        leads legs constraints tracks r AfterTrack comma NextTrack refl (whole id ∷ more track_pieces close_bracket ids rest) st d
        (track_then NextTrack refl id ids d ok fits (more-tracks ids (with_track id d) (and_second (leb id most_id) _ ok) fits k))

    all_tracks : (ids : List ℕ) (d : Document) → every (λ id. leb id most_id) ids ≡ true → Fits constraints tracks (with_tracks ids d)
        → Goes (goes AfterValue st) (with_tracks ids d) rest → Goes (goes FirstTrack st) d (items track_pieces close_bracket ids rest)
    unfolding action_of
    all_tracks [] d ok fits k = leads legs constraints tracks r FirstTrack close_bracket AfterValue refl rest st d k
    all_tracks (id ∷ ids) d ok fits k =
        track_then FirstTrack refl id ids d ok fits (more-tracks ids (with_track id d) (and_second (leb id most_id) _ ok) fits k)

  -- ---- a member

  key_turn : (st : State) (d : Document) (t : Token) (m : Member) → Allowed legs st.list st.keys m → t.word ≡ name_of_key st.rules.edition st.list (key_of m)
      → key_name legs constraints tracks (key_in st.rules.edition st.list t.word) st d t ≡ on (at_key (key_of m) st) d
  unfolding key_name
  key_turn st d t m allowed word =
      ap (λ (w : List ℕ). key_name legs constraints tracks (key_in st.rules.edition st.list w) st d t) word
      ∙ ap (λ (k : ℕ). key_name legs constraints tracks k st d t) (key_in_named st.rules.edition st.list (key_of m) allowed.in_keys)
      ∙ rw (allowed.carried, eq-eqb (bit_and st.keys (key_of m)) 0 allowed.fresh)

  type_turn : (st : State) (d : Document) (t : Token) (n : ℕ) → st.key ≡ connection_type → in_range legs (type n) ≡ true → t.word ≡ type_name n
      → string_value legs constraints tracks (type_named t.word) st d t ≡ on (with_entry (entry_with legs (type n) st.entry) st) d
  unfolding string_value
  type_turn st d t n at ok word =
      ap (λ (w : List ℕ). string_value legs constraints tracks (type_named w) st d t) word
      ∙ ap (λ (k : ℕ). string_value legs constraints tracks k st d t) (type_named_lem n (type_in legs n ok))
      ∙ rw (eq-eqb st.key connection_type at, type_is_known n (type_in legs n ok))

  tracks_turn : (st : State) (d : Document) (t : Token) → st.key ≡ track_ids → tracks_open legs constraints tracks st d t ≡ on (goes FirstTrack st) d
  unfolding tracks_open
  tracks_turn st d t at = rw (eq-eqb st.key track_ids at)

  number_then : (n : ℕ) (st : State) (d : Document) (rest : List Piece) → in_range legs (number st.key n) ≡ true
      → Fits constraints tracks (with_member (number st.key n) d)
      → Goes (with_entry (entry_with legs (number st.key n) st.entry) st) (with_member (number st.key n) d) rest → Goes (goes Value st) d (whole n ∷ rest)
  unfolding action_of act
  number_then n st d rest ok fits k =
      let m : Member = number st.key n in
      does legs constraints tracks r Value (whole n) NumberValue refl rest st (with_entry (entry_with legs m st.entry) st) d (with_member m d)
      (λ t says. number_read legs constraints tracks (goes Value st) d t n says.1 ok fits) k

  -- what a key says; st: at the key
  said_then : (m : Member) (st : State) (d : Document) (rest : List Piece) → st.key ≡ key_of m → in_range legs m ≡ true → Fits constraints tracks (with_member m d)
      → Goes (with_entry (entry_with legs m st.entry) st) (with_member m d) rest → Goes (goes Value st) d (said_pieces m rest)
  unfolding action_of act
  said_then (number key n) st d rest at ok fits k =
      subst (λ (key : ℕ). in_range legs (number key n) ≡ true → Fits constraints tracks (with_member (number key n) d)
      → Goes (with_entry (entry_with legs (number key n) st.entry) st) (with_member (number key n) d) rest → Goes (goes Value st) d (whole n ∷ rest))
      at (number_then n st d rest) ok fits k
  said_then (type n) st d rest at ok fits k =
      does legs constraints tracks r Value (string (type_name n)) StringValue refl rest st (with_entry (entry_with legs (type n) st.entry) st) d d
      (λ t says. type_turn (goes Value st) d t n at ok says.1) k
  said_then (track_list ids) st d rest at ok fits k =
      does legs constraints tracks r Value open_bracket TracksOpen refl (items track_pieces close_bracket ids rest) st (goes FirstTrack st) d d
      (λ t says. tracks_turn (goes Value st) d t at)
      (all_tracks st rest ids d ok fits k)

  -- a member, as the first of its record or behind a comma
  member_then : (p : Phase) → action_of p Quoted ≡ KeyName → (m : Member) (st : State) (d : Document) (rest : List Piece)
      → Allowed legs st.list st.keys m → Fits constraints tracks (with_member m d)
      → Goes (with_entry (entry_with legs m st.entry) (at_key (key_of m) st)) (with_member m d) rest → Goes (goes p st) d (member_pieces st.rules.edition st.list m rest)
  unfolding action_of act
  member_then p may m st d rest allowed fits k =
      does legs constraints tracks r p (string (name_of_key st.rules.edition st.list (key_of m))) KeyName may (colon ∷ said_pieces m rest) st (at_key (key_of m) st) d d
      (λ t says. key_turn (goes p st) d t m allowed says.1)
      (leads legs constraints tracks r KeyColon colon Value refl (said_pieces m rest) (at_key (key_of m) st) d
      (said_then m (at_key (key_of m) st) d rest refl allowed.value fits k))

  -- ---- all members of a record

  module _ (rules : Rules) (list lists : ℕ) (rest : List Piece) where
    -- a state within the record
    abbrev in_record_lem : Phase → (key keys : ℕ) → Constraint → State
    in_record_lem p key keys c = state rules p list lists key keys c

    -- behind the record: nothing of it is looked at again
    abbrev Behind : Document → Type 0
    Behind d = (key keys : ℕ) (c : Constraint) → Goes (in_record_lem AfterRecord key keys c) d rest

    -- the brace that closes it, as its first or behind a member
    close_then : (p : Phase) → action_of p CloseBrace ≡ RecordEnds → (key keys : ℕ) (c : Constraint) (d : Document) → keys ≡ keys_of list
        → Behind (closing list c d) → Goes (in_record_lem p key keys c) d (close_brace ∷ rest)
    unfolding act
    close_then p may key keys c d all k =
        does legs constraints tracks r p close_brace RecordEnds may rest (in_record_lem p key keys c) (in_record_lem AfterRecord key keys c) d (closing list c d)
        (λ t says. record_ended legs constraints tracks (in_record_lem p key keys c) d t all) (k key keys c)

    more_members : (ms : List Member) (key keys : ℕ) (c : Constraint) (d : Document) → OkMembers legs list keys ms
        → Fits constraints tracks (after_members legs list c d ms) → Behind (after_members legs list c d ms)
        → Goes (in_record_lem AfterValue key keys c) d (more (member_pieces rules.edition list) close_brace ms rest)
    unfolding action_of
    more_members [] key keys c d ok fits k = close_then AfterValue refl key keys c d ok k
    more_members (m ∷ ms) key keys c d ok fits k =
        leads legs constraints tracks r AfterValue comma NextKey refl (member_pieces rules.edition list m (more (member_pieces rules.edition list) close_brace ms rest)) (in_record_lem AfterValue key keys c) d
        (member_then NextKey refl m (in_record_lem NextKey key keys c) d (more (member_pieces rules.edition list) close_brace ms rest) ok.0
        (fits-before constraints tracks (members_grow legs list (entry_with legs m c) (with_member m d) ms) fits)
        (more_members ms (key_of m) (bit_or keys (key_of m)) (entry_with legs m c) (with_member m d) ok.1 fits k))

    pub all_members : (ms : List Member) (key : ℕ) (c : Constraint) (d : Document) → OkMembers legs list 0 ms
        → Fits constraints tracks (after_members legs list c d ms) → Behind (after_members legs list c d ms)
        → Goes (in_record_lem FirstKey key 0 c) d (items (member_pieces rules.edition list) close_brace ms rest)
    unfolding action_of
    all_members [] key c d ok fits k = close_then FirstKey refl key 0 c d ok k
    all_members (m ∷ ms) key c d ok fits k =
        member_then FirstKey refl m (in_record_lem FirstKey key 0 c) d (more (member_pieces rules.edition list) close_brace ms rest) ok.0
        (fits-before constraints tracks (members_grow legs list (entry_with legs m c) (with_member m d) ms) fits)
        (more_members ms (key_of m) (bit_or 0 (key_of m)) (entry_with legs m c) (with_member m d) ok.1 fits k)
