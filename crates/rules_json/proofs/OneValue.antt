-- A text writes one value only. Assumes nothing.
use Prim.Native.Nat.{ℕ}
use mathlib.Core.Path.{◌≡◌, refl, sym, ap, ap₂, ◌∙◌}
use mathlib.Core.Bool.{true, false, true≢false}
use mathlib.Core.List.{List, [], ◌∷◌}
use lib.Dec.{eqb}
use lib.ListN.{drop}
use borrow.Author.Tests.{eqb-false}
use Rattle.rules.specs.Bytes.{whole_of}
use Rattle.rules.specs.Kinds.{list_named, key_in, type_named}
use Rattle.rules.specs.Tokens.{Token, tokens_from}
use Rattle.rules.specs.Constraints.{Document, class_number}
use Rattle.rules.specs.Verdict.{All}
use Rattle.rules.specs.declared.tokens.Class.{Class}
use Rattle.rules.specs.declared.tokens.Class.TheVariants.{OpenBrace, CloseBrace, OpenBracket, CloseBracket, Colon, Comma, Quoted, Run, End, Unclosed, Forbidden}
use Rattle.rules.proofs.Truth.{all_map}
use Rattle.rules.proofs.TokenLaws.{is_end}
use Rattle.rules_json.specs.Value.{Member, number, type, track_list, key_of, Listed, Value, six_lists, Among, in_range}
use Rattle.rules_json.specs.Written.{Piece, Writes, open_brace, close_brace, open_bracket, close_bracket, colon, comma, string, whole, more, items, track_pieces, member_pieces, record_pieces, list_pieces, pieces, type_name, Writing, all_keys}
use Rattle.rules_json.proofs.Same.{Says, class_of, says_class, Same, OkMembers, OkLists}
use Rattle.rules_json.proofs.Names.{list_named_lem, key_in_named, type_named_lem, type_in}
use Rattle.rules_json.proofs.Passes.{value_passes}
use Rattle.rules_json.proofs.Text.{laid_said}
use Rattle.rules_json.proofs.Fine.{pieces_fine}
use Rattle.std.specs.Prelude.{unwrap_or}

-- ---- the tokens say one list of pieces

piece_of : Class → (word : List ℕ) → Piece
piece_of OpenBrace word = open_brace
piece_of CloseBrace word = close_brace
piece_of OpenBracket word = open_bracket
piece_of CloseBracket word = close_bracket
piece_of Colon word = colon
piece_of Comma word = comma
piece_of Quoted word = string word
piece_of Run word = whole (unwrap_or (whole_of word) 0)
piece_of End word = comma
piece_of Unclosed word = comma
piece_of Forbidden word = comma

says_piece : (x : Piece) (t : Token) → Says x t → piece_of t.class t.word ≡ x
unfolding piece_of
says_piece open_brace t says = ap (λ (c : Class). piece_of c t.word) says
says_piece close_brace t says = ap (λ (c : Class). piece_of c t.word) says
says_piece open_bracket t says = ap (λ (c : Class). piece_of c t.word) says
says_piece close_bracket t says = ap (λ (c : Class). piece_of c t.word) says
says_piece colon t says = ap (λ (c : Class). piece_of c t.word) says
says_piece comma t says = ap (λ (c : Class). piece_of c t.word) says
says_piece (string word) t says = ap₂ piece_of says.0 says.1
says_piece (whole n) t says = ap (λ (c : Class). piece_of c t.word) says.0 ∙ ap (λ o. whole (unwrap_or o 0)) says.1

inner : (x : Piece) → is_end (class_of x) ≡ false
inner open_brace = refl
inner close_brace = refl
inner open_bracket = refl
inner close_bracket = refl
inner colon = refl
inner comma = refl
inner (string word) = refl
inner (whole n) = refl

-- a piece is not the end
not_end : {A : Type 0} (x : Piece) (t : Token) → Says x t → t.class ≡ End → A
not_end x t says end = absurd (true≢false (sym (ap is_end end) ∙ ap is_end (says_class x t says) ∙ inner x))

same-pieces : (xs ys : List Piece) (ts : List Token) → Same xs ts → Same ys ts → xs ≡ ys
same-pieces [] ys [] h k = absurd h
same-pieces (x ∷ xs) ys [] h k = absurd h
same-pieces [] [] (t ∷ ts) h k = refl
same-pieces [] (y ∷ ys) (t ∷ ts) h k = not_end y t k.0 h
same-pieces (x ∷ xs) [] (t ∷ ts) h k = not_end x t h.0 k
same-pieces (x ∷ xs) (y ∷ ys) (t ∷ ts) h k =
    ap₂ (λ (z : Piece) (zs : List Piece). z ∷ zs) (sym (says_piece x t h.0) ∙ says_piece y t k.0) (same-pieces xs ys ts h.1 k.1)

-- ---- a list of pieces writes one value

-- of two things, in front of two rests, that give the same pieces: the things are the same, and so are the rests
abbrev Apart : {A : Type 0} → Writes A → (Ok : A → Type 0) → Type 0
Apart {A} write Ok = (x y : A) → Ok x → Ok y → (r s : List Piece) → write x r ≡ write y s → (x ≡ y) × (r ≡ s)

module _ {A : Type 0} (write : Writes A) (close : Piece) (Ok : A → Type 0) (one : Apart write Ok)
    (no_comma : (r s : List Piece) → close ∷ r ≡ comma ∷ s → ⊥)
    (no-close : (x : A) (r s : List Piece) → close ∷ r ≡ write x s → ⊥) where
  more-apart : Apart (more write close) (All Ok)
  more-apart [] [] h k r s e = (refl, ap (drop 1) e)
  more-apart [] (y ∷ ys) h k r s e = absurd (no_comma r _ e)
  more-apart (x ∷ xs) [] h k r s e = absurd (no_comma s _ (sym e))
  more-apart (x ∷ xs) (y ∷ ys) h k r s e =
      let first = one x y h.0 k.0 (more write close xs r) (more write close ys s) (ap (drop 1) e) in
      let rest = more-apart xs ys h.1 k.1 r s first.1 in
      (ap₂ (λ (z : A) (zs : List A). z ∷ zs) first.0 rest.0, rest.1)

  items-apart : Apart (items write close) (All Ok)
  items-apart [] [] h k r s e = (refl, ap (drop 1) e)
  items-apart [] (y ∷ ys) h k r s e = absurd (no-close y r _ e)
  items-apart (x ∷ xs) [] h k r s e = absurd (no-close x s _ (sym e))
  items-apart (x ∷ xs) (y ∷ ys) h k r s e =
      let first = one x y h.0 k.0 (more write close xs r) (more write close ys s) e in
      let rest = more-apart xs ys h.1 k.1 r s first.1 in
      (ap₂ (λ (z : A) (zs : List A). z ∷ zs) first.0 rest.0, rest.1)

-- the first piece
abbrev first_class : List Piece → Class
first_class [] = End
first_class (x ∷ xs) = class_of x

abbrev first_word : List Piece → List ℕ
first_word [] = []
first_word (open_brace ∷ xs) = []
first_word (close_brace ∷ xs) = []
first_word (open_bracket ∷ xs) = []
first_word (close_bracket ∷ xs) = []
first_word (colon ∷ xs) = []
first_word (comma ∷ xs) = []
first_word (string word ∷ xs) = word
first_word (whole n ∷ xs) = []

-- pieces whose first are of two classes are not the same
differ : {A : Type 0} {xs ys : List Piece} → xs ≡ ys → eqb (class_number (first_class xs)) (class_number (first_class ys)) ≡ false → A
differ e other = absurd (eqb-false _ _ other (ap (λ (zs : List Piece). class_number (first_class zs)) e))

-- ---- tracks, members, records, lists

track_apart : Apart track_pieces (λ id. Unit {0})
track_apart x y h k r s e = (cc, ap (drop 1) e)

tracks-apart : Apart (items track_pieces close_bracket) (All (λ id. Unit {0}))
tracks-apart = items-apart track_pieces close_bracket (λ id. Unit {0}) track_apart (λ r s e. differ e refl) (λ x r s e. differ e refl)

any-tracks : (ids : List ℕ) → All (λ id. Unit {0}) ids
any-tracks [] = tt
any-tracks (id ∷ ids) = (tt, any-tracks ids)

module _ (E : ℕ) (legs : List ℕ) where
  -- names that are known
  abbrev KnownMember : Member → Type 0
  KnownMember m = Among all_keys (key_of m) × (in_range legs m ≡ true)

  abbrev KnownList : Listed → Type 0
  KnownList l = Among six_lists l.list × All (All KnownMember) l.records

  -- members with the same pieces have the same key, and say the same
  same_key : (list : ℕ) (m n : Member) → KnownMember m → KnownMember n → (r s : List Piece) → member_pieces E list m r ≡ member_pieces E list n s → key_of m ≡ key_of n
  same_key list m n h k r s e =
      sym (key_in_named E list (key_of m) h.0) ∙ ap (λ (xs : List Piece). key_in E list (first_word xs)) e ∙ key_in_named E list (key_of n) k.0

  member_apart : (list : ℕ) → Apart (member_pieces E list) KnownMember
  member_apart list (number key a) (number key' b) h k r s e =
      let keys = same_key list (number key a) (number key' b) h k r s e in
      let said : whole a ∷ r ≡ whole b ∷ s = ap (drop 2) e in
      let numbers : a ≡ b = cc in
      (ap₂ number keys numbers, ap (drop 1) said)
  member_apart list (type a) (type b) h k r s e =
      let said : string (type_name a) ∷ r ≡ string (type_name b) ∷ s = ap (drop 2) e in
      let names : type_named (type_name a) ≡ type_named (type_name b) = ap (λ (xs : List Piece). type_named (first_word xs)) said in
      let types : a ≡ b = sym (type_named_lem a (type_in legs a h.1)) ∙ names ∙ type_named_lem b (type_in legs b k.1) in
      (ap type types, ap (drop 1) said)
  member_apart list (track_list a) (track_list b) h k r s e =
      let both = tracks-apart a b (any-tracks a) (any-tracks b) r s (ap (drop 3) e) in
      (ap track_list both.0, both.1)
  member_apart list (number key a) (type b) h k r s e = differ (ap (drop 2) e) refl
  member_apart list (number key a) (track_list b) h k r s e = differ (ap (drop 2) e) refl
  member_apart list (type a) (number key b) h k r s e = differ (ap (drop 2) e) refl
  member_apart list (type a) (track_list b) h k r s e = differ (ap (drop 2) e) refl
  member_apart list (track_list a) (number key b) h k r s e = differ (ap (drop 2) e) refl
  member_apart list (track_list a) (type b) h k r s e = differ (ap (drop 2) e) refl

  record_apart : (list : ℕ) → Apart (record_pieces E list) (All KnownMember)
  record_apart list ms ns h k r s e =
      items-apart (member_pieces E list) close_brace KnownMember (member_apart list) (λ r s e. differ e refl) (λ m r s e. differ e refl) ms ns h k r s (ap (drop 1) e)

  list-apart : Apart (list_pieces E) KnownList
  list-apart l k h g r s e =
      let lists : l.list ≡ k.list = sym (list_named_lem l.list h.0) ∙ ap (λ (xs : List Piece). list_named (first_word xs)) e ∙ list_named_lem k.list g.0 in
      let again : items (record_pieces E l.list) close_bracket l.records r ≡ items (record_pieces E l.list) close_bracket k.records s =
      ap (drop 3) e ∙ ap (λ (j : ℕ). items (record_pieces E j) close_bracket k.records s) (sym lists) in
      let both = items-apart (record_pieces E l.list) close_bracket (All KnownMember) (record_apart l.list) (λ r s e. differ e refl) (λ m r s e. differ e refl)
      l.records k.records h.1 g.1 r s again in
      (ap₂ (λ (list : ℕ) (records : List (List Member)). record { list = list; records = records }) lists both.0, both.1)

  value_apart : (v w : Value) → All KnownList v → All KnownList w → pieces E v ≡ pieces E w → v ≡ w
  value_apart v w h k e =
      (items-apart (list_pieces E) close_brace KnownList list-apart (λ r s e. differ e refl) (λ l r s e. differ e refl) v w h k [] [] (ap (drop 1) e)).0

  -- ---- THE THEOREM

  known_members : (list : ℕ) (ms : List Member) (seen : ℕ) → OkMembers legs list seen ms → All KnownMember ms
  known_members list [] seen ok = tt
  known_members list (m ∷ ms) seen ok = ((ok.0.in_keys, ok.0.value), known_members list ms _ ok.1)

  known_lists : (v : Value) (seen : ℕ) → OkLists legs seen v → All KnownList v
  known_lists [] seen ok = tt
  known_lists (l ∷ ls) seen ok = (
    (ok.0.in_lists, all_map (OkMembers legs l.list 0) (All KnownMember) (λ ms. known_members l.list ms 0) l.records ok.0.records),
    known_lists ls _ ok.1,
  )

  module _ (constraints tracks : ℕ) (s : List ℕ) where
    passes : (d : Document) (w : Writing E legs constraints tracks s d) → OkLists legs 0 w.value
    passes d w = value_passes legs w.value w.lawful.lists w.lawful.records

    says : (d : Document) (w : Writing E legs constraints tracks s d) → Same (pieces E w.value) (tokens_from 0 0 s)
    says d w = laid_said w.written (pieces_fine E legs w.value (passes d w)) 0

    pub one_value : (d e : Document) (w : Writing E legs constraints tracks s d) (x : Writing E legs constraints tracks s e) → w.value ≡ x.value
    one_value d e w x =
        value_apart w.value x.value (known_lists w.value 0 (passes d w)) (known_lists x.value 0 (passes e x))
        (same-pieces (pieces E w.value) (pieces E x.value) (tokens_from 0 0 s) (says d w) (says e x))
