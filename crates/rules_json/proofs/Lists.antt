-- The records of a list, the lists of a document, and the whole document, read one after the other. Assumes nothing.
use Prim.Native.Nat.{ℕ, ◌<◌}
use mathlib.Core.Path.{◌≡◌, refl, ap, ◌∙◌}
use mathlib.Core.Bool.{false}
use mathlib.Core.List.{List, [], ◌∷◌}
use native.Mathlib.Omega.{arith}
use lib.Dec.{eqb}
use lib.Bits.{bit_and, bit_or}
use lib.ListN.{length, length-append}
use borrow.Author.Tests.{eq-eqb}
use Rattle.rules.specs.Answers.{Reading, good}
use Rattle.rules.specs.Kinds.{unknown, subnets, list_named}
use Rattle.rules.specs.Tokens.{Token}
use Rattle.rules.specs.Constraints.{Document, empty, on, action_of, state, start, goes, in_list, no_entry, list_bit, all_lists, rules_in, list_name, document_ends, act, turn_of, onward, run}
use Rattle.rules.specs.Verdict.{All}
use Rattle.rules.specs.declared.sizes.Constraint.{Constraint}
use Rattle.rules.specs.declared.tokens.Class.{Class}
use Rattle.rules.specs.declared.tokens.Class.TheVariants.{OpenBrace, CloseBrace, Quoted}
use Rattle.rules.specs.declared.tokens.Phase.{Phase}
use Rattle.rules.specs.declared.tokens.Phase.TheVariants.{Document as Text, FirstName, Name, NameColon, ListOpen, AfterList, FirstRecord, Record, AfterRecord, FirstKey, Done}
use Rattle.rules.specs.declared.tokens.Action.TheVariants.{ListName, RecordOpens, DocumentEnds}
use Rattle.rules.specs.declared.tokens.State.{State}
use Rattle.rules_json.specs.Value.{Member, Listed, Value, Fits}
use Rattle.rules_json.specs.Written.{Piece, open_brace, close_brace, open_bracket, close_bracket, colon, comma, string, more, items, member_pieces, record_pieces, list_pieces, pieces, list_name as name_of_list}
use Rattle.rules_json.proofs.Same.{Same, opening, entry_with, with_member, after_members, after_record, after_records, after_lists, OkMembers, AllowedList, OkLists}
use Rattle.rules_json.proofs.Grows.{fits-before, front_length, member_grows, members_grow, records_grow, lists_grow}
use Rattle.rules_json.proofs.Names.{list_named_lem, list-is_known}
use Rattle.rules_json.proofs.Turns.{Reads, does, leads, record_opened}
use Rattle.rules_json.proofs.Members.{all_members}

-- a state in a list; lists: those that were seen
abbrev in_list_lem : (E : ℕ) → (list lists : ℕ) → Phase → (key keys : ℕ) → Constraint → State
in_list_lem E list lists p key keys c = state (rules_in E) p list lists key keys c

module _ (E : ℕ) (legs : List ℕ) (constraints tracks : ℕ) where
  -- ---- a record

  -- a record of a kind adds one constraint
  one_more : (list : ℕ) → eqb list subnets ≡ false → (c : Constraint) (d : Document) (ms : List Member)
      → length d.constraints < length (after_members legs list c d ms).constraints
  one_more list kind c d [] = rw kind (omega (arith, length-append d.constraints (c ∷ [])))
  one_more list kind c d (m ∷ ms) =
      let before = front_length (member_grows m d).constraints in
      let rest = one_more list kind (entry_with legs m c) (with_member m d) ms in
      omega arith

  module _ (r : Reading Document) where
    abbrev Goes : State → Document → List Piece → Type 0
    Goes = Reads legs constraints tracks r

    module _ (list lists : ℕ) where
      -- a record, as the first of its list or behind a comma
      record_then : (p : Phase) → action_of p OpenBrace ≡ RecordOpens → (ms : List Member) (key keys : ℕ) (c : Constraint) (d : Document) (rest : List Piece)
          → OkMembers legs list 0 ms → Fits constraints tracks (after_record legs list d ms)
          → ((key keys : ℕ) (c : Constraint) → Goes (in_list_lem E list lists AfterRecord key keys c) (after_record legs list d ms) rest)
          → Goes (in_list_lem E list lists p key keys c) d (record_pieces E list ms rest)
      unfolding act
      record_then p may ms key keys c d rest ok fits k =
          does legs constraints tracks r p open_brace RecordOpens may (items (member_pieces E list) close_brace ms rest) (in_list_lem E list lists p key keys c)
          (in_list_lem E list lists FirstKey unknown 0 (no_entry list)) d (opening list d)
          (λ t says. record_opened legs constraints tracks (in_list_lem E list lists p key keys c) d t
          (fits-before constraints tracks (members_grow legs list (no_entry list) (opening list d) ms) fits)
          (λ kind. let less = strictly kind in omega arith) (λ kind. let less = strictly kind in omega arith))
          (all_members legs constraints tracks r (rules_in E) list lists rest ms unknown (no_entry list) (opening list d) ok fits k)
        where
          strictly : eqb list subnets ≡ false → length d.constraints < length (after_record legs list d ms).constraints
          strictly kind =
              let less = one_more list kind (no_entry list) (opening list d) ms in
              let same : length (opening list d).constraints ≡ length d.constraints = rw kind in
              omega arith

      module _ (rest : List Piece) where
        -- behind the list: nothing of its records is looked at again
        abbrev Behind : Document → Type 0
        Behind d = (key keys : ℕ) (c : Constraint) → Goes (in_list_lem E list lists AfterList key keys c) d rest

        more-records : (rs : List (List Member)) (key keys : ℕ) (c : Constraint) (d : Document) → All (OkMembers legs list 0) rs
            → Fits constraints tracks (after_records legs list d rs) → Behind (after_records legs list d rs)
            → Goes (in_list_lem E list lists AfterRecord key keys c) d (more (record_pieces E list) close_bracket rs rest)
        unfolding action_of
        more-records [] key keys c d ok fits k =
            leads legs constraints tracks r AfterRecord close_bracket AfterList refl rest (in_list_lem E list lists AfterRecord key keys c) d (k key keys c)
        more-records (ms ∷ rs) key keys c d ok fits k =
            leads legs constraints tracks r AfterRecord comma Record refl (record_pieces E list ms (more (record_pieces E list) close_bracket rs rest))
            (in_list_lem E list lists AfterRecord key keys c) d
            (record_then Record refl ms key keys c d (more (record_pieces E list) close_bracket rs rest) ok.0
            (fits-before constraints tracks (records_grow legs list (after_record legs list d ms) rs) fits)
            (λ key keys c. more-records rs key keys c (after_record legs list d ms) ok.1 fits k))

        all_records : (rs : List (List Member)) (key keys : ℕ) (c : Constraint) (d : Document) → All (OkMembers legs list 0) rs
            → Fits constraints tracks (after_records legs list d rs) → Behind (after_records legs list d rs)
            → Goes (in_list_lem E list lists FirstRecord key keys c) d (items (record_pieces E list) close_bracket rs rest)
        unfolding action_of
        all_records [] key keys c d ok fits k =
            leads legs constraints tracks r FirstRecord close_bracket AfterList refl rest (in_list_lem E list lists FirstRecord key keys c) d (k key keys c)
        all_records (ms ∷ rs) key keys c d ok fits k =
            record_then FirstRecord refl ms key keys c d (more (record_pieces E list) close_bracket rs rest) ok.0
            (fits-before constraints tracks (records_grow legs list (after_record legs list d ms) rs) fits)
            (λ key keys c. more-records rs key keys c (after_record legs list d ms) ok.1 fits k)

    -- ---- a list

    name_turn : (st : State) (d : Document) (t : Token) (l : Listed) → AllowedList legs st.lists l → t.word ≡ name_of_list l.list
        → list_name legs constraints tracks (list_named t.word) st d t ≡ on (in_list l.list st) d
    unfolding list_name
    name_turn st d t l allowed word =
        ap (λ (w : List ℕ). list_name legs constraints tracks (list_named w) st d t) word
        ∙ ap (λ (k : ℕ). list_name legs constraints tracks k st d t) (list_named_lem l.list allowed.in_lists)
        ∙ rw (list-is_known l.list allowed.in_lists, eq-eqb (bit_and st.lists (list_bit l.list)) 0 allowed.fresh)

    -- a list, as the first or behind a comma
    list_then : (p : Phase) → action_of p Quoted ≡ ListName → (l : Listed) (list lists key keys : ℕ) (c : Constraint) (d : Document) (rest : List Piece)
        → AllowedList legs lists l → Fits constraints tracks (after_records legs l.list d l.records)
        → Behind l.list (bit_or lists (list_bit l.list)) rest (after_records legs l.list d l.records)
        → Goes (in_list_lem E list lists p key keys c) d (list_pieces E l rest)
    unfolding action_of act
    list_then p may l list lists key keys c d rest allowed fits k =
        let records : List Piece = items (record_pieces E l.list) close_bracket l.records rest in
        let inside : State = in_list_lem E l.list (bit_or lists (list_bit l.list)) NameColon key keys c in
        does legs constraints tracks r p (string (name_of_list l.list)) ListName may (colon ∷ open_bracket ∷ records) (in_list_lem E list lists p key keys c) inside d d
        (λ t says. name_turn (in_list_lem E list lists p key keys c) d t l allowed says.1)
        (leads legs constraints tracks r NameColon colon ListOpen refl (open_bracket ∷ records) inside d
        (leads legs constraints tracks r ListOpen open_bracket FirstRecord refl records inside d
        (all_records l.list (bit_or lists (list_bit l.list)) rest l.records key keys c d allowed.records fits k)))

  -- ---- the document

  end_turn : (st : State) (d : Document) (t : Token) → st.rules ≡ (rules_in E) → bit_and st.lists all_lists ≡ all_lists
      → document_ends legs constraints tracks st d t ≡ on (goes Done st) d
  unfolding document_ends
  end_turn st d t plain all = rw (plain, eq-eqb (bit_and st.lists all_lists) all_lists all)

  module _ (list lists key keys : ℕ) (c : Constraint) (d : Document) where
    -- the text's end
    end_then : Reads legs constraints tracks (good d) (in_list_lem E list lists Done key keys c) d []
    unfolding run turn_of action_of act
    end_then [] h = absurd h
    end_then (t ∷ ts) h =
        ap (λ (k : Class). onward legs constraints tracks (act legs constraints tracks (action_of Done k) (in_list_lem E list lists Done key keys c) d t)
        (λ st' d'. run legs constraints tracks st' d' ts)) h

    -- the brace that closes the document, behind a list or behind the one that opens it
    close_then : (p : Phase) → action_of p CloseBrace ≡ DocumentEnds → bit_and lists all_lists ≡ all_lists
        → Reads legs constraints tracks (good d) (in_list_lem E list lists p key keys c) d (close_brace ∷ [])
    unfolding act
    close_then p may all =
        does legs constraints tracks (good d) p close_brace DocumentEnds may [] (in_list_lem E list lists p key keys c) (in_list_lem E list lists Done key keys c) d d
        (λ t says. end_turn (in_list_lem E list lists p key keys c) d t refl all) end_then

  more_lists : (v : Value) (list lists key keys : ℕ) (c : Constraint) (d : Document) → OkLists legs lists v → Fits constraints tracks (after_lists legs d v)
      → Reads legs constraints tracks (good (after_lists legs d v)) (in_list_lem E list lists AfterList key keys c) d (more (list_pieces E) close_brace v [])
  unfolding action_of
  more_lists [] list lists key keys c d ok fits = close_then list lists key keys c d AfterList refl ok
  more_lists (l ∷ ls) list lists key keys c d ok fits =
      let r : Reading Document = good (after_lists legs d (l ∷ ls)) in
      leads legs constraints tracks r AfterList comma Name refl (list_pieces E l (more (list_pieces E) close_brace ls [])) (in_list_lem E list lists AfterList key keys c) d
      (list_then r Name refl l list lists key keys c d (more (list_pieces E) close_brace ls []) ok.0
      (fits-before constraints tracks (lists_grow legs (after_records legs l.list d l.records) ls) fits)
      (λ key keys c. more_lists ls l.list (bit_or lists (list_bit l.list)) key keys c (after_records legs l.list d l.records) ok.1 fits))

  all_lists_lem : (v : Value) (d : Document) → OkLists legs 0 v → Fits constraints tracks (after_lists legs d v)
      → Reads legs constraints tracks (good (after_lists legs d v)) (in_list_lem E unknown 0 FirstName unknown 0 (no_entry 0)) d (items (list_pieces E) close_brace v [])
  unfolding action_of
  all_lists_lem [] d ok fits = close_then unknown 0 unknown 0 (no_entry 0) d FirstName refl ok
  all_lists_lem (l ∷ ls) d ok fits =
      list_then (good (after_lists legs d (l ∷ ls))) FirstName refl l unknown 0 unknown 0 (no_entry 0) d (more (list_pieces E) close_brace ls []) ok.0
      (fits-before constraints tracks (lists_grow legs (after_records legs l.list d l.records) ls) fits)
      (λ key keys c. more_lists ls l.list (bit_or 0 (list_bit l.list)) key keys c (after_records legs l.list d l.records) ok.1 fits)

  -- tokens that say the pieces of a value whose tests pass are read as what its lists add to an empty document
  pub pieces-read : (v : Value) → OkLists legs 0 v → Fits constraints tracks (after_lists legs empty v)
      → (ts : List Token) → Same (pieces E v) ts → run legs constraints tracks (start (rules_in E)) empty ts ≡ good (after_lists legs empty v)
  unfolding action_of
  pieces-read v ok fits =
      leads legs constraints tracks (good (after_lists legs empty v)) Text open_brace FirstName refl (items (list_pieces E) close_brace v []) (start (rules_in E)) empty
      (all_lists_lem v empty ok fits)
