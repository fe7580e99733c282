-- Every document that constraints.json was read into is lawful, and every refusal has its number, file and place. Assumes nothing.
use Prim.Native.Nat.{ℕ, ◌≤◌, ◌<◌}
use mathlib.Core.Path.{◌≡◌, refl, sym, ap, subst, ◌∙◌}
use mathlib.Core.Bool.{Bool, true, false, not, cond, ◌||◌, true≢false}
use mathlib.Core.List.{List, [], ◌∷◌}
use native.Mathlib.Omega.{arith}
use lib.Dec.{leb, ltb, eqb}
use lib.Bits.{bit_and}
use lib.ListN.{length}
use borrow.Author.Tests.{eqb-true, eqb-false, leb-true, ltb-true, not-true}
use Rattle.rules.specs.Limits.{most_text, most_id, most_seconds, most_constraints, most_subnets, most_tracks}
use Rattle.rules.specs.Lists.{any}
use Rattle.std.specs.Prelude.{is_some, unwrap_or}
use Rattle.rules.specs.Answers.{refusal, too_long, out_of_range, too_many, already_seen, bad_json, unknown_name, repeated_or_missing, not_there, no_room, constraints_file, refused, good}
use Rattle.rules.specs.Kinds.{list_named, key_in, type_named, unknown, subnets, first_leg, second_leg, max_connection, connection_type, subnet_id, track_ids}
use Rattle.rules.specs.Tokens.{Token, tokens_of}
use Rattle.rules.specs.Constraints.{May, table, otherwise, sought, action_of, class_number, Document, empty, with_subnet, with_constraint, with_track, Turn, fault, on, past, number_of, is_number, row_of_leg, start, goes, no_entry, is_low, keys_of, list_bit, list_name, document_ends, record_opens, key_name, record_ends, string_value, string_cut, leg_value, subnet_value, seconds_value, number_value, tracks_open, track_number, act, turn_of, constraints_of}
use Rattle.rules.specs.declared.answers.Refusal.{Refusal}
use Rattle.rules.specs.declared.tokens.Class.{Class}
use Rattle.rules.specs.declared.tokens.Class.TheVariants.{OpenBrace, CloseBrace, OpenBracket, CloseBracket, Colon, Comma, Quoted, Run, End, Unclosed, Forbidden}
use Rattle.rules.specs.declared.tokens.Phase.{Phase}
use Rattle.rules.specs.declared.tokens.Phase.TheVariants.{Document as Text, FirstName, Name, NameColon, ListOpen, AfterList, FirstRecord, Record, AfterRecord, FirstKey, NextKey, KeyColon, Value, AfterValue, FirstTrack, NextTrack, AfterTrack, Done}
use Rattle.rules.specs.declared.tokens.Rules.{Rules}
use Rattle.rules.specs.declared.tokens.State.{State}
use Rattle.rules.specs.Verdict.{All}
use Rattle.rules_theorems.specs.LawfulDocument.{LawfulTables, LawfulDocument, LawfulRefusal, is_fault}
use Rattle.rules.proofs.Truth.{by_case}
use Rattle.rules_theorems.proofs.DocumentWords.{or_first, or_second, is_false}
use Rattle.rules_theorems.proofs.Keys.{among, keys, list-known, key_in-known, type_known, has, tracks_of-subnet, subnet_has_id, no_leg_lem}
use Rattle.rules_theorems.proofs.Entries.{row_within, type_fits, nothing-fits, entry_starts, entry_lawful}
use Rattle.rules_theorems.proofs.OneMore.{constraint_added, subnet_added, track_added, id_added}
use Rattle.rules_theorems.proofs.Phases.{pending, Outside, InList, InRecord, AtValue, InTracks, Holds, Keeps, value_given, id_given}
use Rattle.rules_theorems.proofs.Tokens.{tokens_within}
use Rattle.rules_theorems.proofs.Run.{Safe, at_fault, goes_on, ends, Lawful, not-read, read, run-lawful}

-- ---- one token keeps the invariant

module _ (legs : List ℕ) (constraints tracks : ℕ) where
  abbrev Invariant : State → Document → Type 0
  Invariant = Keeps legs constraints tracks

  abbrev Result : Document → Type 0
  Result = LawfulDocument legs constraints tracks

  module _ (n : ℕ) (st : State) (d : Document) (t : Token) (in_text : past t ≤ n) (tables : LawfulTables legs constraints tracks d) where
    abbrev Good : Turn → Type 0
    Good = Safe n Invariant Result

    -- the token is at fault where it stands
    wrong : {number : ℕ} → is_fault number ≡ true → Good (fault number t.place)
    wrong {number} known = at_fault {number = number} {place = t.place} known (omega arith)

    -- the text ends too early
    early : Good (fault bad_json (past t))
    early = at_fault refl in_text

    -- on with the same document
    stays : {after : State} → Holds legs constraints after.phase after d → Good (on after d)
    stays h = goes_on (record { tables = tables; holds = h })

    -- a test is passed, or it fails at this token
    tested : (number : ℕ) (b : Bool) (turn : Turn) → is_fault number ≡ true → (b ≡ true → Good turn) → Good (cond b turn (fault number t.place))
    tested number b turn known h = by_case Good b turn (fault number t.place) h (λ e. wrong known)

    -- one law for each action, with its tests in their order

    list_name_keeps : (word : List ℕ) → Outside d → Good (list_name legs constraints tracks (list_named word) st d t)
    unfolding list_name
    list_name_keeps word ids =
        tested unknown_name (not (eqb (list_named word) unknown)) _ refl (λ named.
        tested repeated_or_missing (eqb (bit_and st.lists (list_bit (list_named word))) 0) _ refl (λ new.
        stays (record { in_lists = list-known word (not-true _ named); ids = ids })))

    document_ends_keeps : Outside d → Good (document_ends legs constraints tracks st d t)
    unfolding document_ends
    document_ends_keeps ids =
        tested repeated_or_missing (eqb (bit_and st.lists st.rules.required) st.rules.required) _ refl (λ all.
        stays ids)

    record_opens_keeps : InList st.list d → Good (record_opens legs constraints tracks st d t)
    unfolding record_opens
    record_opens_keeps inside =
        by_case Good (eqb st.list subnets) _ _
        (λ is.
        tested too_many (ltb d.opened most_subnets) _ refl (λ low.
        goes_on (record {
          tables = record {
            constraints_lawful = tables.constraints_lawful;
            tracks_lawful = subnet_added d.opened tracks d.tracks tables.tracks_lawful;
            ids_lawful = tables.ids_lawful;
            subnets_in_limit = omega (arith, ltb-true d.opened most_subnets low);
          };
          holds = subnet-opened is;
        })))
        (λ kind.
        tested too_many (ltb (length d.constraints) most_constraints) _ refl (λ low.
        tested no_room (ltb (length d.constraints) constraints) _ refl (λ room.
        stays (kind_opened kind (ltb-true _ _ low) (ltb-true _ _ room)))))
      where
        subnet-opened : eqb st.list subnets ≡ true → InRecord legs constraints st.list 0 (no_entry st.list) (with_subnet d)
        subnet-opened is =
            let waits : pending st.list 0 ≡ 1 = rw is in
            record {
              in_lists = inside.in_lists;
              entry = entry_starts legs st.list;
              in_limit = λ kind. absurd (true≢false (sym is ∙ kind));
              in_room = λ kind. absurd (true≢false (sym is ∙ kind));
              open_subnet = λ e. omega arith;
              ids = omega (arith, inside.ids);
            }

        kind_opened : eqb st.list subnets ≡ false → length d.constraints < most_constraints → length d.constraints < constraints
            → InRecord legs constraints st.list 0 (no_entry st.list) d
        kind_opened kind low room =
            let waits : pending st.list 0 ≡ 0 = rw kind in
            record {
              in_lists = inside.in_lists;
              entry = entry_starts legs st.list;
              in_limit = λ e. low;
              in_room = λ e. room;
              open_subnet = λ e. absurd (eqb-false st.list subnets kind e);
              ids = omega (arith, inside.ids);
            }

    key_name_keeps : (key : ℕ) → among keys key ≡ true → InRecord legs constraints st.list st.keys st.entry d → Good (key_name legs constraints tracks key st d t)
    unfolding key_name
    key_name_keeps key in_keys inside =
        tested unknown_name (has (keys_of st.list) key) _ refl (λ carried.
        tested repeated_or_missing (eqb (bit_and st.keys key) 0) _ refl (λ new.
        stays (record {
          given = st.keys;
          before = inside;
          seen_now = refl;
          fresh = eqb-true _ 0 new;
          in_keys = in_keys;
          carried = carried;
        })))

    record_ends_keeps : InRecord legs constraints st.list st.keys st.entry d → Good (record_ends legs constraints tracks st d t)
    unfolding record_ends
    record_ends_keeps inside =
        tested repeated_or_missing (eqb st.keys (keys_of st.list)) _ refl (λ all.
        goes_on (by_case (Invariant (goes AfterRecord st)) (eqb st.list subnets) d (with_constraint st.entry d)
        (λ is. record { tables = tables; holds = record { in_lists = inside.in_lists; ids = subnet_done is (eqb-true _ _ all) } })
        (λ kind. record {
          tables = record {
            constraints_lawful = constraint_added legs constraints d.constraints st.entry
                (entry_lawful legs st.list st.keys st.entry inside.in_lists kind (eqb-true _ _ all) inside.entry)
                (inside.in_limit kind) (inside.in_room kind) tables.constraints_lawful;
            tracks_lawful = tables.tracks_lawful;
            ids_lawful = tables.ids_lawful;
            subnets_in_limit = tables.subnets_in_limit;
          };
          holds = record { in_lists = inside.in_lists; ids = kind_done kind };
        })))
      where
        subnet_done : eqb st.list subnets ≡ true → st.keys ≡ keys_of st.list → Outside d
        subnet_done is all =
            let list : st.list ≡ subnets = eqb-true _ _ is in
            let has-id : has st.keys subnet_id ≡ true = ap (λ (s : ℕ). has s subnet_id) (all ∙ ap keys_of list) ∙ subnet_has_id in
            let none-waits : pending st.list st.keys ≡ 0 = rw (is, has-id) in
            omega (arith, inside.ids)

        kind_done : eqb st.list subnets ≡ false → Outside d
        kind_done kind =
            let none-waits : pending st.list st.keys ≡ 0 = rw kind in
            omega (arith, inside.ids)

    module _ (at : AtValue legs constraints st.list st.key st.keys st.entry d) where
      at_key_lem : (key : ℕ) → eqb st.key key ≡ true → AtValue legs constraints st.list key st.keys st.entry d
      at_key_lem key e = subst (λ (k : ℕ). AtValue legs constraints st.list k st.keys st.entry d) (eqb-true st.key key e) at

      string_value_keeps : (word : List ℕ) → Good (string_value legs constraints tracks (type_named word) st d t)
      unfolding string_value
      string_value_keeps word =
          tested bad_json (eqb st.key connection_type) _ refl (λ is.
          tested unknown_name (not (eqb (type_named word) unknown)) _ refl (λ named.
          stays (value_given legs constraints st.list connection_type st.keys st.entry d (at_key_lem connection_type is) (type_named word) refl
          (type_fits legs (type_named word) (type_known word (not-true _ named))))))

      leg_value_keeps : eqb st.key first_leg || eqb st.key second_leg ≡ true → Good (leg_value legs constraints tracks st d t)
      unfolding leg_value
      leg_value_keeps leg =
          tested bad_json (is_number t) _ refl (λ number.
          tested out_of_range (leb (number_of t) most_id) _ refl (λ low.
          tested not_there (is_some (row_of_leg legs (number_of t))) _ refl (λ there.
          stays (value_given legs constraints st.list st.key st.keys st.entry d at (unwrap_or (row_of_leg legs (number_of t)) 0)
          (is_false (eqb st.key subnet_id) (no_leg_lem (λ k. eqb k subnet_id) refl st.key at.in_keys leg))
          (record {
            first_row_lem = λ e. row_within legs (number_of t) there;
            second_row_lem = λ e. row_within legs (number_of t) there;
            low_in_range = λ e. absurd (no_leg_lem is_low refl st.key at.in_keys leg e);
            high_in_range = λ e. absurd (no_leg_lem (λ k. eqb k max_connection) refl st.key at.in_keys leg e);
            a_type = λ e. absurd (no_leg_lem (λ k. eqb k connection_type) refl st.key at.in_keys leg e);
          })))))

      subnet_value_keeps : eqb st.key subnet_id ≡ true → Good (subnet_value legs constraints tracks st d t)
      unfolding subnet_value
      subnet_value_keeps is =
          tested bad_json (is_number t) _ refl (λ number.
          tested out_of_range (leb (number_of t) most_id) _ refl (λ low.
          tested already_seen (not (any (eqb (number_of t)) d.ids)) _ refl (λ new.
          goes_on (record {
            tables = record {
              constraints_lawful = tables.constraints_lawful;
              tracks_lawful = tables.tracks_lawful;
              ids_lawful = id_added (number_of t) d.ids (leb-true _ _ low) (not-true _ new) tables.ids_lawful;
              subnets_in_limit = tables.subnets_in_limit;
            };
            holds = id_given legs constraints st.list st.keys (number_of t) st.entry d (at_key_lem subnet_id is);
          }))))

      seconds_value_keeps : eqb st.key connection_type ≡ false → eqb st.key first_leg || eqb st.key second_leg ≡ false → eqb st.key subnet_id ≡ false
          → Good (seconds_value legs constraints tracks st d t)
      unfolding seconds_value
      seconds_value_keeps no_type_lem no_leg_lem no-id =
          tested bad_json (is_number t) _ refl (λ number.
          tested out_of_range (leb (number_of t) most_seconds) _ refl (λ low.
          stays (value_given legs constraints st.list st.key st.keys st.entry d at (number_of t) no-id
          (record {
            first_row_lem = λ e. absurd (true≢false (sym e ∙ or_first (eqb st.key first_leg) _ no_leg_lem));
            second_row_lem = λ e. absurd (true≢false (sym e ∙ or_second (eqb st.key first_leg) _ no_leg_lem));
            low_in_range = λ e. leb-true _ _ low;
            high_in_range = λ e. leb-true _ _ low;
            a_type = λ e. absurd (true≢false (sym e ∙ no_type_lem));
          }))))

      number_value_keeps : Good (number_value legs constraints tracks st d t)
      unfolding number_value
      number_value_keeps =
          by_case Good (eqb st.key connection_type || eqb st.key track_ids) _ _ (λ e. wrong refl) (λ other.
          by_case Good (eqb st.key first_leg || eqb st.key second_leg) _ _ leg_value_keeps (λ no_leg_lem.
          by_case Good (eqb st.key subnet_id) _ _ subnet_value_keeps (λ no-id.
          seconds_value_keeps (or_first (eqb st.key connection_type) _ other) no_leg_lem no-id)))

      tracks_open_keeps : Good (tracks_open legs constraints tracks st d t)
      unfolding tracks_open
      tracks_open_keeps =
          tested bad_json (eqb st.key track_ids) _ refl (λ is.
          let here = at_key_lem track_ids is in
          stays (record {
            inside = value_given legs constraints st.list track_ids st.keys st.entry d here 0 refl (nothing-fits legs track_ids refl refl refl);
            of_subnet = tracks_of-subnet st.list at.before.in_lists here.carried;
          }))

    track_number_keeps : InTracks legs constraints st.list st.keys st.entry d → Good (track_number legs constraints tracks st d t)
    unfolding track_number
    track_number_keeps listing =
        tested bad_json (is_number t) _ refl (λ number.
        tested out_of_range (leb (number_of t) most_id) _ refl (λ low.
        tested too_many (ltb (length d.tracks) most_tracks) _ refl (λ limit.
        tested already_seen (not (any (λ k. eqb k.id (number_of t)) d.tracks)) _ refl (λ new.
        tested no_room (ltb (length d.tracks) tracks) _ refl (λ room.
        goes_on (record {
          tables = record {
            constraints_lawful = tables.constraints_lawful;
            tracks_lawful = track_added d.opened tracks (number_of t) d.tracks (leb-true _ _ low)
                (listing.inside.open_subnet listing.of_subnet) (not-true _ new) (ltb-true _ _ limit) (ltb-true _ _ room) tables.tracks_lawful;
            ids_lawful = tables.ids_lawful;
            subnets_in_limit = tables.subnets_in_limit;
          };
          holds = record { inside = with_track_lem listing.inside; of_subnet = listing.of_subnet };
        }))))))
      where
        with_track_lem : InRecord legs constraints st.list st.keys st.entry d → InRecord legs constraints st.list st.keys st.entry (with_track (number_of t) d)
        with_track_lem i =
            record { in_lists = i.in_lists; entry = i.entry; in_limit = i.in_limit; in_room = i.in_room; open_subnet = i.open_subnet; ids = i.ids }

    string_cut_keeps : Good (string_cut legs constraints tracks st d t)
    unfolding string_cut
    string_cut_keeps =
        at_fault refl (by_case (λ p. p ≤ n) (eqb st.key connection_type) (past t) t.place (λ e. in_text) (λ e. omega arith))

    -- a token that may not stand where it stands
    otherwise_keeps : (c : Class) → Good (act legs constraints tracks (otherwise c) st d t)
    unfolding act
    otherwise_keeps End = early
    otherwise_keeps OpenBrace = wrong refl
    otherwise_keeps CloseBrace = wrong refl
    otherwise_keeps OpenBracket = wrong refl
    otherwise_keeps CloseBracket = wrong refl
    otherwise_keeps Colon = wrong refl
    otherwise_keeps Comma = wrong refl
    otherwise_keeps Quoted = wrong refl
    otherwise_keeps Run = wrong refl
    otherwise_keeps Unclosed = wrong refl
    otherwise_keeps Forbidden = wrong refl

    abbrev Acts : May → Type 0
    Acts m = Good (act legs constraints tracks m.action st d t)

    sought_keeps : (c : Class) (row : List May) → All Acts row → Good (act legs constraints tracks (sought c row) st d t)
    sought_keeps c [] h = otherwise_keeps c
    sought_keeps c (m ∷ row) h =
        by_case (λ a. Good (act legs constraints tracks a st d t)) (eqb (class_number m.class) (class_number c)) m.action (sought c row)
        (λ e. h.0) (λ e. sought_keeps c row h.1)

    -- THE TABLE, row by row
    row_keeps : (p : Phase) → Holds legs constraints p st d → All Acts (table p)
    unfolding act
    row_keeps Text h = (stays h, tt)
    row_keeps FirstName h = (list_name_keeps t.word h, (early, (document_ends_keeps h, tt)))
    row_keeps Name h = (list_name_keeps t.word h, (early, tt))
    row_keeps NameColon h = (stays h, tt)
    row_keeps ListOpen h = (stays h, tt)
    row_keeps AfterList h = (stays h, (document_ends_keeps h, tt))
    row_keeps FirstRecord h = (record_opens_keeps h, (stays h.ids, tt))
    row_keeps Record h = (record_opens_keeps h, tt)
    row_keeps AfterRecord h = (stays h, (stays h.ids, tt))
    row_keeps FirstKey h = (key_name_keeps (key_in st.rules.edition st.list t.word) (key_in-known st.rules.edition st.list t.word) h, (early, (record_ends_keeps h, tt)))
    row_keeps NextKey h = (key_name_keeps (key_in st.rules.edition st.list t.word) (key_in-known st.rules.edition st.list t.word) h, (early, tt))
    row_keeps KeyColon h = (stays h, tt)
    row_keeps Value h = (number_value_keeps h, (string_value_keeps h t.word, (string_cut_keeps, (tracks_open_keeps h, tt))))
    row_keeps AfterValue h = (stays h, (record_ends_keeps h, tt))
    row_keeps FirstTrack h = (track_number_keeps h, (stays h.inside, tt))
    row_keeps NextTrack h = (track_number_keeps h, tt)
    row_keeps AfterTrack h = (stays h, (stays h.inside, tt))
    row_keeps Done h = (ends (record { tables = tables; an_id_each = h }), tt)

  pub turn_keeps : (n : ℕ) (st : State) (d : Document) (t : Token) → past t ≤ n → Invariant st d
      → Safe n Invariant Result (turn_of legs constraints tracks st d t)
  unfolding turn_of action_of
  turn_keeps n st d t in_text kept =
      sought_keeps n st d t in_text kept.tables t.class (table st.phase) (row_keeps n st d t in_text kept.tables st.phase kept.holds)

  -- ---- the whole text

  pub start_keeps : (rules : Rules) → Invariant (start rules) empty
  start_keeps rules =
      record {
        tables = record {
          constraints_lawful = record { each = tt; in_limit = omega arith; in_room = omega arith };
          tracks_lawful = record { each = tt; distinct = tt; in_limit = omega arith; in_room = omega arith };
          ids_lawful = record { each = tt; distinct = tt };
          subnets_in_limit = omega arith;
        };
        holds = refl;
      }

  reading-lawful : (rules : Rules) (s : List ℕ)
      → Lawful (length s) Invariant Result (constraints_of legs constraints tracks rules s)
  unfolding constraints_of
  reading-lawful rules s =
      by_case (Lawful (length s) Invariant Result) (leb (length s) most_text) _ (refused (refusal too_long constraints_file 0))
      (λ e. run-lawful (length s) Invariant Result legs constraints tracks (turn_keeps (length s))
      (tokens_of s) (tokens_within s) (start rules) empty (start_keeps rules))
      (λ e. not-read {r = refusal too_long constraints_file 0} (record { of_file = refl; at_place = omega arith; by_number = refl }))

  -- a document that was read keeps all the limits of "Sizes", its legs are rows, its ids are distinct, and every subnet has its id
  pub good_is_lawful : (rules : Rules) (s : List ℕ) (d : Document) → constraints_of legs constraints tracks rules s ≡ good d
      → LawfulDocument legs constraints tracks d
  good_is_lawful rules s d e = go (subst (Lawful (length s) Invariant Result) e (reading-lawful rules s))
    where
      go : Lawful (length s) Invariant Result (good d) → LawfulDocument legs constraints tracks d
      go (read lawful) = lawful

  -- a refusal of constraints.json has its file, a place within the text or its length, and one of nine numbers
  pub fault_place : (rules : Rules) (s : List ℕ) (r : Refusal) → constraints_of legs constraints tracks rules s ≡ refused r → LawfulRefusal (length s) r
  fault_place rules s r e = go (subst (Lawful (length s) Invariant Result) e (reading-lawful rules s))
    where
      go : Lawful (length s) Invariant Result (refused r) → LawfulRefusal (length s) r
      go (not-read lawful) = lawful
