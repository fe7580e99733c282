-- One token after which a document was read: the tests that it has passed, and what the automaton went on with. Assumes nothing.
use Prim.Native.Nat.{ℕ}
use mathlib.Core.Path.{◌≡◌, refl, sym, ap, subst}
use mathlib.Core.Bool.{Bool, true, false, not, cond, true≢false}
use mathlib.Core.List.{List}
use native.Mathlib.Omega.{arith}
use lib.Dec.{leb, ltb, eqb}
use lib.Bits.{bit_and}
use lib.ListN.{length}
use borrow.Author.Tests.{eqb-true}
use Rattle.rules.specs.Limits.{most_id, most_seconds, most_constraints, most_subnets, most_tracks}
use Rattle.rules.specs.Lists.{any}
use Rattle.std.specs.Prelude.{is_some, Option, Some, None, unwrap_or}
use Rattle.rules.specs.Bytes.{whole_of}
use Rattle.rules.specs.Answers.{out_of_range, too_many, already_seen, bad_json, unknown_name, repeated_or_missing, not_there, no_room, Reading, good}
use Rattle.rules.specs.Kinds.{unknown, subnets, connection_type, subnet_id, track_ids}
use Rattle.rules.specs.Tokens.{Token}
use Rattle.rules.specs.Constraints.{Document, Turn, fault, goes, in_list, in_record, at_key, with_entry, with_id, with_track, with_subnet, entered, keys_of, list_bit, all_lists, rules_in, number_of, is_number, row_of_leg, list_name, document_ends, record_opens, key_name, record_ends, string_value, leg_value, subnet_value, seconds_value, number_value, tracks_open, track_number, onward}
use Rattle.rules.specs.declared.tokens.Phase.TheVariants.{Done, AfterRecord, FirstTrack, AfterTrack}
use Rattle.rules.specs.declared.tokens.State.{State}
use Rattle.rules_theorems.proofs.Keys.{has}
use Rattle.rules_json.specs.Value.{number, is_leg, no_number, in_range}
use Rattle.rules_json.proofs.Same.{opening, closing, with_member, entry_with}
use Rattle.rules_json.proofs.Turns.{leg_no_id}

-- a run that says a number
number_is : (o : Option ℕ) → is_some o ≡ true → o ≡ Some (unwrap_or o 0)
number_is None h = absurd (true≢false (sym h))
number_is (Some n) h = refl

module _ (legs : List ℕ) (constraints tracks : ℕ) (more : State → Document → Reading Document) (D : Document) where
  -- a turn after which D was read
  abbrev pub Read : Turn → Type 0
  Read turn = onward legs constraints tracks turn more ≡ good D

  pub no_fault : {A : Type 0} (n place : ℕ) → Read (fault n place) → A
  no_fault n place e = let z : ◌≡◌ {A = ℕ} 0 1 = cc in absurd (omega arith)

  module _ (st : State) (d : Document) (t : Token) where
    test : (n : ℕ) (b : Bool) (turn : Turn) → Read (cond b turn (fault n t.place)) → (b ≡ true) × Read turn
    test n true turn e = (refl, e)
    test n false turn e = no_fault n t.place e

    pub list-said : (list : ℕ) → Read (list_name legs constraints tracks list st d t)
        → (not (eqb list unknown) ≡ true) × (bit_and st.lists (list_bit list) ≡ 0) × (more (in_list list st) d ≡ good D)
    unfolding list_name
    list-said list e =
        let a = test unknown_name (not (eqb list unknown)) _ e in
        let b = test repeated_or_missing (eqb (bit_and st.lists (list_bit list)) 0) _ a.1 in
        (a.0, eqb-true _ 0 b.0, b.1)

    pub document-said : (E : ℕ) → st.rules ≡ rules_in E → Read (document_ends legs constraints tracks st d t)
        → (bit_and st.lists all_lists ≡ all_lists) × (more (goes Done st) d ≡ good D)
    unfolding document_ends
    document-said E plain e =
        let a = test repeated_or_missing (eqb (bit_and st.lists st.rules.required) st.rules.required) _ e in
        (subst (λ (n : ℕ). bit_and st.lists n ≡ n) (ap (λ r. r.required) plain) (eqb-true _ _ a.0), a.1)

    pub record_said : Read (record_opens legs constraints tracks st d t) → more (in_record st) (opening st.list d) ≡ good D
    unfolding record_opens
    record_said = go (eqb st.list subnets) refl
      where
        go : (b : Bool) → eqb st.list subnets ≡ b → Read (record_opens legs constraints tracks st d t) → more (in_record st) (cond b (with_subnet d) d) ≡ good D
        go true e h = (test too_many (ltb d.opened most_subnets) _ (rw e at h)).1
        go false e h =
            let few = test too_many (ltb (length d.constraints) most_constraints) _ (rw e at h) in
            (test no_room (ltb (length d.constraints) constraints) _ few.1).1

    pub key_said : (key : ℕ) → Read (key_name legs constraints tracks key st d t)
        → (has (keys_of st.list) key ≡ true) × (bit_and st.keys key ≡ 0) × (more (at_key key st) d ≡ good D)
    unfolding key_name
    key_said key e =
        let a = test unknown_name (has (keys_of st.list) key) _ e in
        let b = test repeated_or_missing (eqb (bit_and st.keys key) 0) _ a.1 in
        (a.0, eqb-true _ 0 b.0, b.1)

    pub end-said : Read (record_ends legs constraints tracks st d t)
        → (st.keys ≡ keys_of st.list) × (more (goes AfterRecord st) (closing st.list st.entry d) ≡ good D)
    unfolding record_ends
    end-said e =
        let a = test repeated_or_missing (eqb st.keys (keys_of st.list)) _ e in
        (eqb-true _ _ a.0, a.1)

    pub type_said : (type : ℕ) → Read (string_value legs constraints tracks type st d t)
        → (st.key ≡ connection_type) × (not (eqb type unknown) ≡ true) × (more (with_entry (entered connection_type type st.entry) st) d ≡ good D)
    unfolding string_value
    type_said type e =
        let a = test bad_json (eqb st.key connection_type) _ e in
        let b = test unknown_name (not (eqb type unknown)) _ a.1 in
        (eqb-true _ _ a.0, b.0, b.1)

    pub tracks-said : Read (tracks_open legs constraints tracks st d t) → (st.key ≡ track_ids) × (more (goes FirstTrack st) d ≡ good D)
    unfolding tracks_open
    tracks-said e =
        let a = test bad_json (eqb st.key track_ids) _ e in
        (eqb-true _ _ a.0, a.1)

    pub track_said : Read (track_number legs constraints tracks st d t)
        → (whole_of t.word ≡ Some (number_of t)) × (leb (number_of t) most_id ≡ true) × (more (goes AfterTrack st) (with_track (number_of t) d) ≡ good D)
    unfolding track_number
    track_said e =
        let a = test bad_json (is_number t) _ e in
        let b = test out_of_range (leb (number_of t) most_id) _ a.1 in
        let c = test too_many (ltb (length d.tracks) most_tracks) _ b.1 in
        let f = test already_seen (not (any (λ k. eqb k.id (number_of t)) d.tracks)) _ c.1 in
        (number_is (whole_of t.word) a.0, b.0, (test no_room (ltb (length d.tracks) tracks) _ f.1).1)

    -- a number under its key
    abbrev pub NumberSaid : Type 0
    NumberSaid =
        (whole_of t.word ≡ Some (number_of t))
        × (in_range legs (number st.key (number_of t)) ≡ true)
        × (more (with_entry (entry_with legs (number st.key (number_of t)) st.entry) st) (with_member (number st.key (number_of t)) d) ≡ good D)

    leg-said : no_number st.key ≡ false → is_leg st.key ≡ true → Read (leg_value legs constraints tracks st d t) → NumberSaid
    unfolding leg_value
    leg-said other leg e =
        let a = test bad_json (is_number t) _ e in
        let b = test out_of_range (leb (number_of t) most_id) _ a.1 in
        let c = test not_there (is_some (row_of_leg legs (number_of t))) _ b.1 in
        (number_is (whole_of t.word) a.0, rw (other, leg, b.0, c.0), rw (leg, leg_no_id st.key leg) c.1)

    id_said : no_number st.key ≡ false → is_leg st.key ≡ false → eqb st.key subnet_id ≡ true
        → Read (subnet_value legs constraints tracks st d t) → NumberSaid
    unfolding subnet_value
    id_said other no_leg_lem id e =
        let a = test bad_json (is_number t) _ e in
        let b = test out_of_range (leb (number_of t) most_id) _ a.1 in
        let c = test already_seen (not (any (eqb (number_of t)) d.ids)) _ b.1 in
        let key : subnet_id ≡ st.key = sym (eqb-true st.key subnet_id id) in
        let entry = subst (λ (k : ℕ). more (with_entry (entered k (number_of t) st.entry) st) (with_id (number_of t) d) ≡ good D) key c.1 in
        (number_is (whole_of t.word) a.0, rw (other, no_leg_lem, id, b.0), rw (no_leg_lem, id) entry)

    seconds-said : no_number st.key ≡ false → is_leg st.key ≡ false → eqb st.key subnet_id ≡ false
        → Read (seconds_value legs constraints tracks st d t) → NumberSaid
    unfolding seconds_value
    seconds-said other no_leg_lem no-id e =
        let a = test bad_json (is_number t) _ e in
        let b = test out_of_range (leb (number_of t) most_seconds) _ a.1 in
        (number_is (whole_of t.word) a.0, rw (other, no_leg_lem, no-id, b.0), rw (no_leg_lem, no-id) b.1)

    pub number_said : Read (number_value legs constraints tracks st d t) → NumberSaid
    unfolding number_value
    number_said = other (no_number st.key) refl
      where
        id : (b : Bool) → no_number st.key ≡ false → is_leg st.key ≡ false → eqb st.key subnet_id ≡ b
            → Read (cond b (subnet_value legs constraints tracks st d t) (seconds_value legs constraints tracks st d t)) → NumberSaid
        id true f g h e = id_said f g h e
        id false f g h e = seconds-said f g h e

        leg : (b : Bool) → no_number st.key ≡ false → is_leg st.key ≡ b
            → Read (cond b (leg_value legs constraints tracks st d t)
            (cond (eqb st.key subnet_id) (subnet_value legs constraints tracks st d t) (seconds_value legs constraints tracks st d t)))
            → NumberSaid
        leg true f g e = leg-said f g e
        leg false f g e = id (eqb st.key subnet_id) f g refl e

        other : (b : Bool) → no_number st.key ≡ b → Read (number_value legs constraints tracks st d t) → NumberSaid
        other true f e = no_fault bad_json t.place (rw f at e)
        other false f e = leg (is_leg st.key) f refl (rw f at e)
