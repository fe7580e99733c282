-- One token that passes its tests: what the automaton goes on with. Assumes nothing.
use Prim.Native.Nat.{ℕ, ◌-◌, ◌≤◌, ◌<◌}
use mathlib.Core.Path.{◌≡◌, refl, sym, ap, ◌∙◌}
use mathlib.Core.Bool.{Bool, true, false, cond, ◌&&◌, ◌||◌, true≢false}
use mathlib.Core.List.{List, [], ◌∷◌, ◌++◌}
use native.Mathlib.Omega.{arith}
use lib.Dec.{leb, eqb}
use lib.ListN.{length, length-append}
use borrow.Author.Tests.{lt-ltb, le-leb, eq-eqb, ne_eqb, eqb-true}
use Rattle.rules.specs.Limits.{most_id, most_seconds, most_constraints, most_subnets, most_tracks}
use Rattle.rules.specs.Answers.{Reading}
use Rattle.rules.specs.Lists.{any}
use Rattle.std.specs.Prelude.{is_some, Some, unwrap_or}
use Rattle.rules.specs.Bytes.{whole_of}
use Rattle.rules.specs.Kinds.{subnets, first_leg, second_leg, subnet_id}
use Rattle.rules.specs.Tokens.{Token}
use Rattle.rules.specs.Constraints.{Document, Turn, on, action_of, goes, with_entry, with_id, with_track, with_subnet, entered, in_record, row_of_leg, record_opens, record_ends, leg_value, subnet_value, seconds_value, number_value, track_number, act, turn_of, onward, run, keys_of}
use Rattle.rules.specs.declared.sizes.Track.{Track}
use Rattle.rules.specs.declared.tokens.Class.{Class}
use Rattle.rules.specs.declared.tokens.Action.{Action}
use Rattle.rules.specs.declared.tokens.Action.TheVariants.{Goes}
use Rattle.rules.specs.declared.tokens.Phase.{Phase}
use Rattle.rules.specs.declared.tokens.Phase.TheVariants.{AfterValue, AfterTrack, AfterRecord}
use Rattle.rules.specs.declared.tokens.State.{State}
use Rattle.rules.specs.Verdict.{All}
use Rattle.rules_theorems.specs.Lists.{Pairs}
use Rattle.rules_theorems.proofs.DocumentWords.{and_first, and_second}
use Rattle.rules_json.specs.Value.{number, is_leg, no_number, in_range, Fits}
use Rattle.rules_json.specs.Written.{Piece}
use Rattle.rules_json.proofs.Same.{Says, Same, class_of, says_class, opening, closing, entry_with, with_member}

-- an element that is like none before it
last-differs : {A : Type 0} (R : A → A → Type 0) (p : A → Bool) (s : List A) (y : A) → ((x : A) → R x y → p x ≡ false) → Pairs R (s ++ y ∷ [])
    → any p s ≡ false
last-differs R p [] y differ h = refl
last-differs {A} R p (x ∷ s) y differ h = rw (differ x (last s h.0)) (last-differs R p s y differ h.1)
  where
    last : (l : List A) → All (R x) (l ++ y ∷ []) → R x y
    last [] k = k.0
    last (z ∷ l) k = last l k.1

-- a leg's key is no subnet's
pub leg_no_id : (key : ℕ) → is_leg key ≡ true → eqb key subnet_id ≡ false
leg_no_id key leg = go (eqb key first_leg) refl leg
  where
    go : (b : Bool) → eqb key first_leg ≡ b → b || eqb key second_leg ≡ true → eqb key subnet_id ≡ false
    go true e h = let k = eqb-true key first_leg e in ne_eqb key subnet_id (omega arith)
    go false e h = let k = eqb-true key second_leg h in ne_eqb key subnet_id (omega arith)

module _ (legs : List ℕ) (constraints tracks : ℕ) where
  -- ---- a token is read, and then the rest

  module _ (r : Reading Document) where
    -- tokens that say the pieces are read as r
    abbrev pub Reads : State → Document → List Piece → Type 0
    Reads st d xs = (ts : List Token) → Same xs ts → run legs constraints tracks st d ts ≡ r

    -- in phase p a token that says x does what the table says
    pub does : (p : Phase) (x : Piece) (a : Action) → action_of p (class_of x) ≡ a → (xs : List Piece) (st after : State) (d e : Document)
        → ((t : Token) → Says x t → act legs constraints tracks a (goes p st) d t ≡ on after e) → Reads after e xs → Reads (goes p st) d (x ∷ xs)
    unfolding run turn_of
    does p x a may xs st after d e turn rest [] h = absurd h
    does p x a may xs st after d e turn rest (t ∷ ts) h =
        ap (λ (u : Turn). onward legs constraints tracks u (λ st' d'. run legs constraints tracks st' d' ts))
        (ap (λ (c : Class). act legs constraints tracks (action_of p c) (goes p st) d t) (says_class x t h.0)
        ∙ ap (λ (b : Action). act legs constraints tracks b (goes p st) d t) may
        ∙ turn t h.0)
        ∙ rest ts h.1

    -- a sign that only leads on
    pub leads : (p : Phase) (x : Piece) (q : Phase) → action_of p (class_of x) ≡ Goes q → (xs : List Piece) (st : State) (d : Document)
        → Reads (goes q st) d xs → Reads (goes p st) d (x ∷ xs)
    unfolding act
    leads p x q may xs st d rest = does p x (Goes q) may xs st (goes q st) d d (λ t says. refl) rest

  -- ---- the tests of each action

  module _ (st : State) (d : Document) (t : Token) where
    pub record_opened : Fits constraints tracks (opening st.list d) → (eqb st.list subnets ≡ false → length d.constraints < most_constraints)
        → (eqb st.list subnets ≡ false → length d.constraints < constraints)
        → record_opens legs constraints tracks st d t ≡ on (in_record st) (opening st.list d)
    unfolding record_opens
    record_opened fits few room = go (eqb st.list subnets) refl fits few room
      where
        go : (b : Bool) → eqb st.list subnets ≡ b → Fits constraints tracks (cond b (with_subnet d) d)
            → (b ≡ false → length d.constraints < most_constraints) → (b ≡ false → length d.constraints < constraints)
            → record_opens legs constraints tracks st d t ≡ on (in_record st) (cond b (with_subnet d) d)
        go true e fits few room = rw (e, lt-ltb d.opened most_subnets (omega arith))
        go false e fits few room = rw (e, lt-ltb (length d.constraints) most_constraints (few refl), lt-ltb (length d.constraints) constraints (room refl))

    pub record_ended : st.keys ≡ keys_of st.list → record_ends legs constraints tracks st d t ≡ on (goes AfterRecord st) (closing st.list st.entry d)
    unfolding record_ends
    record_ended e = rw (eq-eqb st.keys (keys_of st.list) e)

    module _ (n : ℕ) (says : whole_of t.word ≡ Some n) where
      pub track_read : n ≤ most_id → Fits constraints tracks (with_track n d)
          → track_number legs constraints tracks st d t ≡ on (goes AfterTrack st) (with_track n d)
      unfolding track_number
      track_read low fits =
          let track : Track = record { id = n; subnet = d.opened - 1 } in
          let one_more = length-append d.tracks (track ∷ []) in
          rw (
            says,
            le-leb n most_id low,
            lt-ltb (length d.tracks) most_tracks (omega arith),
            last-differs (λ x y. x.id ≡ y.id → ⊥) (λ k. eqb k.id n) d.tracks track (λ x differ. ne_eqb x.id n differ) fits.distinct_tracks,
            lt-ltb (length d.tracks) tracks (omega arith),
          )

      leg-read : leb n most_id && is_some (row_of_leg legs n) ≡ true
          → leg_value legs constraints tracks st d t ≡ on (with_entry (entered st.key (unwrap_or (row_of_leg legs n) 0) st.entry) st) d
      unfolding leg_value
      leg-read ok = rw (says, and_first (leb n most_id) (is_some (row_of_leg legs n)) ok, and_second (leb n most_id) (is_some (row_of_leg legs n)) ok)

      id_read : leb n most_id ≡ true → Fits constraints tracks (with_id n d) → subnet_value legs constraints tracks st d t ≡ on (goes AfterValue st) (with_id n d)
      unfolding subnet_value
      id_read ok fits =
          rw (says, ok, last-differs (λ x y. x ≡ y → ⊥) (eqb n) d.ids n (λ x differ. ne_eqb n x (λ e. differ (sym e))) fits.distinct_ids)

      seconds-read : leb n most_seconds ≡ true
          → seconds_value legs constraints tracks st d t ≡ on (with_entry (entered st.key n st.entry) st) d
      unfolding seconds_value
      seconds-read ok = rw (says, ok)

      -- a number under its key
      abbrev NumberRead : Type 0
      NumberRead = number_value legs constraints tracks st d t ≡ on (with_entry (entry_with legs (number st.key n) st.entry) st) (with_member (number st.key n) d)

      pub number_read : in_range legs (number st.key n) ≡ true → Fits constraints tracks (with_member (number st.key n) d) → NumberRead
      unfolding number_value
      number_read ok fits = other (no_number st.key) refl
        where
          seconds : (b : Bool) → no_number st.key ≡ false → is_leg st.key ≡ false → eqb st.key subnet_id ≡ b
              → NumberRead
          seconds true f g h =
              rw (f, g, h) (id_read (rw (f, g, h) at ok) (rw h at fits)
              ∙ ap (λ (k : ℕ). on (with_entry (entered k n st.entry) st) (with_id n d)) (sym (eqb-true st.key subnet_id h)))
          seconds false f g h = rw (f, g, h) (seconds-read (rw (f, g, h) at ok))

          leg : (b : Bool) → no_number st.key ≡ false → is_leg st.key ≡ b
              → NumberRead
          leg true f g = rw (f, g, leg_no_id st.key g) (leg-read (rw (f, g) at ok))
          leg false f g = seconds (eqb st.key subnet_id) f g refl

          other : (b : Bool) → no_number st.key ≡ b
              → NumberRead
          other true f = absurd (true≢false (sym (rw f at ok)))
          other false f = leg (is_leg st.key) f refl
