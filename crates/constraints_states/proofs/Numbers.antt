-- The actions at a number: what is at fault, and what is read, by what the number and its search say. Assumes nothing.
use Prim.Native.Nat.{ℕ, ◌≤◌, ◌<◌}
use mathlib.Core.Path.{◌≡◌, refl, ap, sym, ◌∙◌}
use mathlib.Core.Bool.{Bool, true, false, cond}
use mathlib.Core.List.{List}
use Rattle.std.proofs.Common.{Result, Ok, Err, Option, Some, None}
use Rattle.std.specs.Result.{IsErrAnd}
use Rattle.std.proofs.lemmas.Result.{err_from_is_err_and}
use lib.ListN.{length}
use borrow.Author.Tests.{le-ltb, lt-ltb}
use lib.Dec.{leb, eqb}
use Rattle.rules.specs.Limits.{most_id, most_tracks, track_width}
use Rattle.rules.specs.Lists.{any}
use Rattle.rules.specs.Answers.{bad_json, out_of_range, not_there, already_seen, too_many, no_room}
use Rattle.rules.specs.Bytes.{whole_of}
use Rattle.rules.specs.Tokens.{Token}
use Rattle.rules.specs.Constraints.{Document, with_id, with_track, Turn, fault, on, number_of, is_number, goes, with_entry, entered, leg_value, subnet_value, track_number}
use Rattle.rules.specs.declared.tokens.State.{State}
use Rattle.rules.specs.declared.tokens.Phase.TheVariants.{AfterValue, AfterTrack}
use Rattle.tables_ids.specs.Column.{place_of, column, track_ids_of}
use Rattle.tables_ids.proofs.Places.{some_there, none_there}
use Rattle.tables_ids.proofs.Column.{column-length}
use Rattle.constraints_states.specs.declared.Step.{Step}
use Rattle.constraints_states.specs.Steps.{Says, said, turned}
use Rattle.constraints_states.proofs.Words.{held_none, held_some, held-past, Says_number, held_number, any_swap, any_track, ids-length}
use Rattle.text_read.specs.declared.numbers.Unread.{Unread}
use Rattle.text_read.specs.declared.numbers.Unread.TheVariants.{Beyond, Malformed}

-- ---- no number, and one past a limit: the first tests of every action

module _ (d : Document) (t : Token) (n : Result ℕ Unread) (says : Says t n) where
  not_number : (x : Turn) → n ≡ (Err Malformed) → fault bad_json t.place ≡ cond (is_number t) x (fault bad_json t.place)
  not_number x is = rw (held_none n (whole_of t.word) is says)

  past_limit : (limit : ℕ) (x : Turn) → limit ≤ most_id → n ≡ (Err Beyond)
      → fault out_of_range t.place ≡ cond (is_number t) (cond (leb (number_of t) limit) x (fault out_of_range t.place)) (fault bad_json t.place)
  past_limit limit x low is = rw (held_some n (whole_of t.word) is says, held-past limit n (whole_of t.word) low is says)

  -- which a `?` hands on
  pub refused_number : (r : Result Step ℕ) (limit : ℕ) (x : Turn) (number : ℕ) → limit ≤ most_id → Err number ≡ said n → IsErrAnd r (λ y. y ≡ number)
      → turned t.place r d ≡ cond (is_number t) (cond (leb (number_of t) limit) x (fault out_of_range t.place)) (fault bad_json t.place)
  refused_number r limit x number low e h = let p = err_from_is_err_and r h in rw (p.1, p.2) (go n refl e)
    where
      go : (m : Result ℕ Unread) → n ≡ m → Err number ≡ said m
          → fault number t.place ≡ cond (is_number t) (cond (leb (number_of t) limit) x (fault out_of_range t.place)) (fault bad_json t.place)
      go (Ok v) is e = cc
      go (Err Beyond) is e = let same : number ≡ out_of_range = cc in rw same (past_limit limit x low is)
      go (Err Malformed) is e = let same : number ≡ bad_json = cc in rw same (not_number (cond (leb (number_of t) limit) x (fault out_of_range t.place)) is)

said_number : (v : ℕ) (n : Result ℕ Unread) → Ok v ≡ said n → n ≡ Ok v
said_number v (Ok w) e = let same : w ≡ v = cc in ap Ok same
said_number v (Err Beyond) e = cc
said_number v (Err Malformed) e = cc

module _ (legs : List ℕ) (constraints tracks : ℕ) (st : State) (d : Document) (t : Token) (n : Result ℕ Unread) (says : Says t n) where
  module _ (v : ℕ) (is : Ok v ≡ said n) where
    pub number : Says_number v (whole_of t.word)
    number = held_number v n (whole_of t.word) (said_number v n is) says

    -- ---- legs, subnets and tracks, by a search

    module _ (f : Option ℕ) where
      pub leg_there : (row : ℕ) (after : State) → f ≡ place_of v legs → f ≡ Some row → after ≡ with_entry (entered st.key row st.entry) st
          → on after d ≡ leg_value legs constraints tracks st d t
      unfolding leg_value
      leg_there row after q at e = rw (number.is, number.low, sym (sym at ∙ q), e)

      pub leg-missing : f ≡ place_of v legs → f ≡ None → fault not_there t.place ≡ leg_value legs constraints tracks st d t
      unfolding leg_value
      leg-missing q none_there = rw (number.is, number.low, sym (sym none_there ∙ q))

      pub subnet_seen : (ids : List ℕ) (row : ℕ) → ids ≡ d.ids → f ≡ place_of v ids → f ≡ Some row → fault already_seen t.place ≡ subnet_value legs constraints tracks st d t
      unfolding subnet_value
      subnet_seen ids row held q at =
          rw (number.is, number.low, any_swap v d.ids, ← held, some_there v ids f q row at)

      pub subnet_new : (ids : List ℕ) (after : State) → ids ≡ d.ids → f ≡ place_of v ids → f ≡ None → after ≡ goes AfterValue st
          → on after (with_id v d) ≡ subnet_value legs constraints tracks st d t
      unfolding subnet_value
      subnet_new ids after held q nowhere e =
          rw (number.is, number.low) (rw (any_swap v d.ids) (rw (← held) (rw (none_there v ids f q nowhere, e))))

    module _ (m : ℕ) (table : List ℕ) (held : column track_width m table ≡ track_ids_of d.tracks) where
      count : length d.tracks ≡ m
      count = sym (ids-length d.tracks) ∙ ap length (sym held) ∙ column-length track_width m table

      pub tracks_many : most_tracks ≤ m → fault too_many t.place ≡ track_number legs constraints tracks st d t
      unfolding track_number
      tracks_many h = rw (number.is, number.low, count, le-ltb m most_tracks h)

      module _ (few : m < most_tracks) (f : Option ℕ) (q : f ≡ place_of v (column track_width m table)) where
        listed : (b : Bool) → any (λ x. eqb x v) (column track_width m table) ≡ b → any (λ k. eqb k.id v) d.tracks ≡ b
        listed b e = any_track v d.tracks ∙ ap (any (λ x. eqb x v)) (sym held) ∙ e

        pub track_seen : (row : ℕ) → f ≡ Some row → fault already_seen t.place ≡ track_number legs constraints tracks st d t
        unfolding track_number
        track_seen row at =
            let there = listed true (some_there v (column track_width m table) f q row at) in
            rw (number.is, number.low, count, lt-ltb m most_tracks few, there)

        pub track_full : f ≡ None → tracks ≤ m → fault no_room t.place ≡ track_number legs constraints tracks st d t
        unfolding track_number
        track_full nowhere h =
            let new = listed false (none_there v (column track_width m table) f q nowhere) in
            rw (number.is, number.low, count, lt-ltb m most_tracks few, new, le-ltb m tracks h)

        pub track_new : (after : State) → f ≡ None → m < tracks → after ≡ goes AfterTrack st
            → on after (with_track v d) ≡ track_number legs constraints tracks st d t
        unfolding track_number
        track_new after nowhere h e =
            let new = listed false (none_there v (column track_width m table) f q nowhere) in
            rw (number.is, number.low, count, lt-ltb m most_tracks few, new, lt-ltb m tracks h, e)
