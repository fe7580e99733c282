-- The run over the tokens ends by its own rule, and what every turn keeps, the whole run keeps. Assumes nothing.
use Prim.Native.Nat.{ℕ, ◌≤◌}
use mathlib.Core.Path.{◌≡◌, refl}
use mathlib.Core.Bool.{true}
use mathlib.Core.List.{List, [], ◌∷◌, ◌++◌}
use native.Mathlib.Omega.{arith}
use Rattle.rules.specs.Answers.{refusal, bad_json, constraints_file, Reading, refused, good}
use Rattle.rules.specs.Tokens.{Token, token, tokens_of}
use Rattle.rules.specs.Constraints.{action_of, Document, Turn, fault, on, finish, past, act, turn_of, onward, run}
use Rattle.rules.specs.declared.answers.Refusal.{Refusal}
use Rattle.rules.specs.declared.tokens.Class.TheVariants.{End}
use Rattle.rules.specs.declared.tokens.Phase.{Phase}
use Rattle.rules.specs.declared.tokens.Phase.TheVariants.{Document as Text, FirstName, Name, NameColon, ListOpen, AfterList, FirstRecord, Record, AfterRecord, FirstKey, NextKey, KeyColon, Value, AfterValue, FirstTrack, NextTrack, AfterTrack, Done}
use Rattle.rules.specs.declared.tokens.State.{State}
use Rattle.rules.specs.Verdict.{All}
use Rattle.rules_theorems.specs.LawfulDocument.{is_fault, LawfulRefusal}
use Rattle.rules_theorems.proofs.Tokens.{Laid, last, next, tokens_laid}

-- the run over the tokens that are left
abbrev Rest : Type 0
Rest = State → Document → Reading Document

-- ---- nothing after the text's end is looked at

module _ (legs : List ℕ) (constraints tracks : ℕ) where
  -- at the end of the text every phase ends the run, whatever would come after
  end_stops : (p : Phase) (st : State) (d : Document) (t : Token) (more less : Rest)
      → onward legs constraints tracks (act legs constraints tracks (action_of p End) st d t) more
      ≡ onward legs constraints tracks (act legs constraints tracks (action_of p End) st d t) less
  unfolding action_of act
  end_stops Text st d t more less = refl
  end_stops FirstName st d t more less = refl
  end_stops Name st d t more less = refl
  end_stops NameColon st d t more less = refl
  end_stops ListOpen st d t more less = refl
  end_stops AfterList st d t more less = refl
  end_stops FirstRecord st d t more less = refl
  end_stops Record st d t more less = refl
  end_stops AfterRecord st d t more less = refl
  end_stops FirstKey st d t more less = refl
  end_stops NextKey st d t more less = refl
  end_stops KeyColon st d t more less = refl
  end_stops Value st d t more less = refl
  end_stops AfterValue st d t more less = refl
  end_stops FirstTrack st d t more less = refl
  end_stops NextTrack st d t more less = refl
  end_stops AfterTrack st d t more less = refl
  end_stops Done st d t more less = refl

  onward-same : (turn : Turn) (more less : Rest) → ((st : State) (d : Document) → more st d ≡ less st d)
      → onward legs constraints tracks turn more ≡ onward legs constraints tracks turn less
  onward-same (fault n p) more less same = refl
  onward-same (on st d) more less same = same st d
  onward-same (finish st d) more less same = refl

  laid_ends : {n from : ℕ} {ts : List Token} → Laid n from ts → (st : State) (d : Document) (more : List Token)
      → run legs constraints tracks st d (ts ++ more) ≡ run legs constraints tracks st d ts
  unfolding run turn_of
  laid_ends {n} (last low) st d more =
      end_stops st.phase st d (token End [] n 0)
      (λ st' d'. run legs constraints tracks st' d' more) (λ st' d'. run legs constraints tracks st' d' [])
  laid_ends {ts = t ∷ ts} (next inner low some_bytes rest) st d more =
      onward-same (turn_of legs constraints tracks st d t)
      (λ st' d'. run legs constraints tracks st' d' (ts ++ more)) (λ st' d'. run legs constraints tracks st' d' ts)
      (λ st' d'. laid_ends rest st' d' more)

  -- the run always ends by a fault or by the end of the text: nothing that would come after the text's tokens is ever looked at
  pub run_ends : (st : State) (d : Document) (s : List ℕ) (more : List Token)
      → run legs constraints tracks st d (tokens_of s ++ more) ≡ run legs constraints tracks st d (tokens_of s)
  run_ends st d s more = laid_ends (tokens_laid s) st d more

-- ---- what a turn keeps, the run keeps

-- Keeps: what holds between the tokens. Ends: what holds of the document that was read
module _ (n : ℕ) (Keeps : State → Document → Type 0) (Ends : Document → Type 0) where
  -- of a turn: a lawful fault, or what is kept
  pub data Safe : Turn → Type 0 where
    at_fault : {number place : ℕ} → is_fault number ≡ true → place ≤ n → Safe (fault number place)
    goes_on : {st : State} {d : Document} → Keeps st d → Safe (on st d)
    ends : {st : State} {d : Document} → Ends d → Safe (finish st d)

  -- of a reading: a lawful refusal, or what was read
  pub data Lawful : Reading Document → Type 0 where
    not-read : {r : Refusal} → LawfulRefusal n r → Lawful (refused r)
    read : {d : Document} → Ends d → Lawful (good d)

  module _ (legs : List ℕ) (constraints tracks : ℕ)
      (keeps : (st : State) (d : Document) (t : Token) → past t ≤ n → Keeps st d → Safe (turn_of legs constraints tracks st d t)) where
    onward-lawful : {turn : Turn} → Safe turn → (more : Rest)
        → ((st : State) (d : Document) → Keeps st d → Lawful (more st d)) → Lawful (onward legs constraints tracks turn more)
    onward-lawful (at_fault known low) more h = not-read (record { of_file = refl; at_place = low; by_number = known })
    onward-lawful {turn = on st d} (goes_on kept) more h = h st d kept
    onward-lawful (ends e) more h = read e

    pub run-lawful : (ts : List Token) → All (λ t. past t ≤ n) ts → (st : State) (d : Document) → Keeps st d
        → Lawful (run legs constraints tracks st d ts)
    unfolding run
    run-lawful [] low st d kept =
        not-read {r = refusal bad_json constraints_file 0} (record { of_file = refl; at_place = omega arith; by_number = refl })
    run-lawful (t ∷ ts) low st d kept =
        onward-lawful (keeps st d t low.0 kept) (λ st' d'. run legs constraints tracks st' d' ts)
        (λ st' d' kept'. run-lawful ts low.1 st' d' kept')
