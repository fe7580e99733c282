-- A turn by its action, and the place just past a token that was found. Assumes nothing.
use Prim.Native.Nat.{ℕ, ◌≤◌}
use mathlib.Core.Path.{◌≡◌, ap, sym, ◌∙◌}
use mathlib.Core.List.{List}
use native.Mathlib.Omega.{arith}
use Rattle.rules.specs.Tokens.{Token}
use Rattle.rules.specs.Constraints.{Document, Turn, action_of, act, turn_of, past}
use Rattle.rules.specs.declared.tokens.Action.{Action}
use Rattle.rules.specs.declared.tokens.State.{State}
use Rattle.std.proofs.Common.{Result, Ok, Err}
use Rattle.std.specs.Result.{MatchResult, IsErrAnd}
use Rattle.std.proofs.lemmas.Result.{err_from_is_err_and}
use Rattle.constraints_states.specs.declared.Step.{Step}
use Rattle.rules.specs.declared.answers.Fault.{Fault}
use Rattle.constraints_states.specs.Steps.{told, turned}
use Rattle.rules.specs.Answers.{fault_at}
use Rattle.constraints_tokens.specs.declared.Token.{Token as Found}
use Rattle.constraints_tokens.specs.Seen.{found}

pub by_action : (legs : List ℕ) (constraints tracks : ℕ) (st : State) (d : Document) (t : Token) (a b : Action) (turn : Turn)
    → b ≡ action_of st.phase t.class → b ≡ a → turn ≡ act legs constraints tracks a st d t → turn ≡ turn_of legs constraints tracks st d t
unfolding turn_of
by_action legs constraints tracks st d t a b turn e is q =
    q ∙ ap (λ (x : Action). act legs constraints tracks x st d t) (sym is ∙ e)

pub past-found : (t : Found) → t.place ≤ t.next → past (found t) ≡ t.next
past-found t h = omega arith

-- a refusal by its number, given the place
pub told_at : {P : ℕ → Fault → Type 0} (step : Result Step ℕ) (r : Result Step Fault) (place : ℕ) (d : Document)
    → MatchResult step (λ x. r ≡ Ok x) (λ e. IsErrAnd r (P e)) → ((e : ℕ) (f : Fault) → P e f → f ≡ fault_at e place) → told r d ≡ turned place step d
told_at (Ok x) r place d h known = rw h
told_at (Err e) r place d h known = let p = err_from_is_err_and r h in rw (p.1, known e p.0 p.2)

-- a step that an action gives, its refusal at a place
pub by_step : (legs : List ℕ) (constraints tracks : ℕ) (st : State) (d : Document) (t : Token) (a b : Action) (place : ℕ) (step given : Result Step ℕ) (turn : Turn)
    → turn ≡ turned place given d → b ≡ action_of st.phase t.class → given ≡ step → b ≡ a → turned place step d ≡ act legs constraints tracks a st d t
    → turn ≡ turn_of legs constraints tracks st d t
by_step legs constraints tracks st d t a b place step given turn told_is e same is q =
    told_is ∙ ap (λ (x : Result Step ℕ). turned place x d) same ∙ by_action legs constraints tracks st d t a b (turned place step d) e is q
