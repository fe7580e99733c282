-- What a reader finds at a place of a text: the next token of ../../rules/specs/Tokens.antt, and where the one after it is looked for.
use Rattle.std.specs.Prelude.{ℕ, ◌-◌, ◌≤◌, ◌<◌, ◌≡◌, Bool, false, cond, List, [], ◌∷◌, eqb, length, get_or, take, drop, Option, Some, None}
use Rattle.rules.specs.Limits.{most_text}
use Rattle.rules.specs.Tokens.{Token, token, is_white, tokens_from}
use Rattle.rules.specs.Constraints.{class_number}
use Rattle.rules.specs.declared.tokens.Class.{Class}
use Rattle.rules.specs.declared.tokens.Class.TheVariants.{Run, End}
use Rattle.constraints_tokens.specs.declared.Token.{Token as Found}

-- the tokens that a reader at a place still has before it
abbrev pub tokens_at : List ℕ → (at : ℕ) → List Token
tokens_at s at = tokens_from 0 at (drop at s)

-- the bytes of a text from a place to an end
abbrev pub part : List ℕ → (from end : ℕ) → List ℕ
part s from end = take (end - from) (drop from s)

-- a sign's class, or a run's
abbrev pub sign_or : Option Class → Class
sign_or None = Run
sign_or (Some c) = c

-- the token that was found
abbrev pub found : Found → Token
found t = token t.class t.word.now t.place (t.next - t.place)

abbrev pub is_end : Class → Bool
is_end c = eqb (class_number c) (class_number End)

-- a token begins at a place: it is the first of those that are left there, the others are looked for behind it, and the text's end is the last
pub record Stands (s : List ℕ) (at : ℕ) (class : Class) (word : List ℕ) (place next : ℕ) : Type 0 where
  pub tokens : tokens_at s at ≡ token class word place (next - place) ∷ cond (is_end class) [] (tokens_at s next)
  pub starts : place ≤ next
  pub onward : is_end class ≡ false → at < next
  pub within : next ≤ length s

abbrev pub Seen : (s : List ℕ) (at : ℕ) → Found → Type 0
Seen s at t = Stands s at t.class t.word.now t.place t.next

-- a place of a text that is not too long
pub record Within (s : List ℕ) (at : ℕ) : Type 0 where
  pub short : length s ≤ most_text
  pub inside : at ≤ length s

-- a byte of such a text that is not white
pub record Black (s : List ℕ) (at : ℕ) : Type 0 where
  pub short : length s ≤ most_text
  pub here : at < length s
  pub black : is_white (get_or s at 0) ≡ false

-- the first place from a place on that is not white, or the text's end
pub record Skipped (s : List ℕ) (at r : ℕ) : Type 0 where
  pub same : tokens_at s at ≡ tokens_at s r
  pub onward : at ≤ r
  pub inside : r ≤ length s
  pub black : r < length s → is_white (get_or s r 0) ≡ false
