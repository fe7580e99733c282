-- The step that a reader of constraints.json makes: what stands at a place of the text, and where the next token is looked for. Assumes nothing.
use Prim.Native.Char.{code}
use Prim.Native.Nat.{ℕ, zero, suc, ◌+◌, ◌-◌, ◌≤◌, ◌<◌, pred}
use mathlib.Core.Path.{◌≡◌, refl, sym, ap, subst, ◌∙◌}
use mathlib.Core.Bool.{Bool, true, false, not, cond, ◌||◌}
use mathlib.Core.List.{List, [], ◌∷◌}
use native.Mathlib.Omega.{arith}
use native.Mathlib.Nat.{add-zero}
use lib.Dec.{eqb}
use lib.ListN.{length, get_or, drop, length-drop}
use lib.Seq.{drop-cons, drop-length, drop-drop}
use Rattle.rules.specs.Lists.{lead}
use Rattle.std.specs.Prelude.{is_some, Option, Some, None}
use Rattle.rules.specs.Tokens.{Token, token, is_white, quote, sign_of, in_run, in_string, string_token, run_token, sign_token, token_at, tokens_from, tokens_of}
use Rattle.rules.specs.Constraints.{class_number}
use Rattle.rules.specs.declared.tokens.Class.{Class}
use Rattle.rules.specs.declared.tokens.Class.TheVariants.{Quoted, End, Unclosed, Forbidden}
use Rattle.rules.proofs.Truth.{by_case}
use Rattle.rules.proofs.Lists.{lead_within}

-- ---- one token

-- a token says the same at any place
abbrev pub placed : ℕ → Token → Token
placed place t = token t.class t.word place t.size

string_placed : (place : ℕ) (w s : List ℕ) → string_token place w s ≡ placed place (string_token 0 w s)
string_placed place w [] = refl
string_placed place w (b ∷ s) = go (eqb b quote)
  where
    go : (t : Bool)
        → cond t (token Quoted w place (length w + 2)) (token Forbidden w place (length w + 1))
        ≡ placed place (cond t (token Quoted w 0 (length w + 2)) (token Forbidden w 0 (length w + 1)))
    go true = refl
    go false = refl

sign_placed : (place b : ℕ) (s : List ℕ) (c : Option Class) → sign_token place b s c ≡ placed place (sign_token 0 b s c)
sign_placed place b s (Some c) = refl
sign_placed place b s None = refl

-- the place of a token is where it was looked for; its class, word and size do not depend on it
pub token-placed : (place b : ℕ) (s : List ℕ) → token_at place b s ≡ placed place (token_at 0 b s)
token-placed place b s = go (eqb b quote)
  where
    go : (t : Bool)
        → cond t (string_token place (lead in_string s) (drop (length (lead in_string s)) s)) (sign_token place b s (sign_of b))
        ≡ placed place (cond t (string_token 0 (lead in_string s) (drop (length (lead in_string s)) s)) (sign_token 0 b s (sign_of b)))
    go true = string_placed place (lead in_string s) (drop (length (lead in_string s)) s)
    go false = sign_placed place b s (sign_of b)

pub place_is : (place b : ℕ) (s : List ℕ) → (token_at place b s).place ≡ place
place_is place b s = ap (λ (t : Token). t.place) (token-placed place b s)

pub size_anywhere : (place b : ℕ) (s : List ℕ) → (token_at place b s).size ≡ (token_at 0 b s).size
size_anywhere place b s = ap (λ (t : Token). t.size) (token-placed place b s)

-- only the text's end is of the class End
abbrev pub is_end : Class → Bool
is_end c = eqb (class_number c) (class_number End)

-- what a token that starts at a byte has: it is not the end, it is not empty, and it lies within the text
pub record Sound (n : ℕ) (t : Token) : Type 0 where
  pub inner : is_end t.class ≡ false
  pub some_bytes : 1 ≤ t.size
  pub within : t.size ≤ n

string_sound : (place n : ℕ) (w s : List ℕ) → length w + length s ≡ n → Sound (suc n) (string_token place w s)
string_sound place n w [] h = record { inner = refl; some_bytes = omega arith; within = omega arith }
string_sound place n w (b ∷ s) h =
    by_case (Sound (suc n)) (eqb b quote) _ _
    (λ e. record { inner = refl; some_bytes = omega arith; within = omega arith })
    (λ e. record { inner = refl; some_bytes = omega arith; within = omega arith })

-- no sign is the end
abbrev Sign : Option Class → Type 0
Sign None = Unit
Sign (Some c) = is_end c ≡ false

sign_inner : (b : ℕ) → Sign (sign_of b)
sign_inner b =
    by_case Sign (eqb b (code "{")) _ _ (λ e. refl) (λ e.
    by_case Sign (eqb b (code "}")) _ _ (λ e. refl) (λ e.
    by_case Sign (eqb b (code "[")) _ _ (λ e. refl) (λ e.
    by_case Sign (eqb b (code "]")) _ _ (λ e. refl) (λ e.
    by_case Sign (eqb b (code ":")) _ _ (λ e. refl) (λ e.
    by_case Sign (eqb b (code ",")) _ _ (λ e. refl) (λ e. tt))))))

-- a byte that is neither white, nor a quote, nor a sign starts a run
run_starts : (b : ℕ) → is_white b ≡ false → eqb b quote ≡ false → sign_of b ≡ None → in_run b ≡ true
run_starts b black unquoted unsigned =
    ap (λ (t : Bool). not (t || (eqb b quote || is_some (sign_of b)))) black
    ∙ ap (λ (t : Bool). not (t || is_some (sign_of b))) unquoted
    ∙ ap (λ (c : Option Class). not (is_some c)) unsigned

lead_next : {A : Type 0} (p : A → Bool) (x : A) (s : List A) → p x ≡ true → lead p (x ∷ s) ≡ x ∷ lead p s
lead_next p x s h = rw h

sign_sound : (place b : ℕ) (s : List ℕ) → is_white b ≡ false → eqb b quote ≡ false → Sound (suc (length s)) (sign_token place b s (sign_of b))
sign_sound place b s black unquoted = go (sign_of b) refl (sign_inner b)
  where
    go : (c : Option Class) → sign_of b ≡ c → Sign c → Sound (suc (length s)) (sign_token place b s c)
    go (Some c) e h = record { inner = h; some_bytes = omega arith; within = omega arith }
    go None e h =
        let k = lead_within in_run s in
        subst (λ (w : List ℕ). Sound (suc (length s)) (run_token place w)) (sym (lead_next in_run b s (run_starts b black unquoted e)))
        (record { inner = refl; some_bytes = omega arith; within = omega arith })

pub token-sound : (place b : ℕ) (s : List ℕ) → is_white b ≡ false → Sound (suc (length s)) (token_at place b s)
token-sound place b s black =
    by_case (Sound (suc (length s))) (eqb b quote) _ _
    (λ e. string_sound place (length s) (lead in_string s) (drop (length (lead in_string s)) s) (omega (arith, length-drop (length (lead in_string s)) s, lead_within in_string s)))
    (λ e. sign_sound place b s black e)

-- ---- the tokens from a place on

-- the bytes of a token are skipped one by one
pub skip_next : (k place : ℕ) (s : List ℕ) → k ≤ length s → tokens_from k place s ≡ tokens_from 0 (place + k) (drop k s)
skip_next zero place s h = ap (λ (p : ℕ). tokens_from 0 p s) (sym (add-zero place))
skip_next (suc k) place [] h = absurd (omega arith)
skip_next (suc k) place (b ∷ s) h =
    let same : suc place + k ≡ place + suc k = omega arith in
    skip_next k (suc place) s (omega arith) ∙ ap (λ (p : ℕ). tokens_from 0 p (drop k s)) same

-- a white byte is passed over
pub white_next : (place b : ℕ) (s : List ℕ) → is_white b ≡ true → tokens_from 0 place (b ∷ s) ≡ tokens_from 0 (suc place) s
white_next place b s white = rw white

-- at any other byte a token starts, and the next is looked for behind it
pub token_next : (place b : ℕ) (s : List ℕ) → is_white b ≡ false
    → tokens_from 0 place (b ∷ s)
    ≡ token_at place b s ∷ tokens_from 0 (place + (token_at place b s).size) (drop (token_at place b s).size (b ∷ s))
token_next place b s black =
    rw (black, ← size_anywhere place b s) (go (token_at place b s).size (token-sound place b s black).some_bytes (token-sound place b s black).within)
  where
    go : (n : ℕ) → 1 ≤ n → n ≤ suc (length s)
        → token_at place b s ∷ tokens_from (pred n) (suc place) s ≡ token_at place b s ∷ tokens_from 0 (place + n) (drop n (b ∷ s))
    go zero low high = absurd (omega arith)
    go (suc n) low high =
        let same : suc place + n ≡ place + suc n = omega arith in
        ap (λ (ts : List Token). token_at place b s ∷ ts)
        (skip_next n (suc place) s (omega arith) ∙ ap (λ (p : ℕ). tokens_from 0 p (drop n s)) same)

-- ---- the same at a place of a text

-- the tokens that a reader still has before it
abbrev pub tokens_at : List ℕ → (at : ℕ) → List Token
tokens_at s at = tokens_from 0 at (drop at s)

-- the token that starts at a place
abbrev pub token_of : List ℕ → (at : ℕ) → Token
token_of s at = token_at at (get_or s at 0) (drop (suc at) s)

pub tokens_start : (s : List ℕ) → tokens_of s ≡ tokens_at s 0
unfolding tokens_of
tokens_start s = refl

pub white_at : (s : List ℕ) (at : ℕ) → at < length s → is_white (get_or s at 0) ≡ true → tokens_at s at ≡ tokens_at s (suc at)
white_at s at h white = ap (tokens_from 0 at) (drop-cons s at 0 h) ∙ white_next at (get_or s at 0) (drop (suc at) s) white

pub token-at : (s : List ℕ) (at : ℕ) → at < length s → is_white (get_or s at 0) ≡ false
    → tokens_at s at ≡ token_of s at ∷ tokens_at s (at + (token_of s at).size)
token-at s at h black =
    ap (tokens_from 0 at) (drop-cons s at 0 h)
    ∙ token_next at (get_or s at 0) (drop (suc at) s) black
    ∙ ap (λ (l : List ℕ). token_of s at ∷ tokens_from 0 (at + (token_of s at).size) l)
    (ap (drop (token_of s at).size) (sym (drop-cons s at 0 h)) ∙ drop-drop (token_of s at).size at s)

pub token_within : (s : List ℕ) (at : ℕ) → at < length s → is_white (get_or s at 0) ≡ false → Sound (length s - at) (token_of s at)
token_within s at h black =
    let all : suc (length (drop (suc at) s)) ≡ length s - at = omega (arith, length-drop (suc at) s) in
    subst (λ (n : ℕ). Sound n (token_of s at)) all (token-sound at (get_or s at 0) (drop (suc at) s) black)

pub end-at : (s : List ℕ) (at : ℕ) → at ≡ length s → tokens_at s at ≡ token End [] (length s) 0 ∷ []
end-at s at h = rw (h, drop-length s)

-- ---- what a token is, by its bytes

-- at a quote a string starts
pub string_token_lem : (place b : ℕ) (s : List ℕ) → eqb b quote ≡ true
    → token_at place b s ≡ string_token place (lead in_string s) (drop (length (lead in_string s)) s)
string_token_lem place b s opens = rw opens

-- its class by what follows its clean bytes: the closing quote, another byte, or the text's end
pub quoted-token : (place b : ℕ) (s : List ℕ) (c : ℕ) (rest : List ℕ)
    → eqb b quote ≡ true → drop (length (lead in_string s)) s ≡ c ∷ rest → eqb c quote ≡ true
    → token_at place b s ≡ token Quoted (lead in_string s) place (length (lead in_string s) + 2)
quoted-token place b s c rest opens follows closes =
    string_token_lem place b s opens ∙ ap (string_token place (lead in_string s)) follows ∙ rw closes

pub forbidden_token : (place b : ℕ) (s : List ℕ) (c : ℕ) (rest : List ℕ)
    → eqb b quote ≡ true → drop (length (lead in_string s)) s ≡ c ∷ rest → eqb c quote ≡ false
    → token_at place b s ≡ token Forbidden (lead in_string s) place (length (lead in_string s) + 1)
forbidden_token place b s c rest opens follows other =
    string_token_lem place b s opens ∙ ap (string_token place (lead in_string s)) follows ∙ rw other

pub unclosed_token : (place b : ℕ) (s : List ℕ) → eqb b quote ≡ true → drop (length (lead in_string s)) s ≡ []
    → token_at place b s ≡ token Unclosed (lead in_string s) place (length (lead in_string s) + 1)
unclosed_token place b s opens follows = string_token_lem place b s opens ∙ ap (string_token place (lead in_string s)) follows

other_token : (place b : ℕ) (s : List ℕ) (c : Option Class) → eqb b quote ≡ false → sign_of b ≡ c → token_at place b s ≡ sign_token place b s c
other_token place b s c unquoted e = rw (unquoted, e)

-- at a sign that sign, at any other byte a run
pub sign_token_lem : (place b : ℕ) (s : List ℕ) (c : Class) → eqb b quote ≡ false → sign_of b ≡ Some c → token_at place b s ≡ token c [] place 1
sign_token_lem place b s c unquoted e = other_token place b s (Some c) unquoted e

pub run-token : (place b : ℕ) (s : List ℕ) → is_white b ≡ false → eqb b quote ≡ false → sign_of b ≡ None
    → token_at place b s ≡ run_token place (b ∷ lead in_run s)
run-token place b s black unquoted e =
    other_token place b s None unquoted e ∙ ap (run_token place) (lead_next in_run b s (run_starts b black unquoted e))
