-- How constraints.json falls into tokens: it is RFC 8259 text, narrowed (document 01, "constraints.json", "Refusal numbers").
use Rattle.std.specs.Prelude.{ℕ, zero, suc, ◌+◌, pred, Bool, not, cond, ◌&&◌, ◌||◌, List, [], ◌∷◌, ◌++◌, leb, eqb, length, drop, is_some, Option, Some, None}
use Prim.Native.Char.{code}
use Rattle.rules.specs.Lists.{lead}
use Rattle.rules.specs.declared.tokens.Class.{Class}
use Rattle.rules.specs.declared.tokens.Class.TheVariants.{OpenBrace, CloseBrace, OpenBracket, CloseBracket, Colon, Comma, Quoted, Run, End, Unclosed, Forbidden}

-- ---- bytes

-- space, tab, LF, CR
abbrev pub is_white : ℕ → Bool
is_white b = eqb b (code " ") || (eqb b (code "\t") || (eqb b (code "\n") || eqb b (code "\r")))

abbrev pub quote : ℕ
quote = code "\""

abbrev pub backslash : ℕ
backslash = code "\\"

-- { } [ ] : ,
abbrev pub sign_of : ℕ → Option Class
sign_of b =
    cond (eqb b (code "{")) (Some OpenBrace)
    (cond (eqb b (code "}")) (Some CloseBrace)
    (cond (eqb b (code "[")) (Some OpenBracket)
    (cond (eqb b (code "]")) (Some CloseBracket)
    (cond (eqb b (code ":")) (Some Colon)
    (cond (eqb b (code ",")) (Some Comma)
    None)))))

-- a run is made of all other bytes
abbrev pub in_run : ℕ → Bool
in_run b = not (is_white b || (eqb b quote || is_some (sign_of b)))

-- a string of bytes 32 to 126 without backslashes, up to its closing quote
abbrev pub in_string : ℕ → Bool
in_string b = leb (code " ") b && (leb b (code "~") && not (eqb b quote || eqb b backslash))

-- ---- tokens

-- word: what stands within the quotes, or the run itself. place: the first byte. size: the bytes, quotes too
pub record Token : Type 0 where
  pub class : Class
  pub word : List ℕ
  pub place : ℕ
  pub size : ℕ

abbrev pub token : Class → List ℕ → (place size : ℕ) → Token
token c w p n = record { class = c; word = w; place = p; size = n }

-- a string whose clean bytes are w, by what follows them: its quote, the text's end, or a forbidden byte
abbrev pub string_token : (place : ℕ) (w : List ℕ) → List ℕ → Token
string_token place w [] = token Unclosed w place (length w + 1)
string_token place w (b ∷ s) = cond (eqb b quote) (token Quoted w place (length w + 2)) (token Forbidden w place (length w + 1))

abbrev pub run_token : (place : ℕ) (w : List ℕ) → Token
run_token place w = token Run w place (length w)

abbrev pub sign_token : (place b : ℕ) → List ℕ → Option Class → Token
sign_token place b s (Some c) = token c [] place 1
sign_token place b s None = run_token place (lead in_run (b ∷ s))

-- the token that starts at a byte which is not white
abbrev pub token_at : (place : ℕ) → ℕ → List ℕ → Token
token_at place b s =
    cond (eqb b quote) (string_token place (lead in_string s) (drop (length (lead in_string s)) s)) (sign_token place b s (sign_of b))

-- nothing at a white byte
abbrev pub begun : (place : ℕ) → ℕ → List ℕ → List Token
begun place b s = cond (is_white b) [] (token_at place b s ∷ [])

abbrev pub size_at : ℕ → List ℕ → ℕ
size_at b s = cond (is_white b) 1 (token_at 0 b s).size

-- the tokens from a place on, where the first bytes, as many as skip says, belong to the token before; the text's end is the last token
abbrev pub tokens_from : (skip place : ℕ) → List ℕ → List Token
tokens_from skip place [] = token End [] place 0 ∷ []
tokens_from zero place (b ∷ s) = begun place b s ++ tokens_from (pred (size_at b s)) (suc place) s
tokens_from (suc skip) place (b ∷ s) = tokens_from skip (suc place) s

unfoldable pub tokens_of : List ℕ → List Token
tokens_of s = tokens_from 0 0 s
