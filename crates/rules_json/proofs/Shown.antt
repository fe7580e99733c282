-- A text whose tokens say pieces is laid out of those pieces. Assumes nothing.
use Prim.Native.Char.{code}
use Prim.Native.Nat.{ℕ, zero, suc, ◌+◌, ◌≤◌}
use mathlib.Core.Path.{◌≡◌, refl, sym, ap, subst, ◌∙◌}
use mathlib.Core.Bool.{Bool, true, false, true≢false}
use mathlib.Core.List.{List, [], ◌∷◌, ◌++◌, append_assoc}
use native.Mathlib.Omega.{arith}
use lib.Dec.{eqb}
use lib.ListN.{length, drop, length-drop}
use lib.Seq.{drop-append-add}
use borrow.Author.Tests.{eqb-true}
use Rattle.rules.specs.Lists.{lead}
use Rattle.rules.specs.Bytes.{bytes}
use Rattle.rules.specs.Tokens.{Token, token, is_white, quote, sign_of, in_run, in_string, string_token, sign_token, token_at, tokens_from}
use Rattle.rules.specs.declared.tokens.Class.{Class}
use Rattle.rules.specs.declared.tokens.Class.TheVariants.{OpenBrace, CloseBrace, OpenBracket, CloseBracket, Colon, Comma, Quoted, Run, End, Unclosed, Forbidden}
use Rattle.rules.proofs.Truth.{by_case}
use Rattle.rules.proofs.Numbers.{spelled_whole}
use Rattle.rules.proofs.TokenLaws.{is_end, white_next, token_next, token-sound}
use Rattle.rules_json.specs.Written.{Piece, open_brace, close_brace, open_bracket, close_bracket, colon, comma, string, whole, bytes_of, Laid, done, white, next}
use Rattle.rules_json.proofs.Same.{Says, Same}
use Rattle.std.specs.Prelude.{Option, Some, None}

-- ---- the bytes of a token

-- of a text all, a token has the bytes that its class shows, at the front
abbrev Shown : List ℕ → Token → Class → Type 0
Shown all t OpenBrace = bytes "{" ++ drop t.size all ≡ all
Shown all t CloseBrace = bytes "}" ++ drop t.size all ≡ all
Shown all t OpenBracket = bytes "[" ++ drop t.size all ≡ all
Shown all t CloseBracket = bytes "]" ++ drop t.size all ≡ all
Shown all t Colon = bytes ":" ++ drop t.size all ≡ all
Shown all t Comma = bytes "," ++ drop t.size all ≡ all
Shown all t Quoted = (quote ∷ t.word ++ quote ∷ []) ++ drop t.size all ≡ all
Shown all t Run = t.word ++ drop t.size all ≡ all
Shown all t End = Unit {0}
Shown all t Unclosed = Unit {0}
Shown all t Forbidden = Unit {0}

lead-drop : (p : ℕ → Bool) (s : List ℕ) → lead p s ++ drop (length (lead p s)) s ≡ s
lead-drop p [] = refl
lead-drop p (b ∷ s) =
    by_case (λ l. l ++ drop (length l) (b ∷ s) ≡ b ∷ s) (p b) (b ∷ lead p s) [] (λ e. ap (λ (l : List ℕ). b ∷ l) (lead-drop p s)) (λ e. refl)

-- a string: w its clean bytes, and what follows them
string_shown : (place : ℕ) (w after : List ℕ) → (s : List ℕ) → w ++ after ≡ s → (b : ℕ) → b ≡ quote
    → Shown (b ∷ s) (string_token place w after) (string_token place w after).class
string_shown place w [] s e b opens = tt
string_shown place w (c ∷ after) s e b opens =
    by_case (λ t. Shown (b ∷ s) t t.class) (eqb c quote) (token Quoted w place (length w + 2)) (token Forbidden w place (length w + 1)) closed (λ k. tt)
  where
    closed : eqb c quote ≡ true → (quote ∷ w ++ quote ∷ []) ++ drop (length w + 2) (b ∷ s) ≡ b ∷ s
    closed closes =
        let size : length w + 2 ≡ suc (length w + 1) = omega arith in
        subst (λ (l : List ℕ). (quote ∷ w ++ quote ∷ []) ++ drop (length w + 2) (b ∷ l) ≡ b ∷ l) e
        (ap (λ (n : ℕ). (quote ∷ w ++ quote ∷ []) ++ drop n (b ∷ w ++ c ∷ after)) size
        ∙ ap (λ (l : List ℕ). (quote ∷ w ++ quote ∷ []) ++ l) (drop-append-add w (c ∷ after) 1)
        ∙ ap (λ (l : List ℕ). quote ∷ l) (append_assoc w (quote ∷ []) after)
        ∙ rw (opens, eqb-true c quote closes))

-- a sign
abbrev SignShown : ℕ → List ℕ → Option Class → Type 0
SignShown b s None = Unit {0}
SignShown b s (Some c) = Shown (b ∷ s) (token c [] 0 1) c

sign_shown : (b : ℕ) (s : List ℕ) → SignShown b s (sign_of b)
sign_shown b s =
    by_case (SignShown b s) (eqb b (code "{")) _ _ (is (code "{")) (λ e.
    by_case (SignShown b s) (eqb b (code "}")) _ _ (is (code "}")) (λ e.
    by_case (SignShown b s) (eqb b (code "[")) _ _ (is (code "[")) (λ e.
    by_case (SignShown b s) (eqb b (code "]")) _ _ (is (code "]")) (λ e.
    by_case (SignShown b s) (eqb b (code ":")) _ _ (is (code ":")) (λ e.
    by_case (SignShown b s) (eqb b (code ",")) _ _ (is (code ",")) (λ e. tt))))))
  where
    is : (k : ℕ) → eqb b k ≡ true → k ∷ s ≡ b ∷ s
    is k e = ap (λ (n : ℕ). n ∷ s) (sym (eqb-true b k e))

token-shown : (place b : ℕ) (s : List ℕ) → Shown (b ∷ s) (token_at place b s) (token_at place b s).class
token-shown place b s =
    by_case (λ t. Shown (b ∷ s) t t.class) (eqb b quote)
    (string_token place (lead in_string s) (drop (length (lead in_string s)) s)) (sign_token place b s (sign_of b))
    (λ opens. string_shown place (lead in_string s) (drop (length (lead in_string s)) s) s (lead-drop in_string s) b (eqb-true b quote opens))
    (λ other. go (sign_of b) (sign_shown b s))
  where
    go : (o : Option Class) → SignShown b s o → Shown (b ∷ s) (sign_token place b s o) (sign_token place b s o).class
    go None h = lead-drop in_run (b ∷ s)
    go (Some c) h = at_place c h
      where
        at_place : (c : Class) → Shown (b ∷ s) (token c [] 0 1) c → Shown (b ∷ s) (token c [] place 1) c
        at_place OpenBrace h = h
        at_place CloseBrace h = h
        at_place OpenBracket h = h
        at_place CloseBracket h = h
        at_place Colon h = h
        at_place Comma h = h
        at_place Quoted h = h
        at_place Run h = h
        at_place End h = h
        at_place Unclosed h = h
        at_place Forbidden h = h

-- a piece that a token says has the token's bytes
said-bytes : (all : List ℕ) (t : Token) (x : Piece) → Shown all t t.class → Says x t → bytes_of x ++ drop t.size all ≡ all
said-bytes all t open_brace h says = subst (Shown all t) says h
said-bytes all t close_brace h says = subst (Shown all t) says h
said-bytes all t open_bracket h says = subst (Shown all t) says h
said-bytes all t close_bracket h says = subst (Shown all t) says h
said-bytes all t colon h says = subst (Shown all t) says h
said-bytes all t comma h says = subst (Shown all t) says h
said-bytes all t (string word) h says =
    ap (λ (w : List ℕ). (quote ∷ w ++ quote ∷ []) ++ drop t.size all) (sym says.1) ∙ subst (Shown all t) says.0 h
said-bytes all t (whole n) h says =
    ap (λ (w : List ℕ). w ++ drop t.size all) (spelled_whole t.word n says.1) ∙ subst (Shown all t) says.0 h

-- ---- the whole text

none-same : (xs : List Piece) → Same xs [] → ⊥
none-same [] h = h
none-same (x ∷ xs) h = h

-- what is known of all shorter texts
abbrev Shorter : ℕ → Type 0
Shorter n = (l : List ℕ) → length l ≤ n → (place : ℕ) (xs : List Piece) → Same xs (tokens_from 0 place l) → Laid xs l

end-laid : (place : ℕ) (xs : List Piece) → Same xs (tokens_from 0 place []) → Laid xs []
end-laid place [] h = done
end-laid place (x ∷ xs) h = absurd (none-same xs h.1)

token-laid : (n place b : ℕ) (s : List ℕ) → length s ≤ n → Shorter n → is_white b ≡ false → (xs : List Piece)
    → Same xs (token_at place b s ∷ tokens_from 0 (place + (token_at place b s).size) (drop (token_at place b s).size (b ∷ s))) → Laid xs (b ∷ s)
token-laid n place b s low rest black [] h = absurd (true≢false (sym (ap is_end h) ∙ (token-sound place b s black).inner))
token-laid n place b s low rest black (x ∷ xs) h =
    let size : ℕ = (token_at place b s).size in
    let sound = (token-sound place b s black).some_bytes in
    subst (Laid (x ∷ xs)) (said-bytes (b ∷ s) (token_at place b s) x (token-shown place b s) h.0)
    (next x (rest (drop size (b ∷ s)) (omega (arith, length-drop size (b ∷ s))) (place + size) xs h.1))

one_more : (n : ℕ) → Shorter n → Shorter (suc n)
one_more n rest [] low place xs h = end-laid place xs h
one_more n rest (b ∷ s) low place xs h = go (is_white b) refl
  where
    go : (w : Bool) → is_white b ≡ w → Laid xs (b ∷ s)
    go true w = white w (rest s (omega arith) (suc place) xs (subst (Same xs) (white_next place b s w) h))
    go false black = token-laid n place b s (omega arith) rest black xs (subst (Same xs) (token_next place b s black) h)

said-laid : (n : ℕ) → Shorter n
said-laid zero [] low place xs h = end-laid place xs h
said-laid zero (b ∷ s) low place xs h = absurd (omega arith)
said-laid (suc n) l low place xs h = one_more n (said-laid n) l low place xs h

pub tokens_laid : (s : List ℕ) (xs : List Piece) → Same xs (tokens_from 0 0 s) → Laid xs s
tokens_laid s xs h = said-laid (length s) s (omega arith) 0 xs h
