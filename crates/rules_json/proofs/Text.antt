-- A text that is laid out of pieces has the tokens that say them. Assumes nothing.
use Prim.Native.Char.{code}
use Prim.Native.Nat.{ℕ, suc, ◌+◌}
use mathlib.Core.Path.{◌≡◌, refl, sym, ap, subst, ◌∙◌}
use mathlib.Core.Bool.{Bool, true, false, true≢false}
use mathlib.Core.List.{List, [], ◌∷◌, ◌++◌, append_assoc}
use native.Mathlib.Omega.{arith}
use lib.Dec.{T, eqb}
use lib.ListN.{length, drop, length-append}
use lib.Seq.{drop-append_seam}
use borrow.Author.Tests.{ne_eqb}
use Rattle.rules.specs.Lists.{every, lead}
use Rattle.rules.specs.Bytes.{is_digit, plain, spelled}
use Rattle.rules.specs.Tokens.{Token, token, is_white, quote, sign_of, in_run, in_string, run_token, token_at, tokens_from}
use Rattle.rules.specs.declared.tokens.Class.TheVariants.{Quoted}
use Rattle.rules.proofs.Truth.{is_true, holds}
use Rattle.rules.proofs.Numbers.{digit_range, whole_spelled, digits_spelled, plain-spelled}
use Rattle.rules.proofs.TokenLaws.{white_next, token_next, quoted-token, run-token}
use Rattle.rules_theorems.proofs.DocumentWords.{and_first, and_second}
use Rattle.rules_json.specs.Written.{Piece, open_brace, close_brace, open_bracket, close_bracket, colon, comma, string, whole, bytes_of, Laid, done, white, next}
use Rattle.rules_json.proofs.Same.{Same}
use Rattle.std.specs.Prelude.{None}

-- ---- pieces that no reader can take for others: strings are clean, and no two numbers stand side by side

abbrev pub starts_whole : List Piece → Bool
starts_whole [] = false
starts_whole (open_brace ∷ xs) = false
starts_whole (close_brace ∷ xs) = false
starts_whole (open_bracket ∷ xs) = false
starts_whole (close_bracket ∷ xs) = false
starts_whole (colon ∷ xs) = false
starts_whole (comma ∷ xs) = false
starts_whole (string word ∷ xs) = false
starts_whole (whole n ∷ xs) = true

abbrev pub FineBefore : List Piece → Piece → Type 0
FineBefore xs open_brace = Unit {0}
FineBefore xs close_brace = Unit {0}
FineBefore xs open_bracket = Unit {0}
FineBefore xs close_bracket = Unit {0}
FineBefore xs colon = Unit {0}
FineBefore xs comma = Unit {0}
FineBefore xs (string word) = every in_string word ≡ true
FineBefore xs (whole n) = starts_whole xs ≡ false

abbrev pub Fine : List Piece → Type 0
Fine [] = Unit {0}
Fine (x ∷ xs) = FineBefore xs x × Fine xs

-- ---- the longest beginning that passes a test

abbrev Stops : (ℕ → Bool) → List ℕ → Type 0
Stops p [] = Unit {0}
Stops p (b ∷ s) = p b ≡ false

lead_stops : (p : ℕ → Bool) (w s : List ℕ) → every p w ≡ true → Stops p s → lead p (w ++ s) ≡ w
lead_stops p [] [] all stop = refl
lead_stops p [] (b ∷ s) all stop = rw stop
lead_stops p (b ∷ w) s all stop = rw (and_first (p b) (every p w) all) (ap (λ (l : List ℕ). b ∷ l) (lead_stops p w s (and_second (p b) (every p w) all) stop))

-- no run goes on into what follows a number
run_stops : {xs : List Piece} {s : List ℕ} → Laid xs s → starts_whole xs ≡ false → Stops in_run s
run_stops done other = tt
run_stops (white w rest) other = rw w
run_stops (next open_brace rest) other = refl
run_stops (next close_brace rest) other = refl
run_stops (next open_bracket rest) other = refl
run_stops (next close_bracket rest) other = refl
run_stops (next colon rest) other = refl
run_stops (next comma rest) other = refl
run_stops (next (string word) rest) other = refl
run_stops (next (whole n) rest) other = absurd (true≢false other)

-- ---- one token

-- a token that takes all of a text's beginning
token_of_lem : (place b : ℕ) (w s : List ℕ) (t : Token) → is_white b ≡ false → token_at place b (w ++ s) ≡ t → t.size ≡ suc (length w)
    → tokens_from 0 place (b ∷ w ++ s) ≡ t ∷ tokens_from 0 (place + suc (length w)) s
token_of_lem place b w s t black is size =
    token_next place b (w ++ s) black
    ∙ ap (λ (u : Token). u ∷ tokens_from 0 (place + u.size) (drop u.size (b ∷ w ++ s))) is
    ∙ ap (λ (n : ℕ). t ∷ tokens_from 0 (place + n) (drop n (b ∷ w ++ s))) size
    ∙ ap (λ (l : List ℕ). t ∷ tokens_from 0 (place + suc (length w)) l) (drop-append_seam w s)

string_tokens : (place : ℕ) (w s : List ℕ) → every in_string w ≡ true
    → tokens_from 0 place (bytes_of (string w) ++ s) ≡ token Quoted w place (length w + 2) ∷ tokens_from 0 (place + suc (length (w ++ quote ∷ []))) s
string_tokens place w s clean =
    let whole_word = lead_stops in_string w (quote ∷ s) clean refl in
    let same = append_assoc w (quote ∷ []) s in
    token_of_lem place quote (w ++ quote ∷ []) s (token Quoted w place (length w + 2)) refl
    (ap (token_at place quote) same
    ∙ quoted-token place quote (w ++ quote ∷ s) quote s refl (ap (λ (l : List ℕ). drop (length l) (w ++ quote ∷ s)) whole_word ∙ drop-append_seam w (quote ∷ s)) refl
    ∙ ap (λ (l : List ℕ). token Quoted l place (length l + 2)) whole_word)
    (omega (arith, length-append w (quote ∷ [])))

-- a digit is in a run, and nothing else
digit_black : (b : ℕ) → is_digit b ≡ true → is_white b ≡ false
digit_black b h =
    let range = digit_range b (holds (is_digit b) h) in
    rw (ne_eqb b (code " ") (omega arith), ne_eqb b (code "\t") (omega arith), ne_eqb b (code "\n") (omega arith), ne_eqb b (code "\r") (omega arith))

digit_unquoted : (b : ℕ) → is_digit b ≡ true → eqb b quote ≡ false
digit_unquoted b h = let range = digit_range b (holds (is_digit b) h) in ne_eqb b quote (omega arith)

digit_unsigned : (b : ℕ) → is_digit b ≡ true → sign_of b ≡ None
digit_unsigned b h =
    let range = digit_range b (holds (is_digit b) h) in
    rw (
      ne_eqb b (code "{") (omega arith),
      ne_eqb b (code "}") (omega arith),
      ne_eqb b (code "[") (omega arith),
      ne_eqb b (code "]") (omega arith),
      ne_eqb b (code ":") (omega arith),
      ne_eqb b (code ",") (omega arith),
    )

digits_run : (w : List ℕ) → every is_digit w ≡ true → every in_run w ≡ true
digits_run [] h = refl
digits_run (b ∷ w) h =
    let digit = and_first (is_digit b) (every is_digit w) h in
    rw (digit_black b digit, digit_unquoted b digit, digit_unsigned b digit) (digits_run w (and_second (is_digit b) (every is_digit w) h))

-- a number is one run, if what follows it stops the run
digits_token : (place : ℕ) (w s : List ℕ) → T (plain w) → every is_digit w ≡ true → Stops in_run s
    → tokens_from 0 place (w ++ s) ≡ run_token place w ∷ tokens_from 0 (place + length w) s
digits_token place [] s some-digit digits stop = absurd some-digit
digits_token place (b ∷ w) s some-digit digits stop =
    let digit = and_first (is_digit b) (every is_digit w) digits in
    let rest = digits_run w (and_second (is_digit b) (every is_digit w) digits) in
    token_of_lem place b w s (run_token place (b ∷ w)) (digit_black b digit)
    (run-token place b (w ++ s) (digit_black b digit) (digit_unquoted b digit) (digit_unsigned b digit)
    ∙ ap (λ (l : List ℕ). run_token place (b ∷ l)) (lead_stops in_run w s rest stop))
    refl

-- ---- the whole text

pub laid_said : {xs : List Piece} {s : List ℕ} → Laid xs s → Fine xs → (place : ℕ) → Same xs (tokens_from 0 place s)
laid_said done fine place = refl
laid_said {xs} (white {s = s} {b = b} w rest) fine place = subst (Same xs) (sym (white_next place b s w)) (laid_said rest fine (suc place))
laid_said (next open_brace rest) fine place = (refl, laid_said rest fine.1 (suc place))
laid_said (next close_brace rest) fine place = (refl, laid_said rest fine.1 (suc place))
laid_said (next open_bracket rest) fine place = (refl, laid_said rest fine.1 (suc place))
laid_said (next close_bracket rest) fine place = (refl, laid_said rest fine.1 (suc place))
laid_said (next colon rest) fine place = (refl, laid_said rest fine.1 (suc place))
laid_said (next comma rest) fine place = (refl, laid_said rest fine.1 (suc place))
laid_said (next {xs = xs} {s = s} (string word) rest) fine place =
    subst (Same (string word ∷ xs)) (sym (string_tokens place word s fine.0)) ((refl, refl), laid_said rest fine.1 (place + suc (length (word ++ quote ∷ []))))
laid_said (next {xs = xs} {s = s} (whole n) rest) fine place =
    subst (Same (whole n ∷ xs)) (sym (digits_token place (spelled n) s (plain-spelled n) (is_true _ (digits_spelled n)) (run_stops rest fine.0)))
    ((refl, whole_spelled n), laid_said rest fine.1 (place + length (spelled n)))
