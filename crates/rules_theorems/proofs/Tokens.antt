-- The tokens of a text lie one behind the other within it, and the text's end is the last of them. Assumes nothing.
use Prim.Native.Nat.{ℕ, zero, suc, ◌+◌, ◌≤◌, ◌<◌, pred}
use mathlib.Core.Path.{◌≡◌, refl, sym, ap, subst}
use mathlib.Core.Bool.{Bool, true, false, cond}
use mathlib.Core.List.{List, [], ◌∷◌, ◌++◌}
use native.Mathlib.Omega.{arith}
use lib.ListN.{length}
use Rattle.rules.specs.Tokens.{Token, token, is_white, token_at, tokens_from, tokens_of}
use Rattle.rules.specs.Constraints.{past}
use Rattle.rules.specs.declared.tokens.Class.TheVariants.{End}
use Rattle.rules.proofs.TokenLaws.{is_end, token-sound, place_is, size_anywhere}
use Rattle.rules.specs.Verdict.{All}
use Rattle.rules_theorems.specs.Lists.{Pairs}

-- the tokens of a text of n bytes, from a place on
pub data Laid (n : ℕ) : (from : ℕ) → List Token → Type 0 where
  last : {from : ℕ} → from ≤ n → Laid n from (token End [] n 0 ∷ [])
  next : {from : ℕ} {t : Token} {ts : List Token}
      → is_end t.class ≡ false → from ≤ t.place → 1 ≤ t.size → Laid n (past t) ts → Laid n from (t ∷ ts)

-- a token that lies behind a place lies behind all places before it
sooner : {n from : ℕ} {ts : List Token} (before : ℕ) → before ≤ from → Laid n from ts → Laid n before ts
sooner before h (last low) = last {from = before} (omega arith)
sooner {ts = t ∷ ts} before h (next inner low some_bytes rest) = next {from = before} {t = t} inner (omega arith) some_bytes rest

pub laid : (skip place : ℕ) (s : List ℕ) (n : ℕ) → skip ≤ length s → place + length s ≡ n → Laid n (place + skip) (tokens_from skip place s)
laid skip place [] n h e =
    let same : place ≡ n = omega arith in
    subst (λ (p : ℕ). Laid n (place + skip) (token End [] p 0 ∷ [])) (sym same) (last {from = place + skip} (omega arith))
laid (suc skip) place (b ∷ s) n h e =
    sooner (place + suc skip) (omega arith) (laid skip (suc place) s n (omega arith) (omega arith))
laid zero place (b ∷ s) n h e = go (is_white b) refl (λ skip k. laid skip (suc place) s n k (omega arith))
  where
    go : (t : Bool) → is_white b ≡ t
        → ((skip : ℕ) → skip ≤ length s → Laid n (suc place + skip) (tokens_from skip (suc place) s))
        → Laid n (place + 0) (cond t [] (token_at place b s ∷ []) ++ tokens_from (pred (cond t 1 (token_at 0 b s).size)) (suc place) s)
    go true white rest = sooner (place + 0) (omega arith) (rest 0 (omega arith))
    go false black rest =
        let sound = token-sound 0 b s black in
        let here = place_is place b s in
        let size = size_anywhere place b s in
        next {from = place + 0} {t = token_at place b s} (token-sound place b s black).inner (omega arith) (token-sound place b s black).some_bytes
        (sooner (past (token_at place b s)) (omega arith) (rest (pred (token_at 0 b s).size) (omega arith)))

pub tokens_laid : (s : List ℕ) → Laid (length s) 0 (tokens_of s)
unfolding tokens_of
tokens_laid s = laid 0 0 s (length s) (omega arith) (omega arith)

-- ---- what follows from it

-- the text's end is the last token, and no other token is the end
pub record Closed (n : ℕ) (ts : List Token) : Type 0 where
  pub before : List Token
  pub close : ts ≡ before ++ token End [] n 0 ∷ []
  pub inner : All (λ t. is_end t.class ≡ false) before

laid_close : {n from : ℕ} {ts : List Token} → Laid n from ts → Closed n ts
laid_close (last low) = record { before = []; close = refl; inner = tt }
laid_close {ts = t ∷ ts} (next inner low some_bytes rest) =
    let closed = laid_close rest in
    record { before = t ∷ closed.before; close = ap (λ (l : List Token). t ∷ l) closed.close; inner = (inner, closed.inner) }

pub tokens_close : (s : List ℕ) → Closed (length s) (tokens_of s)
tokens_close s = laid_close (tokens_laid s)

laid_behind : {n from : ℕ} {ts : List Token} → Laid n from ts → (before : ℕ) → before < from → All (λ t. before < t.place) ts
laid_behind (last low) before h = (omega arith, tt)
laid_behind (next inner low some_bytes rest) before h = (omega arith, laid_behind rest before (omega arith))

laid_rise : {n from : ℕ} {ts : List Token} → Laid n from ts → Pairs (λ t u. t.place < u.place) ts
laid_rise (last low) = (tt, tt)
laid_rise {ts = t ∷ ts} (next inner low some_bytes rest) = (laid_behind rest t.place (omega arith), laid_rise rest)

-- the places of tokens rise strictly
pub tokens_rise : (s : List ℕ) → Pairs (λ t u. t.place < u.place) (tokens_of s)
tokens_rise s = laid_rise (tokens_laid s)

laid_from : {n from : ℕ} {ts : List Token} → Laid n from ts → from ≤ n
laid_from (last low) = low
laid_from (next inner low some_bytes rest) =
    let behind = laid_from rest in
    omega arith

laid_within : {n from : ℕ} {ts : List Token} → Laid n from ts → All (λ t. past t ≤ n) ts
laid_within (last low) = (omega arith, tt)
laid_within (next inner low some_bytes rest) = (laid_from rest, laid_within rest)

-- each token lies within the text
pub tokens_within : (s : List ℕ) → All (λ t. past t ≤ length s) (tokens_of s)
tokens_within s = laid_within (tokens_laid s)
