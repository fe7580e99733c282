-- The token at a byte that is not white, and the one at the text's end, as the code finds them. Assumes nothing.
use Prim.Native.Nat.{ℕ, suc, ◌+◌, ◌-◌, ◌≤◌, ◌<◌}
use mathlib.Core.Path.{◌≡◌, refl, ap, sym, ◌∙◌}
use mathlib.Core.Bool.{Bool, true, false, not, ◌||◌}
use mathlib.Core.List.{List, [], ◌∷◌}
use native.Mathlib.Omega.{arith}
use native.Mathlib.Numerals.{add-one}
use lib.Dec.{eqb}
use lib.ListN.{length, get_or, drop, drop_of_length-le}
use lib.Seq.{drop-cons}
use borrow.Author.Tests.{eq-eqb, ne_eqb}
use Rattle.rules.specs.Limits.{most_text}
use Rattle.rules.specs.Lists.{lead}
use Rattle.std.specs.Prelude.{is_some, Option, Some, None}
use Rattle.rules.specs.Tokens.{Token, token, is_white, quote, sign_of, in_run, in_string, run_token}
use Rattle.rules.specs.declared.tokens.Class.{Class}
use Rattle.rules.specs.declared.tokens.Class.TheVariants.{Quoted, Run, End, Unclosed, Forbidden}
use Rattle.rules.proofs.TokenLaws.{token_of, token-at, token_within, end-at, quoted-token, forbidden_token, unclosed_token, sign_token_lem, run-token}
use Rattle.text_read.proofs.Runs.{lead-more}
use Rattle.constraints_tokens.specs.Seen.{part, is_end, sign_or, Stands, Black, Skipped}
use Rattle.constraints_tokens.proofs.Scan.{scanned, scan_within, scan_rest}

-- ---- a token that was found starts at its place and is not the end

module _ (s : List ℕ) (at : ℕ) (h : Black s at) (c : Class) (w : List ℕ) (next : ℕ) where
  -- what the code has to show of it
  pub record Right : Type 0 where
    pub token : token_of s at ≡ token c w at (next - at)
    pub inner : is_end c ≡ false
    pub onward : at < next
    pub within : next ≤ length s

  seen : Right → Stands s at c w at next
  seen r =
      let size : at + (next - at) ≡ next = omega (arith, r.onward) in
      record {
        tokens = token-at s at h.here h.black ∙ rw (r.token, r.inner, size);
        starts = omega (arith, r.onward);
        onward = λ e. r.onward;
        within = r.within;
      }

-- ---- strings: e is where the clean bytes end

module _ (s : List ℕ) (at e : ℕ) (h : Black s at) (opens : get_or s at 0 ≡ quote) (q : e ≡ at + 1 + length (lead in_string (drop (at + 1) s))) where
  from : e ≡ suc at + length (lead in_string (drop (suc at) s))
  from = rw (add-one at) at q

  word : lead in_string (drop (suc at) s) ≡ part s (at + 1) e
  word = rw (add-one at) (sym (scanned in_string s (suc at) e from))

  rest : drop (length (lead in_string (drop (suc at) s))) (drop (suc at) s) ≡ drop e s
  rest = scan_rest in_string s (suc at) e from

  opening : eqb (get_or s at 0) quote ≡ true
  opening = eq-eqb _ _ opens

  inside : e ≤ length s
  inside = scan_within in_string s (at + 1) e q (omega (arith, h.here))

  pub string_place : e < suc (length s)
  string_place = omega (arith, inside)

  clean : e - (at + 1) ≡ length (lead in_string (drop (suc at) s))
  clean = omega (arith, from)

  -- a string of a class that is n bytes long but for its word: an opening quote, and a closing one where it is closed
  string_seen : (c : Class) (n next : ℕ) → is_end c ≡ false → 1 ≤ n → e + n ≡ next + 1 → next ≤ length s
      → token_of s at ≡ token c (lead in_string (drop (suc at) s)) at (length (lead in_string (drop (suc at) s)) + n)
      → Stands s at c (part s (at + 1) e) at next
  string_seen c n next inner more ends within is =
      let size : length (lead in_string (drop (suc at) s)) + n ≡ next - at = omega (arith, from) in
      seen s at h c (part s (at + 1) e) next
      record {
        token = is ∙ rw (size, word);
        inner = inner;
        onward = omega (arith, from);
        within = within;
      }

  pub unclosed_seen : length s ≤ e → Stands s at Unclosed (part s (at + 1) e) at e
  unclosed_seen l =
      string_seen Unclosed 1 e refl (omega arith) refl inside
      (unclosed_token at (get_or s at 0) (drop (suc at) s) opening (rest ∙ drop_of_length-le s l))

  pub forbidden_seen : e < length s → (get_or s e 0 ≡ quote → ⊥) → Stands s at Forbidden (part s (at + 1) e) at e
  forbidden_seen l other =
      string_seen Forbidden 1 e refl (omega arith) refl inside
      (forbidden_token at (get_or s at 0) (drop (suc at) s) (get_or s e 0) (drop (suc e) s) opening (rest ∙ drop-cons s e 0 l) (ne_eqb _ _ other))

  pub quoted_seen : e < length s → get_or s e 0 ≡ quote → Stands s at Quoted (part s (at + 1) e) at (e + 1)
  quoted_seen l closes =
      string_seen Quoted 2 (e + 1) refl (omega arith) (omega arith) (omega arith)
      (quoted-token at (get_or s at 0) (drop (suc at) s) (get_or s e 0) (drop (suc e) s) opening (rest ∙ drop-cons s e 0 l) (eq-eqb _ _ closes))

-- ---- runs and signs, by the byte that stands there

unsigned : (white quoted : Bool) (c : Option Class) → not (white || (quoted || is_some c)) ≡ true → c ≡ None
unsigned true quoted c e = cc
unsigned false true c e = cc
unsigned false false None e = refl
unsigned false false (Some c) e = cc

signed : (white quoted : Bool) (c : Option Class) → white ≡ false → quoted ≡ false → not (white || (quoted || is_some c)) ≡ false → c ≡ Some (sign_or c)
signed true quoted c w q e = cc
signed false true c w q e = cc
signed false false None w q e = cc
signed false false (Some c) w q e = refl

module _ (s : List ℕ) (at : ℕ) (h : Black s at) (other : get_or s at 0 ≡ quote → ⊥) (t : Bool) (q : t ≡ in_run (get_or s at 0)) where
  unquoted : eqb (get_or s at 0) quote ≡ false
  unquoted = ne_eqb _ _ other

  pub run_seen : t ≡ true → (e : ℕ) → e ≡ at + length (lead in_run (drop at s)) → Stands s at Run (part s at e) at e
  run_seen is e ends =
      let none_there : sign_of (get_or s at 0) ≡ None = unsigned (is_white (get_or s at 0)) (eqb (get_or s at 0) quote) (sign_of (get_or s at 0)) (sym q ∙ is) in
      let first : lead in_run (drop at s) ≡ get_or s at 0 ∷ lead in_run (drop (suc at) s) = rw (add-one at) at (lead-more in_run s at 0 h.here (sym q ∙ is)) in
      let size : length (lead in_run (drop at s)) ≡ e - at = omega arith in
      seen s at h Run (part s at e) e
      record {
        token = run-token at (get_or s at 0) (drop (suc at) s) h.black unquoted none_there ∙ ap (run_token at) (sym first) ∙ rw (size, ← scanned in_run s at e ends);
        inner = refl;
        onward = omega (arith, ap length first);
        within = scan_within in_run s at e ends (omega (arith, h.here));
      }

  pub sign_seen : t ≡ false → (c : Class) → c ≡ sign_or (sign_of (get_or s at 0)) → Stands s at c [] at (at + 1)
  sign_seen is c sign =
      let there : sign_of (get_or s at 0) ≡ Some c =
      signed (is_white (get_or s at 0)) (eqb (get_or s at 0) quote) (sign_of (get_or s at 0)) h.black unquoted (sym q ∙ is) ∙ ap Some (sym sign) in
      let is-sign : token_of s at ≡ token c [] at 1 = sign_token_lem at (get_or s at 0) (drop (suc at) s) c unquoted there in
      let size : 1 ≡ at + 1 - at = omega arith in
      seen s at h c [] (at + 1)
      record {
        token = is-sign ∙ ap (token c [] at) size;
        inner = ap (λ (x : Token). is_end x.class) (sym is-sign) ∙ (token_within s at h.here h.black).inner;
        onward = omega arith;
        within = omega (arith, h.here);
      }

-- ---- past the white bytes: the text's end, or a token

module _ (s : List ℕ) (at r : ℕ) (k : Skipped s at r) where
  pub end_seen : length s ≤ r → Stands s at End [] r r
  end_seen h =
      let all : r ≡ length s = omega (arith, k.inside) in
      let nothing : 0 ≡ r - r = omega arith in
      record {
        tokens = k.same ∙ end-at s r all ∙ ap (λ (n : ℕ). token End [] n 0 ∷ []) (sym all) ∙ ap (λ (n : ℕ). token End [] r n ∷ []) nothing;
        starts = omega arith;
        onward = λ e. absurd (ends e);
        within = k.inside;
      }
    where
      ends : is_end End ≡ false → ⊥
      ends e = let z : ◌≡◌ {A = ℕ} 0 1 = cc in omega arith

  pub token_seen : {c : Class} {w : List ℕ} {place next : ℕ} → Stands s r c w place next → Stands s at c w place next
  token_seen {next = next} there =
      record {
        tokens = k.same ∙ there.tokens;
        starts = there.starts;
        onward = λ e. le_lt k.onward (there.onward e);
        within = there.within;
      }
    where
      le_lt : at ≤ r → r < next → at < next
      le_lt a b = omega arith

  pub black_there : length s ≤ most_text → r < length s → Black s r
  black_there short h = record { short = short; here = h; black = k.black h }
