-- Bytes of which none ends a line: one after the other. Assumes nothing.
use Prim.Native.Nat.{ℕ, ◌+◌, ◌-◌, ◌≤◌, ◌<◌}
use mathlib.Core.Path.{◌≡◌, refl, ap, subst, sym}
use mathlib.Core.Bool.{Bool, true, false, not, ◌&&◌, true≢false}
use lib.Dec.{eqb}
use borrow.Author.Tests.{eqb-false}
use mathlib.Core.List.{List}
use native.Mathlib.Omega.{arith}
use native.Mathlib.Nat.{add-zero}
use lib.ListN.{length, get_or, drop}
use Rattle.rules.specs.Bytes.{line_feed}
use Rattle.text_read.specs.Places.{up_to}
use Rattle.text_read.proofs.Laws.{passed}
use Rattle.csv_lines.specs.Clear.{together, Clear}

-- where the line ends from a place on
abbrev end_from : (text : List ℕ) (i : ℕ) → ℕ
end_from text i = i + up_to line_feed (drop i text)

-- k bytes are passed
pub record Clearing (text : List ℕ) (at k : ℕ) : Type 0 where
  pub there : at + together ≤ length text
  pub few : k ≤ together
  pub on : end_from text (at + k) ≡ end_from text at

pub clearing_first : (text : List ℕ) (at : ℕ) → together ≤ length text → at ≤ length text - together → Clearing text at 0
clearing_first text at h k = record { there = omega arith; few = omega arith; on = ap (end_from text) (add-zero at) }

pub clearing_next : {text : List ℕ} {at k : ℕ} → Clearing text at k → k < together → (get_or text (at + k) 0 ≡ line_feed → ⊥) → Clearing text at (k + 1)
clearing_next {text} {at} {k} c h q =
    let next : at + k + 1 ≡ at + (k + 1) = omega arith in
    record {
      there = c.there;
      few = omega arith;
      on = subst (λ (i : ℕ). end_from text i ≡ end_from text at) next (passed text line_feed (at + k) (end_from text at) c.on (omega (arith, c.there)) q);
    }

pub cleared : {text : List ℕ} {at k : ℕ} → Clearing text at k → together ≤ k → Clear text at
cleared {text} {at} {k} c h =
    let all : k ≡ together = omega (arith, c.few) in
    record { there = c.there; on = subst (λ (n : ℕ). end_from text (at + n) ≡ end_from text at) all c.on }

-- where the flag still stands, k bytes are passed; the place is in reach either way
pub record Flagged (text : List ℕ) (at : ℕ) (clear : Bool) (k : ℕ) : Type 0 where
  pub there : at + together ≤ length text
  pub few : k ≤ together
  pub kept : clear ≡ true → Clearing text at k

pub flagged_first : (text : List ℕ) (at : ℕ) → together ≤ length text → at ≤ length text - together → Flagged text at true 0
flagged_first text at h k = record { there = omega arith; few = omega arith; kept = λ e. clearing_first text at h k }

both : (x y : Bool) → x && not y ≡ true → (x ≡ true) × (y ≡ false)
both true true e = absurd (true≢false (sym e))
both true false e = (refl, refl)
both false y e = absurd (true≢false (sym e))

pub flagged_step : {text : List ℕ} {at k : ℕ} {clear : Bool} → Flagged text at clear k → k < together → Flagged text at (clear && not (eqb (get_or text (at + k) 0) line_feed)) (k + 1)
flagged_step {text} {at} {k} {clear} f h = record { there = f.there; few = omega arith; kept = kept }
  where
    kept : clear && not (eqb (get_or text (at + k) 0) line_feed) ≡ true → Clearing text at (k + 1)
    kept e =
        let w = both clear (eqb (get_or text (at + k) 0) line_feed) e in
        clearing_next (f.kept w.0) h (eqb-false (get_or text (at + k) 0) line_feed w.1)

pub flagged_all : {text : List ℕ} {at k : ℕ} {clear : Bool} → Flagged text at clear k → together ≤ k → clear ≡ true → Clear text at
flagged_all {text} {at} {k} {clear} f h e = cleared (f.kept e) h
