-- What was passed over while the bytes of a text pass a test. Assumes nothing.
use Prim.Native.Nat.{ℕ, ◌+◌, ◌-◌, ◌≤◌}
use mathlib.Core.Path.{◌≡◌, ap, sym, ◌∙◌}
use mathlib.Core.Bool.{Bool}
use mathlib.Core.List.{List}
use native.Mathlib.Omega.{arith}
use lib.ListN.{length, take, drop, length-drop}
use lib.Seq.{drop-drop}
use Rattle.rules.specs.Lists.{lead}
use Rattle.rules.proofs.Lists.{lead_within, take-lead}
use Rattle.constraints_tokens.specs.Seen.{tokens_at, part}

-- ---- what was passed over is the part of the text that the definitions speak of

module _ (p : ℕ → Bool) (s : List ℕ) (from end : ℕ) (q : end ≡ from + length (lead p (drop from s))) where
  pub scanned : part s from end ≡ lead p (drop from s)
  scanned =
      let n : end - from ≡ length (lead p (drop from s)) = omega arith in
      ap (λ (k : ℕ). take k (drop from s)) n ∙ take-lead p (drop from s)

  pub scan_within : from ≤ length s → end ≤ length s
  scan_within h = omega (arith, lead_within p (drop from s), length-drop from s)

  -- what stands behind it
  pub scan_rest : drop (length (lead p (drop from s))) (drop from s) ≡ drop end s
  scan_rest = drop-drop (length (lead p (drop from s))) from s ∙ ap (λ (k : ℕ). drop k s) (sym q)

-- ---- white bytes hold no token: the invariant of `past_white`

pub record Going (s : List ℕ) (at i : ℕ) : Type 0 where
  pub same : tokens_at s at ≡ tokens_at s i
  pub onward : at ≤ i
  pub inside : i ≤ length s
