-- The inequalities of a row of the table of kinds up to the first that fails. Assumes nothing.
use Prim.Native.Nat.{ℕ, zero, suc, ◌+◌, ◌≤◌, ◌<◌}
use native.Mathlib.Omega.{arith}
use mathlib.Core.Path.{◌≡◌, refl, sym, ap, ◌∙◌}
use mathlib.Core.Bool.{true, false, cond}
use mathlib.Core.List.{[], ◌∷◌}
use lib.Dec.{leb}
use lib.ListN.{take, get_or}
use lib.Seq.{take-nil}
use borrow.Author.Tests.{le-leb, lt-leb}
use Rattle.rules.specs.Kinds.{Inequality, no_anchor, by_anchor, by_anchors}
use Rattle.rules.specs.declared.kinds.Kind.{Kind}
use Rattle.rules.specs.declared.sizes.Configuration.{Configuration}
use Rattle.rules.specs.declared.sizes.Constraint.{Constraint}
use Rattle.verdict.specs.Found.{Finding, fails, shortfall_of, finding_from, finding_of}
use Rattle.std.specs.Prelude.{Ok}

-- ---- the first inequality of a row that fails: s and r are the shortfalls of its two

holds : (q : Inequality) (s : ℕ) → s ≡ shortfall_of q → s ≤ 0 → leb q.left q.right ≡ true
holds q s e h = le-leb q.left q.right (omega arith)

breaks : (q : Inequality) (s : ℕ) → s ≡ shortfall_of q → 0 < s → leb q.left q.right ≡ false
breaks q s e h = lt-leb q.left q.right (omega arith)

-- the inequality by the anchors from place i on
abbrev by_place : Kind → Constraint → Configuration → Configuration → ℕ → Inequality
by_place row c one two i =
    by_anchor row.keys (get_or row.anchors i no_anchor) (get_or row.anchors (i + 1) no_anchor) c.low c.high c.connection one two

module _ (row : Kind) (c : Constraint) (one two : Configuration) where
  abbrev found : Finding
  found = finding_of (by_anchors row c.low c.high c.connection one two)

  abbrev p : Inequality
  p = by_place row c one two 0

  abbrev q : Inequality
  q = by_place row c one two 2

  -- of n inequalities
  abbrev of : ℕ → Finding
  of n = finding_of (take n (p ∷ q ∷ []))

  pub found_none : row.inequalities < 1 → Ok 0 ≡ found
  unfolding by_anchors
  found_none = go row.inequalities
    where
      go : (n : ℕ) → n < 1 → Ok 0 ≡ of n
      go zero h = refl
      go (suc n) h = absurd (omega arith)

  module _ (s : ℕ) (es : s ≡ shortfall_of p) where
    pub found_first : 1 ≤ row.inequalities → 0 < s → fails 1 s ≡ found
    unfolding by_anchors
    found_first l h = go row.inequalities l
      where
        go : (n : ℕ) → 1 ≤ n → fails 1 s ≡ of n
        go zero l = absurd (omega arith)
        go (suc n) l =
            ap (fails 1) es ∙ sym (ap (λ b. cond b (finding_from 1 (take n (q ∷ []))) (fails 1 (shortfall_of p))) (breaks p s es h))

    passed : (n : ℕ) → s ≤ 0 → finding_from 1 (take n (q ∷ [])) ≡ of (suc n)
    passed n h = sym (ap (λ b. cond b (finding_from 1 (take n (q ∷ []))) (fails 1 (shortfall_of p))) (holds p s es h))

    pub found_one : 1 ≤ row.inequalities → row.inequalities < 2 → s ≤ 0 → Ok 1 ≡ found
    unfolding by_anchors
    found_one l m h = go row.inequalities l m
      where
        go : (n : ℕ) → 1 ≤ n → n < 2 → Ok 1 ≡ of n
        go zero l m = absurd (omega arith)
        go (suc zero) l m = passed 0 h
        go (suc (suc n)) l m = absurd (omega arith)

    module _ (r : ℕ) (er : r ≡ shortfall_of q) where
      pub found-second : 2 ≤ row.inequalities → s ≤ 0 → 0 < r → fails 2 r ≡ found
      unfolding by_anchors
      found-second l h k = go row.inequalities l
        where
          go : (n : ℕ) → 2 ≤ n → fails 2 r ≡ of n
          go zero l = absurd (omega arith)
          go (suc zero) l = absurd (omega arith)
          go (suc (suc n)) l =
              ap (fails 2) er
              ∙ sym (ap (λ b. cond b (finding_from 2 (take n [])) (fails 2 (shortfall_of q))) (breaks q r er k))
              ∙ passed (suc n) h

      pub found_both : 2 ≤ row.inequalities → s ≤ 0 → r ≤ 0 → Ok 2 ≡ found
      unfolding by_anchors
      found_both l h k = go row.inequalities l
        where
          go : (n : ℕ) → 2 ≤ n → Ok 2 ≡ of n
          go zero l = absurd (omega arith)
          go (suc zero) l = absurd (omega arith)
          go (suc (suc n)) l =
              sym (ap (finding_from 2) (take-nil n))
              ∙ sym (ap (λ b. cond b (finding_from 2 (take n [])) (fails 2 (shortfall_of q))) (holds q r er k))
              ∙ passed (suc n) h
