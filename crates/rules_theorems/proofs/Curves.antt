-- The curves of the two merges add up to those of the two solutions, and so does the energy before recuperation. Assumes nothing.
use Prim.Native.Nat.{ℕ, ◌+◌}
use native.Mathlib.Omega.{arith}
use mathlib.Core.Path.{◌≡◌, refl, ap₂, ◌∙◌}
use mathlib.Core.Bool.{cond}
use mathlib.Core.List.{List, [], ◌∷◌}
use lib.ListN.{length}
use lib.IntN.{ℤ, pos, ◌+ℤ◌, +ℤ_comm}
use Rattle.rules.specs.declared.sizes.Configuration.{Configuration}
use Rattle.rules.specs.Lists.{sum_of}
use Rattle.rules.specs.Energy.{is_home, leg_at, power, above, before, before_at}
use Rattle.rules.specs.Merge.{sooner, tardier, earlier, later}
use Rattle.rules_theorems.proofs.Parts.{interchange}
use Rattle.rules_theorems.proofs.Merges.{picks}
use Rattle.std.specs.Prelude.{Option}

module _ (samples : ℕ → List ℤ) where
  -- at every subnet u and second t
  pub curves_add : (homes : List (Option ℕ)) (s r : List Configuration) → length s ≡ length r → (u t : ℕ)
      → power samples homes (earlier s r) u t +ℤ power samples homes (later s r) u t ≡ power samples homes s u t +ℤ power samples homes r u t
  curves_add [] s r e u t = refl
  curves_add (o ∷ os) [] [] e u t = refl
  curves_add (o ∷ os) [] (b ∷ r) e u t = absurd (omega arith)
  curves_add (o ∷ os) (a ∷ s) [] e u t = absurd (omega arith)
  curves_add (o ∷ os) (a ∷ s) (b ∷ r) e u t =
      interchange (part (sooner a b)) (power samples os (earlier s r) u t) (part (tardier a b)) (power samples os (later s r) u t)
      ∙ ap₂ ◌+ℤ◌ (picks (λ x y. part x +ℤ part y ≡ part a +ℤ part b) a b (λ le. refl) (λ lt. +ℤ_comm (part b) (part a))) (curves_add os s r (omega arith) u t)
      ∙ interchange (part a) (part b) (power samples os s u t) (power samples os r u t)
    where
      part : Configuration → ℤ
      part x = cond (is_home samples o u) (leg_at samples x t) (pos 0)

-- what is added up over all legs comes to the same for the two merges as for the two solutions
pub sums_add : (f : Configuration → ℕ) (s r : List Configuration) → length s ≡ length r
    → sum_of f (earlier s r) + sum_of f (later s r) ≡ sum_of f s + sum_of f r
sums_add f [] [] e = refl
sums_add f [] (b ∷ r) e = absurd (omega arith)
sums_add f (a ∷ s) [] e = absurd (omega arith)
sums_add f (a ∷ s) (b ∷ r) e =
    let n : sum_of f (earlier s r) + sum_of f (later s r) ≡ sum_of f s + sum_of f r = sums_add f s r (omega arith) in
    picks (λ x y. f x + sum_of f (earlier s r) + (f y + sum_of f (later s r)) ≡ f a + sum_of f s + (f b + sum_of f r)) a b (λ le. omega arith) (λ lt. omega arith)

-- the energy before recuperation, in all and at each second
pub before_add : (samples : ℕ → List ℤ) (s r : List Configuration) → length s ≡ length r
    → before samples (earlier s r) + before samples (later s r) ≡ before samples s + before samples r
before_add samples = sums_add (λ c. sum_of above (samples c.profile))

pub seconds_add : (samples : ℕ → List ℤ) (s r : List Configuration) → length s ≡ length r → (t : ℕ)
    → before_at samples (earlier s r) t + before_at samples (later s r) t ≡ before_at samples s t + before_at samples r t
seconds_add samples s r e t = sums_add (λ c. above (leg_at samples c t)) s r e
