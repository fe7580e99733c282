-- The energies of document 01 summed in another order: second by second, and subnet by subnet. Assumes nothing.
use Prim.Native.Nat.{ℕ, suc, ◌+◌, ◌*◌}
use mathlib.Core.Path.{◌≡◌, refl, ◌∙◌}
use mathlib.Core.Bool.{Bool, true, false, cond}
use mathlib.Core.List.{List}
use lib.Dec.{ltb, eqb}
use lib.IntN.{ℤ, pos}
use Rattle.rules.specs.Limits.{quarter_seconds}
use Rattle.rules.specs.Energy.{sum_to, above, is_home, power, before, before_at, drawn_at, drawn, seconds_of, quarter}
use Rattle.rules.specs.declared.sizes.Configuration.{Configuration}
use Rattle.rules_theorems.specs.Sized.{Sized, Fits}
use Rattle.rules_theorems.proofs.Sums.{sum_ext, sum_zero, sum_add, sum_swap, sum_once}
use Rattle.rules_theorems.proofs.Runs.{legs-sum}
use Rattle.std.specs.Prelude.{Option, Some, None}

-- whether a leg's home is one of n subnets
abbrev pub stands : ℕ → Option ℕ → Bool
stands n None = false
stands n (Some u) = ltb u n

module _ (samples : ℕ → List ℤ) where
  -- before recuperation: second by second, it is the sum of all positive chosen samples
  pub before-seconds : (H : ℕ) (cs : List Configuration) → Sized samples cs → Fits H cs
      → sum_to (before_at samples cs) H ≡ before samples cs
  before-seconds H cs s h = legs-sum samples above refl H cs s.powered h

  -- with no subnet yet, each quarter sum is 0
  pub quarter-none : (homes : List (Option ℕ)) (cs : List Configuration) (H k : ℕ) → quarter (drawn_at samples homes 0 cs) H k ≡ 0
  quarter-none homes cs H k = sum_zero (λ j. 0) (seconds_of H k) (λ j h. refl)

  module _ (homes : List (Option ℕ)) (n : ℕ) (cs : List Configuration) where
    -- drawn, second by second
    pub drawn-seconds : (H : ℕ) → sum_to (drawn_at samples homes n cs) H ≡ drawn samples homes n cs H
    drawn-seconds H = sum_swap (λ t s. above (power samples homes cs s t)) H n

    -- a quarter's drawn energy, subnet by subnet
    pub quarter-subnets : (H k : ℕ)
        → quarter (drawn_at samples homes n cs) H k ≡ sum_to (λ s. quarter (λ t. above (power samples homes cs s t)) H k) n
    quarter-subnets H k = sum_swap (λ j s. above (power samples homes cs s (quarter_seconds * k + j))) (seconds_of H k) n

    -- one more subnet adds its own quarter
    pub quarter_next : (H k : ℕ)
        → quarter (drawn_at samples homes (suc n) cs) H k ≡ quarter (drawn_at samples homes n cs) H k + quarter (λ t. above (power samples homes cs n t)) H k
    quarter_next H k =
        sum_add (λ j. drawn_at samples homes n cs (quarter_seconds * k + j)) (λ j. above (power samples homes cs n (quarter_seconds * k + j))) (seconds_of H k)

  -- a leg adds to its own subnet alone
  pub home_sum : (f : ℤ → ℕ) → f (pos 0) ≡ 0 → (n : ℕ) (u : Option ℕ) (x : ℤ)
      → sum_to (λ s. f (cond (is_home samples u s) x (pos 0))) n ≡ cond (stands n u) (f x) 0
  home_sum f z n None x = sum_zero (λ s. f (pos 0)) n (λ s k. z)
  home_sum f z n (Some u) x =
      sum_ext (λ s. f (cond (eqb u s) x (pos 0))) (λ s. cond (eqb u s) (f x) 0) n (λ s k. inner (eqb u s)) ∙ sum_once u (f x) n
    where
      inner : (b : Bool) → f (cond b x (pos 0)) ≡ cond b (f x) 0
      inner true = refl
      inner false = z
