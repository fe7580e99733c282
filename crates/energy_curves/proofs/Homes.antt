-- A run and its home: into the subnet's row where the home is one of the n subnets, and nowhere else. Assumes nothing.
use Prim.Native.Nat.{ℕ, ◌≤◌, ◌<◌}
use native.Mathlib.Omega.{arith}
use native.Mathlib.Nat.{mul-le-mul_right}
use mathlib.Core.Path.{◌≡◌, refl, sym, ap, ◌∙◌}
use mathlib.Core.Bool.{cond}
use mathlib.Core.List.{List}
use lib.IntN.{ℤ}
use borrow.Author.Tests.{lt-ltb, le-ltb}
use Rattle.rules_theorems.specs.Laying.{laid_run, laid_home}
use Rattle.energy_curves.specs.Room.{WindowRoom, HomeRoom}
use Rattle.energy_parts.specs.Seen.{home_in}
use Rattle.std.specs.Prelude.{Option, Some, None}

pub home_back : (o : Option ℕ) → home_in (o) ≡ o
home_back None = refl
home_back (Some u) = refl

module _ (from size n : ℕ) (P xs : List ℤ) where
  pub row_room : HomeRoom from size n P xs → (u : ℕ) → u < n → WindowRoom from size u P xs
  row_room r u h = record { early = r.early; row = omega (arith, mul-le-mul_right size h, r.rows); add = r.add }

  module _ (home : Option ℕ) (start : ℕ) where
    pub home_laid : (u : ℕ) → home ≡ Some u → u < n → (P' : List ℤ) → P' ≡ laid_run from size u start xs P
        → P' ≡ laid_home from size n (home_in home) start xs P
    home_laid u e h P' l =
        l
        ∙ sym (ap (λ b. cond b (laid_run from size u start xs P) P) (lt-ltb u n h))
        ∙ sym (ap (λ f. laid_home from size n (home_in f) start xs P) e)

    pub home_elsewhere : (u : ℕ) → home ≡ Some u → n ≤ u → P ≡ laid_home from size n (home_in home) start xs P
    home_elsewhere u e h =
        sym (ap (λ f. laid_home from size n (home_in f) start xs P) e ∙ ap (λ b. cond b (laid_run from size u start xs P) P) (le-ltb u n h))
