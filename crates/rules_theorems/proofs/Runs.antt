-- One run second by second: where its samples fall, and that their sum over the seconds is the samples' own. Assumes nothing.
use Prim.Native.Nat.{ℕ, suc, ◌+◌, ◌-◌, ◌≤◌, ◌<◌}
use native.Mathlib.Omega.{arith}
use mathlib.Core.Path.{◌≡◌, refl, sym, ap, ap₂, ◌∙◌}
use mathlib.Core.Bool.{Bool, true, false, cond, ◌&&◌}
use mathlib.Core.List.{List, [], ◌∷◌}
use lib.Dec.{leb, ltb, eqb}
use lib.ListN.{length, get_or, get_or-eq_default}
use lib.IntN.{ℤ, pos}
use borrow.Author.Tests.{leb-true, leb-false, ltb-false, eqb-true, eqb-false, le-leb, lt-leb, lt-ltb}
use Rattle.rules.specs.Lists.{sum_of}
use Rattle.rules.specs.Verdict.{All}
use Rattle.rules.specs.Energy.{sum_to, leg_at}
use Rattle.rules.specs.declared.sizes.Configuration.{Configuration}
use Rattle.rules_theorems.specs.Sized.{Powered, Fits}
use Rattle.rules_theorems.proofs.Sums.{sum_ext, sum_zero, sum_add, sum_once, list_swap}

-- what a run of samples from second d on takes at second t
abbrev pub run_at : ℕ → List ℤ → ℕ → ℤ
run_at d xs t = cond (leb d t) (get_or xs (t - d) (pos 0)) (pos 0)

-- where the profile has as many samples as the travel time has seconds, the run's end needs no test
pub leg_is-run : (samples : ℕ → List ℤ) (c : Configuration) (t : ℕ) → length (samples c.profile) ≡ c.travel
    → leg_at samples c t ≡ run_at c.departure (samples c.profile) t
leg_is-run samples c t l = go (leb c.departure t) refl (ltb t (c.departure + c.travel)) refl
  where
    xs : List ℤ
    xs = samples c.profile

    go : (a : Bool) → leb c.departure t ≡ a → (b : Bool) → ltb t (c.departure + c.travel) ≡ b
        → cond (a && b) (get_or xs (t - c.departure) (pos 0)) (pos 0) ≡ cond a (get_or xs (t - c.departure) (pos 0)) (pos 0)
    go false e b e' = refl
    go true e true e' = refl
    go true e false e' =
        sym (get_or-eq_default xs (pos 0) (omega (arith, leb-true c.departure t e, ltb-false t (c.departure + c.travel) e')))

-- the first sample's second, and the seconds of the rest
pub run-first : (d : ℕ) (x : ℤ) (xs : List ℤ) (t : ℕ) → run_at d (x ∷ xs) t ≡ cond (eqb d t) x (run_at (suc d) xs t)
run-first d x xs t = go (leb d t) refl (eqb d t) refl
  where
    go : (a : Bool) → leb d t ≡ a → (b : Bool) → eqb d t ≡ b
        → cond a (get_or (x ∷ xs) (t - d) (pos 0)) (pos 0) ≡ cond b x (run_at (suc d) xs t)
    go false e true e' = absurd (apart (leb-false d t e) (eqb-true d t e'))
      where
        apart : t < d → d ≡ t → ⊥
        apart h k = omega arith
    go false e false e' = rw (lt-leb (suc d) t (omega (arith, leb-false d t e)))
    go true e true e' =
        let z : t - d ≡ 0 = omega (arith, eqb-true d t e') in
        rw z
    go true e false e' =
        let h : suc d ≤ t = past (leb-true d t e) (eqb-false d t e') in
        let s : t - d ≡ suc (t - suc d) = omega arith in
        rw (le-leb (suc d) t h, s)
      where
        past : d ≤ t → (d ≡ t → ⊥) → suc d ≤ t
        past h k = omega arith

-- a run that ends by H: its sum over the seconds is its samples' sum
pub run-sum : (f : ℤ → ℕ) → f (pos 0) ≡ 0 → (d : ℕ) (xs : List ℤ) (H : ℕ) → d + length xs ≤ H
    → sum_to (λ t. f (run_at d xs t)) H ≡ sum_of f xs
run-sum f z d [] H h = sum_zero (λ t. f (run_at d [] t)) H (λ t k. nothing (leb d t))
  where
    nothing : (b : Bool) → f (cond b (pos 0) (pos 0)) ≡ 0
    nothing true = z
    nothing false = z
run-sum f z d (x ∷ xs) H h =
    sum_ext (λ t. f (run_at d (x ∷ xs) t)) (λ t. here t + rest t) H (λ t k. ap f (run-first d x xs t) ∙ apart t (eqb d t) refl)
    ∙ sum_add here rest H
    ∙ ap₂ ◌+◌ (sum_once d (f x) H ∙ inside) (run-sum f z (suc d) xs H (omega arith))
  where
    here : ℕ → ℕ
    here t = cond (eqb d t) (f x) 0

    rest : ℕ → ℕ
    rest t = f (run_at (suc d) xs t)

    inside : cond (ltb d H) (f x) 0 ≡ f x
    inside = rw (lt-ltb d H (omega arith))

    apart : (t : ℕ) (b : Bool) → eqb d t ≡ b → f (cond b x (run_at (suc d) xs t)) ≡ cond b (f x) 0 + rest t
    apart t true e = rw (lt-leb (suc d) t (omega (arith, eqb-true d t e)), z) (omega arith)
    apart t false e = omega arith

module _ (samples : ℕ → List ℤ) where
  -- all runs, for any part of a sample that is 0 at 0
  pub legs-sum : (f : ℤ → ℕ) → f (pos 0) ≡ 0 → (H : ℕ) (cs : List Configuration) → All (Powered samples) cs → Fits H cs
      → sum_to (λ t. sum_of (λ c. f (leg_at samples c t)) cs) H ≡ sum_of (λ c. sum_of f (samples c.profile)) cs
  legs-sum f z H cs p h = list_swap (λ c t. f (leg_at samples c t)) cs H ∙ each cs p h
    where
      each : (cs : List Configuration) → All (Powered samples) cs → Fits H cs
          → sum_of (λ c. sum_to (λ t. f (leg_at samples c t)) H) cs ≡ sum_of (λ c. sum_of f (samples c.profile)) cs
      each [] p h = refl
      each (c ∷ cs) p h =
          let xs : List ℤ = samples c.profile in
          let l : length xs ≡ c.travel = p.0.counted in
          ap₂ ◌+◌
          (sum_ext (λ t. f (leg_at samples c t)) (λ t. f (run_at c.departure xs t)) H (λ t k. ap f (leg_is-run samples c t l))
          ∙ run-sum f z c.departure xs H (omega (arith, h.0)))
          (each cs p.1 h.1)
