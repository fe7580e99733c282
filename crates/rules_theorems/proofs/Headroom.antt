-- While the curve table is made no number grows past the legs laid so far times the greatest sample, so a signed table of 32 bits holds each on the way. Assumes nothing.
use Prim.Native.Nat.{ℕ, zero, suc, ◌+◌, ◌*◌, ◌-◌, ◌≤◌}
use native.Mathlib.Omega.{arith}
use mathlib.Core.Path.{◌≡◌, refl, subst}
use mathlib.Core.Bool.{Bool, true, false, cond, ◌&&◌}
use mathlib.Core.List.{List, [], ◌∷◌}
use lib.Dec.{leb, eqb, ltb}
use lib.ListN.{length, get_or, set, replicate}
use lib.Seq.{get_or-set_same, get_or-set_other, set_out}
use lib.IntN.{ℤ, pos, ◌+ℤ◌, nat_abs}
use borrow.Author.Tests.{leb-true, eqb-true, eqb-false, ltb-true, ltb-false}
use Rattle.rules.specs.Limits.{most_kw}
use Rattle.rules.specs.Verdict.{All}
use Rattle.rules.specs.declared.sizes.Configuration.{Configuration}
use Rattle.rules_theorems.specs.Sized.{Powered}
use Rattle.rules_theorems.specs.Laying.{add_at, laid_one, laid_run, laid_home, laid_all, Within, Rising}
use Rattle.rules_theorems.proofs.Parts.{size-part}
use Rattle.std.specs.Prelude.{Option, Some, None}

pub zeros_within : (n : ℕ) → Within 0 (replicate n (pos 0))
zeros_within zero i = omega arith
zeros_within (suc n) zero = omega arith
zeros_within (suc n) (suc i) = zeros_within n i

module _ (b : ℕ) (P : List ℤ) where
  -- a run begins: nothing is added yet
  pub rising_begins : (i : ℕ) → Within b P → Rising b i P
  rising_begins i h = record { all = λ k. omega (arith, h k); ahead = λ k l. h k }

  module _ (i : ℕ) (x : ℤ) (rising : Rising b i P) (small : nat_abs x ≤ most_kw) where
    -- the sum that is stored
    pub rising_sum : nat_abs (get_or P i (pos 0) +ℤ x) ≤ b + most_kw
    rising_sum = omega (arith, size-part.add (get_or P i (pos 0)) x, rising.ahead i (omega arith))

    -- a sample is added at its place, and the next place is as it was
    pub rising_steps : Rising b (suc i) (add_at P i x)
    rising_steps = record { all = all; ahead = ahead }
      where
        y : ℤ
        y = get_or P i (pos 0) +ℤ x

        other : (k : ℕ) → (k ≡ i → ⊥) → get_or (set P i y) k (pos 0) ≡ get_or P k (pos 0)
        other k ne = get_or-set_other P i k y (pos 0) ne

        ahead : (k : ℕ) → suc i ≤ k → nat_abs (get_or (set P i y) k (pos 0)) ≤ b
        ahead k l = rw (other k apart) (rising.ahead k (omega arith))
          where
            apart : k ≡ i → ⊥
            apart e = omega arith

        all : Within (b + most_kw) (set P i y)
        all k = go (eqb k i) refl (ltb i (length P)) refl
          where
            go : (a : Bool) → eqb k i ≡ a → (c : Bool) → ltb i (length P) ≡ c → nat_abs (get_or (set P i y) k (pos 0)) ≤ b + most_kw
            go false e c e' = rw (other k (eqb-false k i e)) (rising.all k)
            go true e true e' = rw (eqb-true k i e, get_or-set_same P i y (pos 0) (ltb-true i (length P) e')) rising_sum
            go true e false e' = rw (set_out P i y (ltb-false i (length P) e')) (rising.all k)

  -- a place further on
  pub rising_on : (i k : ℕ) → i ≤ k → Rising b i P → Rising b k P
  rising_on i k h r = record { all = r.all; ahead = λ m l. r.ahead m (omega arith) }

-- ---- a whole run

module _ (from size b u : ℕ) where
  pub one_rising : (t : ℕ) (x : ℤ) (P : List ℤ) → nat_abs x ≤ most_kw → Rising b (u * size + (t - from)) P
      → Rising b (u * size + (suc t - from)) (laid_one from size u t x P)
  one_rising t x P small r = go (leb from t) refl (ltb t (from + size))
    where
      on : Rising b (u * size + (suc t - from)) P
      on = rising_on b P (u * size + (t - from)) (u * size + (suc t - from)) (omega arith) r

      go : (a : Bool) → leb from t ≡ a → (c : Bool) → Rising b (u * size + (suc t - from)) (cond (a && c) (add_at P (u * size + (t - from)) x) P)
      go true e true =
          let next : suc (u * size + (t - from)) ≡ u * size + (suc t - from) = omega (arith, leb-true from t e) in
          subst (λ i. Rising b i (add_at P (u * size + (t - from)) x)) next (rising_steps b P (u * size + (t - from)) x r small)
      go true e false = on
      go false e c = on

  run_rising : (t : ℕ) (xs P : List ℤ) → All (λ x. nat_abs x ≤ most_kw) xs → Rising b (u * size + (t - from)) P
      → Within (b + most_kw) (laid_run from size u t xs P)
  run_rising t [] P h r = r.all
  run_rising t (x ∷ xs) P h r = run_rising (suc t) xs (laid_one from size u t x P) h.1 (one_rising t x P h.0 r)

  -- a run adds at most one sample to each number
  pub run_within : (t : ℕ) (xs P : List ℤ) → All (λ x. nat_abs x ≤ most_kw) xs → Within b P
      → Within (b + most_kw) (laid_run from size u t xs P)
  run_within t xs P h w = run_rising t xs P h (rising_begins b P (u * size + (t - from)) w)

module _ (from size : ℕ) (samples : ℕ → List ℤ) (n : ℕ) where
  pub home_within : (b : ℕ) (u : Option ℕ) (t : ℕ) (xs P : List ℤ) → All (λ x. nat_abs x ≤ most_kw) xs → Within b P
      → Within (b + most_kw) (laid_home from size n u t xs P)
  home_within b None t xs P h w = λ i. omega (arith, w i)
  home_within b (Some u) t xs P h w = go (ltb u n)
    where
      go : (c : Bool) → Within (b + most_kw) (cond c (laid_run from size u t xs P) P)
      go true = run_within from size b u t xs P h w
      go false = λ i. omega (arith, w i)

  -- after some legs: their number times the greatest sample
  pub all_within : (b : ℕ) (homes : List (Option ℕ)) (cs : List Configuration) (P : List ℤ) → All (Powered samples) cs → Within b P
      → Within (b + length cs * most_kw) (laid_all from size samples n homes cs P)
  all_within b [] cs P h w i = omega (arith, w i)
  all_within b (u ∷ us) [] P h w i = omega (arith, w i)
  all_within b (u ∷ us) (c ∷ cs) P h w i =
      let next : List ℤ = laid_home from size n u c.departure (samples c.profile) P in
      let here : Within (b + most_kw) next = home_within b u c.departure (samples c.profile) P h.0.moderate w in
      omega (arith, all_within (b + most_kw) us cs next h.1 here i)
