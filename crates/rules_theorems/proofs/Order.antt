-- The order of ℤ by its test le_z, and what `greatest` and `least` find. Assumes nothing.
use Prim.Native.Nat.{ℕ, zero, suc, ◌≤◌}
use native.Mathlib.Omega.{arith}
use mathlib.Core.Path.{◌≡◌, refl, sym, subst}
use mathlib.Core.Logic.{◌⊎◌, inl, inr, ⊎_elim}
use mathlib.Core.Bool.{Bool, true, false, cond}
use lib.Dec.{T, leb, leb→le, le→leb}
use lib.IntN.{ℤ, pos, negsuc}
use lib.Signed.{le_z}
use borrow.Author.Tests.{leb-true, leb-false}
use Rattle.rules.specs.Energy.{extreme, greatest, least}

le_z_refl : (a : ℤ) → T (le_z a a)
le_z_refl (pos a) = le→leb a a (omega arith)
le_z_refl (negsuc a) = le→leb a a (omega arith)

pub le_z_trans : (a b c : ℤ) → T (le_z a b) → T (le_z b c) → T (le_z a c)
le_z_trans (pos a) (pos b) (pos c) h k = le→leb a c (omega (arith, leb→le a b h, leb→le b c k))
le_z_trans (pos a) (pos b) (negsuc c) h k = absurd k
le_z_trans (pos a) (negsuc b) c h k = absurd h
le_z_trans (negsuc a) b (pos c) h k = tt
le_z_trans (negsuc a) (pos b) (negsuc c) h k = absurd k
le_z_trans (negsuc a) (negsuc b) (negsuc c) h k = le→leb c a (omega (arith, leb→le b a h, leb→le c b k))

pub le_z_total : (a b : ℤ) → le_z a b ≡ false → T (le_z b a)
le_z_total (pos a) (pos b) e = le→leb b a (omega (arith, leb-false a b e))
le_z_total (pos a) (negsuc b) e = tt
le_z_total (negsuc a) (pos b) e = subst T e tt
le_z_total (negsuc a) (negsuc b) e = le→leb a b (omega (arith, leb-false b a e))

-- what a test must keep: le_z does, and le_z turned round
pub record Linear (R : ℤ → ℤ → Bool) : Type 0 where
  pub same : (a : ℤ) → T (R a a)
  pub trans : (a b c : ℤ) → T (R a b) → T (R b c) → T (R a c)
  pub total : (a b : ℤ) → R a b ≡ false → T (R b a)

pub up : Linear le_z
up = record { same = le_z_refl; trans = le_z_trans; total = le_z_total }

pub down : Linear (λ a b. le_z b a)
down = record { same = le_z_refl; trans = λ a b c h k. le_z_trans c b a k h; total = λ a b e. le_z_total b a e }

module _ (R : ℤ → ℤ → Bool) (L : Linear R) where
  -- no value is past it
  pub extreme-past : (f : ℕ → ℤ) (n i : ℕ) → i ≤ n → T (R (f i) (extreme R f n))
  extreme-past f zero i h = subst (λ j. T (R (f j) (f 0))) (sym e) (L.same (f 0))
    where
      e : i ≡ 0
      e = omega arith
  extreme-past f (suc n) i h = go (extreme-past f n i) (R (extreme R f n) (f (suc n))) refl
    where
      last : (x : ℤ) → i ≡ suc n → T (R (f (suc n)) x) → T (R (f i) x)
      last x e t = subst (λ j. T (R (f j) x)) (sym e) t

      split : (i ≤ n) ⊎ (i ≡ suc n)
      split = cut (leb i n) refl
        where
          cut : (b : Bool) → leb i n ≡ b → (i ≤ n) ⊎ (i ≡ suc n)
          cut true e = inl (leb-true i n e)
          cut false e = inr (omega (arith, leb-false i n e))

      go : (i ≤ n → T (R (f i) (extreme R f n))) → (b : Bool) → R (extreme R f n) (f (suc n)) ≡ b
          → T (R (f i) (cond b (f (suc n)) (extreme R f n)))
      go ih true e =
          ⊎_elim (λ k. L.trans (f i) (extreme R f n) (f (suc n)) (ih k) (subst T (sym e) tt))
          (λ k. last (f (suc n)) k (L.same (f (suc n))))
          split
      go ih false e = ⊎_elim ih (λ k. last (extreme R f n) k (L.total (extreme R f n) (f (suc n)) e)) split

  -- it is one of the values
  pub extreme-at : (f : ℕ → ℤ) (n : ℕ) → (i : ℕ) × (i ≤ n) × (extreme R f n ≡ f i)
  extreme-at f zero = (0, omega arith, refl)
  extreme-at f (suc n) = go (extreme-at f n) (R (extreme R f n) (f (suc n)))
    where
      go : ((i : ℕ) × (i ≤ n) × (extreme R f n ≡ f i)) → (b : Bool)
          → (i : ℕ) × (i ≤ suc n) × (cond b (f (suc n)) (extreme R f n) ≡ f i)
      go p true = (suc n, omega arith, refl)
      go p false = (p.0, omega (arith, p.1), p.2)

pub greatest_is : (f : ℕ → ℤ) (n i : ℕ) → i ≤ n → T (le_z (f i) (greatest f n))
greatest_is = extreme-past le_z up

pub least_is : (f : ℕ → ℤ) (n i : ℕ) → i ≤ n → T (le_z (least f n) (f i))
least_is = extreme-past (λ a b. le_z b a) down
