-- Laws of sums over seconds and over lists: order, exchange, bounds. Assumes nothing.
use Prim.Native.Nat.{ℕ, zero, suc, ◌+◌, ◌*◌, ◌-◌, ◌≤◌, ◌<◌}
use native.Mathlib.Omega.{arith}
use native.Mathlib.Nat.{add-suc, add-zero, max-le}
use mathlib.Core.Path.{◌≡◌, refl, sym, ap₂, subst}
use mathlib.Core.Bool.{Bool, true, false, cond}
use mathlib.Core.List.{List, [], ◌∷◌, ◌++◌}
use lib.Dec.{ltb, eqb}
use lib.ListN.{length, length-append}
use borrow.Author.Tests.{ltb-true, ltb-false, eqb-true, eqb-false, lt-ltb, le-ltb}
use Rattle.rules.specs.Lists.{sum_of}
use Rattle.rules.specs.Energy.{sum_to, max_to}
use Rattle.rules.specs.Verdict.{All}

-- ---- over 0 .. n - 1

pub sum_ext : (f g : ℕ → ℕ) (n : ℕ) → ((i : ℕ) → i < n → f i ≡ g i) → sum_to f n ≡ sum_to g n
sum_ext f g zero h = refl
sum_ext f g (suc n) h = ap₂ ◌+◌ (sum_ext f g n (λ i k. h i (omega arith))) (h n (omega arith))

pub sum_le : (f g : ℕ → ℕ) (n : ℕ) → ((i : ℕ) → i < n → f i ≤ g i) → sum_to f n ≤ sum_to g n
sum_le f g zero h = omega arith
sum_le f g (suc n) h = omega (arith, sum_le f g n (λ i k. h i (omega arith)), h n (omega arith))

pub sum_zero : (f : ℕ → ℕ) (n : ℕ) → ((i : ℕ) → i < n → f i ≡ 0) → sum_to f n ≡ 0
sum_zero f zero h = refl
sum_zero f (suc n) h = omega (arith, sum_zero f n (λ i k. h i (omega arith)), h n (omega arith))

pub sum_add : (f g : ℕ → ℕ) (n : ℕ) → sum_to (λ i. f i + g i) n ≡ sum_to f n + sum_to g n
sum_add f g zero = refl
sum_add f g (suc n) = omega (arith, sum_add f g n)

pub sum_swap : (f : ℕ → ℕ → ℕ) (m n : ℕ) → sum_to (λ a. sum_to (λ b. f a b) n) m ≡ sum_to (λ b. sum_to (λ a. f a b) m) n
sum_swap f zero n = sym (sum_zero (λ b. 0) n (λ i h. refl))
sum_swap f (suc m) n = omega (arith, sum_swap f m n, sum_add (λ b. sum_to (λ a. f a b) m) (λ b. f m b) n)

pub sum_split : (f : ℕ → ℕ) (m n : ℕ) → sum_to f (m + n) ≡ sum_to f m + sum_to (λ i. f (m + i)) n
sum_split f m zero = rw (add-zero m) (omega arith)
sum_split f m (suc n) = rw add-suc (omega (arith, sum_split f m n))

-- a part of a sum is no greater
pub sum_first : (f : ℕ → ℕ) (m n : ℕ) → m ≤ n → sum_to f m ≤ sum_to f n
sum_first f m n h =
    let e : n ≡ m + (n - m) = omega arith in
    subst (λ k. sum_to f m ≤ sum_to f k) (sym e) (omega (arith, sum_split f m (n - m)))

pub sum-part : (f : ℕ → ℕ) (from size n : ℕ) → from + size ≤ n → sum_to (λ i. f (from + i)) size ≤ sum_to f n
sum-part f from size n h =
    omega (arith, sum_split f from size, sum_first f (from + size) n h)

-- a term that stands at one place only
pub sum_once : (u x n : ℕ) → sum_to (λ i. cond (eqb u i) x 0) n ≡ cond (ltb u n) x 0
sum_once u x zero = rw (le-ltb u 0 (omega arith))
sum_once u x (suc n) = go (sum_once u x n) (ltb u n) refl (eqb u n) refl
  where
    go : sum_to (λ i. cond (eqb u i) x 0) n ≡ cond (ltb u n) x 0 → (a : Bool) → ltb u n ≡ a → (b : Bool) → eqb u n ≡ b
        → sum_to (λ i. cond (eqb u i) x 0) n + cond (eqb u n) x 0 ≡ cond (ltb u (suc n)) x 0
    go ih true e true e' = absurd (apart (ltb-true u n e) (eqb-true u n e'))
      where
        apart : u < n → u ≡ n → ⊥
        apart h h' = omega arith
    go ih true e false e' = rw (ih, e, e', lt-ltb u (suc n) (omega (arith, ltb-true u n e))) (omega arith)
    go ih false e true e' = rw (ih, e, e', lt-ltb u (suc n) (omega (arith, eqb-true u n e'))) (omega arith)
    go ih false e false e' = rw (ih, e, e', le-ltb u (suc n) (later (ltb-false u n e) (eqb-false u n e')))
      where
        later : n ≤ u → (u ≡ n → ⊥) → suc n ≤ u
        later h k = omega arith

pub cond_le : (b : Bool) (x : ℕ) → cond b x 0 ≤ x
cond_le true x = omega arith
cond_le false x = omega arith

pub max_le_all : (f : ℕ → ℕ) (b n : ℕ) → ((i : ℕ) → f i ≤ b) → max_to f n ≤ b
max_le_all f b zero h = omega arith
max_le_all f b (suc n) h = max-le (max_le_all f b n h) (h n)

-- ---- over lists

pub list_add : {A : Type 0} (f g : A → ℕ) (xs : List A) → sum_of (λ x. f x + g x) xs ≡ sum_of f xs + sum_of g xs
list_add f g [] = refl
list_add f g (x ∷ xs) = omega (arith, list_add f g xs)

list_zero : {A : Type 0} (xs : List A) → sum_of (λ x. 0) xs ≡ 0
list_zero [] = refl
list_zero (x ∷ xs) = omega (arith, list_zero xs)

-- the two sums change places
pub list_swap : {A : Type 0} (f : A → ℕ → ℕ) (xs : List A) (n : ℕ)
    → sum_to (λ t. sum_of (λ x. f x t) xs) n ≡ sum_of (λ x. sum_to (λ t. f x t) n) xs
list_swap f xs zero = sym (list_zero xs)
list_swap f xs (suc n) = omega (arith, list_swap f xs n, list_add (λ x. sum_to (λ t. f x t) n) (λ x. f x n) xs)

pub list_bound : {A : Type 0} (f : A → ℕ) (b : ℕ) (xs : List A) → All (λ x. f x ≤ b) xs → sum_of f xs ≤ length xs * b
list_bound f b [] h = omega arith
list_bound f b (x ∷ xs) h = omega (arith, h.0, list_bound f b xs h.1)

pub sum-append : {A : Type 0} (f : A → ℕ) (s t : List A) → sum_of f (s ++ t) ≡ sum_of f s + sum_of f t
sum-append f [] t = omega arith
sum-append f (x ∷ s) t = omega (arith, sum-append f s t)

-- one more element
pub sum_more : {A : Type 0} (f : A → ℕ) (s : List A) (x : A) → sum_of f (s ++ x ∷ []) ≡ sum_of f s + f x
sum_more f s x = omega (arith, sum-append f s (x ∷ []))

pub length_more : {A : Type 0} (s : List A) (x : A) → length (s ++ x ∷ []) ≡ length s + 1
length_more s x = length-append s (x ∷ [])

-- a length is a sum of ones
pub sum_ones : {A : Type 0} (xs : List A) → sum_of (λ x. 1) xs ≡ length xs
sum_ones [] = refl
sum_ones (x ∷ xs) = omega (arith, sum_ones xs)
