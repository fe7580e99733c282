-- Tests that hold, as facts: conjunctions, tests of every element, options and answers under a test. Assumes nothing.
use mathlib.Core.Path.{◌≡◌, refl, sym, subst}
use mathlib.Core.Bool.{Bool, true, false, cond, ◌&&◌, true≢false}
use mathlib.Core.List.{List, [], ◌∷◌, ◌++◌}
use Prim.Native.Nat.{ℕ}
use native.Mathlib.Omega.{arith}
use lib.Dec.{T, eqb}
use borrow.Author.Tests.{eq-eqb, ne_eqb, eqb-true, eqb-false}
use Rattle.rules.specs.Lists.{◌>>=◌, every}
use Rattle.rules.specs.Verdict.{All}
use Rattle.std.specs.Prelude.{Option, Some, None}

pub is_true : (t : Bool) → T t → t ≡ true
is_true true h = refl
is_true false h = absurd h

pub holds : (t : Bool) → t ≡ true → T t
holds t e = subst T (sym e) tt

-- what holds in both cases of a test
pub by_case : {A : Type 0} (P : A → Type 0) (t : Bool) (x y : A) → (t ≡ true → P x) → (t ≡ false → P y) → P (cond t x y)
by_case P true x y p q = p refl
by_case P false x y p q = q refl

-- ---- both of two tests

pub and_both : (a b : Bool) → T (a && b) → T a × T b
and_both true b h = (tt, h)
and_both false b h = absurd h

pub both_and : (a b : Bool) → T a → T b → T (a && b)
both_and true b h k = k
both_and false b h k = absurd h

pub and_first : (a b : Bool) → a && b ≡ true → a ≡ true
and_first true b e = refl
and_first false b e = e

pub and_second : (a b : Bool) → a && b ≡ true → b ≡ true
and_second true b e = e
and_second false b e = absurd (true≢false (sym e))

pub and_true : (a : Bool) → a && true ≡ a
and_true true = refl
and_true false = refl

-- ---- a number is another

pub eqb_swap : (a b : ℕ) → eqb a b ≡ eqb b a
eqb_swap a b = go (eqb a b) refl
  where
    go : (t : Bool) → eqb a b ≡ t → t ≡ eqb b a
    go true e = sym (eq-eqb b a (sym (eqb-true a b e)))
    go false e = sym (ne_eqb b a (λ q. eqb-false a b e (sym q)))

-- ---- every element

pub all_append : {A : Type 0} (P : A → Type 0) (s t : List A) → All P s → All P t → All P (s ++ t)
all_append P [] t h k = k
all_append P (x ∷ s) t h k = (h.0, all_append P s t h.1 k)

pub all_front : {A : Type 0} (P : A → Type 0) (s t : List A) → All P (s ++ t) → All P s
all_front P [] t h = tt
all_front P (x ∷ s) t h = (h.0, all_front P s t h.1)

pub all_map : {A : Type 0} (P Q : A → Type 0) → ((x : A) → P x → Q x) → (s : List A) → All P s → All Q s
all_map P Q f [] h = tt
all_map P Q f (x ∷ s) h = (f x h.0, all_map P Q f s h.1)

pub every_all : {A : Type 0} (p : A → Bool) (s : List A) → T (every p s) → All (λ x. T (p x)) s
every_all p [] h = tt
every_all p (x ∷ s) h = let k : T (p x) × T (every p s) = and_both (p x) (every p s) h in (k.0, every_all p s k.1)

-- ---- what may be missing

-- nothing is not something
pub missing : {A B : Type 0} (y : A) → None ≡ Some y → B
missing y e = let z : ◌≡◌ {A = ℕ} 0 1 = cc in absurd (omega arith)

-- something under a test: the test holds
pub under-test : {A : Type 0} (t : Bool) (x y : A) → cond t (Some x) None ≡ Some y → T t × (x ≡ y)
under-test true x y e = (tt, cc)
under-test false x y e = missing y e

-- something that follows from what may be missing: that is there
pub found_first : {A B : Type 0} (o : Option A) (k : A → Option B) (y : B) → (o >>= k) ≡ Some y → (x : A) × (o ≡ Some x) × (k x ≡ Some y)
found_first None k y e = missing y e
found_first (Some x) k y e = (x, refl, e)
