-- What may be missing: laws of what follows from it. Assumes nothing.
use Prim.Native.Nat.{ℕ}
use mathlib.Core.Path.{◌≡◌, refl}
use native.Mathlib.Omega.{arith}
use Rattle.rules.specs.Lists.{◌>>=◌}
use Rattle.std.specs.Prelude.{Option, Some, None}

pub then_none : {A B : Type 0} (x : Option A) → ◌>>=◌ {B = B} x (λ a. None) ≡ None
then_none None = refl
then_none (Some a) = refl

pub then_same : {A B : Type 0} (x : Option A) (f g : A → Option B) → ((a : A) → f a ≡ g a) → (x >>= f) ≡ (x >>= g)
then_same None f g h = refl
then_same (Some a) f g h = h a

pub then_then : {A B C : Type 0} (x : Option A) (f : A → Option B) (g : B → Option C) → ((x >>= f) >>= g) ≡ (x >>= (λ a. f a >>= g))
then_then None f g = refl
then_then (Some a) f g = refl

-- neither of two waits for the other
pub then_swap : {A B C : Type 0} (x : Option A) (y : Option B) (f : A → B → Option C) → (x >>= (λ a. y >>= (λ b. f a b))) ≡ (y >>= (λ b. x >>= (λ a. f a b)))
then_swap None None f = refl
then_swap None (Some b) f = refl
then_swap (Some a) None f = refl
then_swap (Some a) (Some b) f = refl

-- where something follows, nothing was missing
pub never : {A : Type 0} {B : Type 0} (x : A) → None ≡ Some x → B
never x e = let z : ◌≡◌ {A = ℕ} 0 1 = cc in absurd (omega arith)

pub given : {A B : Type 0} (x : Option A) (f : A → Option B) (y : B) → (x >>= f) ≡ Some y → (a : A) × (x ≡ Some a) × (f a ≡ Some y)
given None f y e = never y e
given (Some a) f y e = (a, refl, e)
