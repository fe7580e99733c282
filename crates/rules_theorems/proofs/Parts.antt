-- The parts of a whole number of ℤ: what stands above zero, what below, and its size. Each of a sum is at most the summands' together. Assumes nothing.
use Prim.Native.Nat.{ℕ, zero, suc, ◌+◌, ◌-◌, ◌≤◌}
use native.Mathlib.Omega.{arith}
use mathlib.Core.Path.{◌≡◌, refl, sym, ap, ap₂, ◌∙◌}
use mathlib.Core.Bool.{Bool, true, false, cond}
use mathlib.Core.List.{List, [], ◌∷◌}
use lib.Dec.{ltb}
use lib.IntN.{ℤ, pos, negsuc, ◌+ℤ◌, ◌-ℤ◌, neg_ℤ, nat_abs, sub_ℕ, +ℤ_assoc, +ℤ_comm, +ℤ_idr, +ℤ_invr}
use borrow.Author.Tests.{ltb-true, ltb-false}
use Rattle.rules.specs.Lists.{sum_of}
use Rattle.rules.specs.Energy.{above, below}
use Rattle.rules_theorems.specs.Sized.{sum_of_z}

pub size : (z : ℤ) → nat_abs z ≡ above z + below z
size (pos n) = omega arith
size (negsuc n) = omega arith

-- one part is 0
pub one_sided : (a b : ℕ) → (above (sub_ℕ a b) + b ≡ below (sub_ℕ a b) + a) × (above (sub_ℕ a b) ≤ a)
one_sided a b = go (ltb a b) refl
  where
    go : (c : Bool) → ltb a b ≡ c
        → (above (cond c (negsuc (b - suc a)) (pos (a - b))) + b ≡ below (cond c (negsuc (b - suc a)) (pos (a - b))) + a)
        × (above (cond c (negsuc (b - suc a)) (pos (a - b))) ≤ a)
    go true e = omega (arith, ltb-true a b e)
    go false e = omega (arith, ltb-false a b e)

-- a sum keeps the difference of its parts
pub parts_add : (x y : ℤ) → above (x +ℤ y) + (below x + below y) ≡ below (x +ℤ y) + (above x + above y)
parts_add (pos a) (pos b) = omega arith
parts_add (pos a) (negsuc b) = omega (arith, (one_sided a (suc b)).0)
parts_add (negsuc a) (pos b) = omega (arith, (one_sided b (suc a)).0)
parts_add (negsuc a) (negsuc b) = omega arith

above_add : (x y : ℤ) → above (x +ℤ y) ≤ above x + above y
above_add (pos a) (pos b) = omega arith
above_add (pos a) (negsuc b) = omega (arith, (one_sided a (suc b)).1)
above_add (negsuc a) (pos b) = omega (arith, (one_sided b (suc a)).1)
above_add (negsuc a) (negsuc b) = omega arith

-- a part, as all bounds use it
pub record Part (f : ℤ → ℕ) : Type 0 where
  pub add : (x y : ℤ) → f (x +ℤ y) ≤ f x + f y
  pub small : (z : ℤ) → f z ≤ nat_abs z

pub above-part : Part above
above-part = record { add = above_add; small = λ z. omega (arith, size z) }

pub below-part : Part below
below-part =
    record {
      add = λ x y. omega (arith, parts_add x y, above_add x y);
      small = λ z. omega (arith, size z);
    }

pub size-part : Part nat_abs
size-part =
    record {
      add = λ x y. omega (arith, size x, size y, size (x +ℤ y), above-part.add x y, below-part.add x y);
      small = λ z. omega arith;
    }

pub part_zero : {f : ℤ → ℕ} → Part f → f (pos 0) ≡ 0
part_zero p = omega (arith, p.small (pos 0))

pub size_neg : (z : ℤ) → nat_abs (neg_ℤ z) ≡ nat_abs z
size_neg (pos zero) = refl
size_neg (pos (suc n)) = refl
size_neg (negsuc n) = refl

-- ---- sums and differences

left_comm : (a b c : ℤ) → a +ℤ (b +ℤ c) ≡ b +ℤ (a +ℤ c)
left_comm a b c = sym (+ℤ_assoc a b c) ∙ ap (λ z. z +ℤ c) (+ℤ_comm a b) ∙ +ℤ_assoc b a c

pub interchange : (a b c d : ℤ) → (a +ℤ b) +ℤ (c +ℤ d) ≡ (a +ℤ c) +ℤ (b +ℤ d)
interchange a b c d = simp (+ℤ_assoc, left_comm)

pub sub_of_add : (x y z : ℤ) → x +ℤ y ≡ z → x ≡ z -ℤ y
sub_of_add x y z e =
    sym (+ℤ_idr x) ∙ ap (λ w. x +ℤ w) (sym (+ℤ_invr y)) ∙ sym (+ℤ_assoc x y (neg_ℤ y)) ∙ ap (λ w. w -ℤ y) e

pub add_cancel : (x y z : ℤ) → x +ℤ z ≡ y +ℤ z → x ≡ y
add_cancel x y z e = sub_of_add x z (y +ℤ z) e ∙ sym (sub_of_add y z (y +ℤ z) refl)

pub parts_are : (z : ℤ) → z +ℤ pos (below z) ≡ pos (above z)
parts_are (pos n) = +ℤ_idr (pos n)
parts_are (negsuc n) = +ℤ_comm (negsuc n) (pos (suc n)) ∙ +ℤ_invr (pos (suc n))

-- the same of a list
pub list_parts : {A : Type 0} (f : A → ℤ) (g h : A → ℕ) → ((x : A) → f x +ℤ pos (g x) ≡ pos (h x)) → (xs : List A)
    → sum_of_z f xs +ℤ pos (sum_of g xs) ≡ pos (sum_of h xs)
list_parts f g h e [] = refl
list_parts f g h e (x ∷ xs) =
    interchange (f x) (sum_of_z f xs) (pos (g x)) (pos (sum_of g xs)) ∙ ap₂ ◌+ℤ◌ (e x) (list_parts f g h e xs)
