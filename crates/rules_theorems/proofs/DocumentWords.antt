-- Laws about tests and places that the laws of a document share. Assumes nothing.
use Prim.Native.Nat.{ℕ, suc, ◌+◌, ◌<◌}
use mathlib.Core.Path.{◌≡◌, refl, sym, ap, ap₂, ◌∙◌}
use mathlib.Core.Bool.{Bool, true, false, not, ◌&&◌, ◌||◌, true≢false}
use mathlib.Core.List.{List, [], ◌∷◌}
use native.Mathlib.Omega.{arith}
use lib.Dec.{eqb}
use lib.ListN.{length}
use borrow.Author.Tests.{eqb-true}
use Rattle.rules.specs.Lists.{any, every, place_from}
use Rattle.std.specs.Prelude.{is_some, Some, unwrap_or}
use Rattle.rules.proofs.Truth.{by_case}
pub use Rattle.rules.proofs.Truth.{and_first, and_second}

-- ---- tests

pub or_first : (a b : Bool) → a || b ≡ false → a ≡ false
or_first true b e = e
or_first false b e = refl

pub or_second : (a b : Bool) → a || b ≡ false → b ≡ false
or_second true b e = absurd (true≢false e)
or_second false b e = e

pub or_left : (a : Bool) → a || false ≡ true → a ≡ true
or_left true h = refl
or_left false h = h

pub is_false : (a : Bool) → (a ≡ true → ⊥) → a ≡ false
is_false true h = absurd (h refl)
is_false false h = refl

pub or_else : (a b : Bool) → a || b ≡ true → a ≡ false → b ≡ true
or_else true b h e = absurd (true≢false e)
or_else false b h e = h

-- a test that every number of a list passes is passed by one that is among them
pub passed : (p : ℕ → Bool) (l : List ℕ) (n : ℕ) → every p l ≡ true → any (eqb n) l ≡ true → p n ≡ true
passed p [] n all there = absurd (true≢false (sym there))
passed p (x ∷ l) n all there = go (passed p l n (and_second (p x) (every p l) all)) (eqb n x) refl there
  where
    go : (any (eqb n) l ≡ true → p n ≡ true) → (t : Bool) → eqb n x ≡ t → t || any (eqb n) l ≡ true → p n ≡ true
    go rest true e h = ap p (eqb-true n x e) ∙ and_first (p x) (every p l) all
    go rest false e h = rest h

-- and two tests that no number of the list passes together are not passed by it together
pub exclude : (p q : ℕ → Bool) (l : List ℕ) → every (λ n. not (p n && q n)) l ≡ true
    → (n : ℕ) → any (eqb n) l ≡ true → p n ≡ true → q n ≡ true → ⊥
exclude p q l all n there h k =
    true≢false (sym (passed (λ n. not (p n && q n)) l n all there) ∙ ap₂ (λ (a b : Bool). not (a && b)) h k)

-- ---- places

-- a place that is found lies within the list
pub place_within : {A : Type 0} (p : A → Bool) (l : List A) (n : ℕ) → is_some (place_from n p l) ≡ true → unwrap_or (place_from n p l) 0 < n + length l
place_within p [] n = λ there. absurd (true≢false (sym there))
place_within p (x ∷ l) n =
    by_case (λ o. is_some o ≡ true → unwrap_or o 0 < n + suc (length l)) (p x) (Some n) (place_from (suc n) p l)
    (λ e there. omega arith) (λ e there. omega (arith, place_within p l (suc n) there))
