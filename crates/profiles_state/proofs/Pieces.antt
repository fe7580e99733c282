-- A text has one piece where its separator does not stand in it, and two or more where it does. Assumes nothing.
use Prim.Native.Nat.{ℕ}
use mathlib.Core.Path.{◌≡◌, refl}
use mathlib.Core.Bool.{Bool, true, false, cond}
use mathlib.Core.List.{List, [], ◌∷◌}
use lib.Dec.{eqb}
use borrow.Author.Tests.{eqb-true}
use Rattle.rules.specs.Lists.{◌>>=◌}
use Rattle.rules.specs.Bytes.{split_on, onto}
use Rattle.std.specs.Prelude.{Option, Some, None}

-- nothing follows from what is missing, whatever was there before
pub then_none : {A B : Type 0} (x : Option A) → ◌≡◌ {A = Option B} (x >>= (λ a. None)) None
then_none None = refl
then_none (Some a) = refl

-- the separator stands in a text
pub data Has (sep : ℕ) : List ℕ → Type 0 where
  here : {s : List ℕ} → Has sep (sep ∷ s)
  later : {b : ℕ} {s : List ℕ} → Has sep s → Has sep (b ∷ s)

-- the pieces of a text: itself alone, or a first, a second and more
pub data Pieces (sep : ℕ) (s : List ℕ) : List (List ℕ) → Type 0 where
  alone : Pieces sep s (s ∷ [])
  several : {p q : List ℕ} {ps : List (List ℕ)} → Has sep s → Pieces sep s (p ∷ q ∷ ps)

longer : {sep b : ℕ} {s : List ℕ} {ps : List (List ℕ)} → Pieces sep s ps → Pieces sep (b ∷ s) (onto b ps)
longer alone = alone
longer (several h) = several (later h)

parted : {sep : ℕ} {s : List ℕ} {ps : List (List ℕ)} → Pieces sep s ps → Pieces sep (sep ∷ s) ([] ∷ ps)
parted alone = several here
parted (several h) = several here

pub pieces_of : (sep : ℕ) (s : List ℕ) → Pieces sep s (split_on sep s)
pieces_of sep [] = alone
pieces_of sep (b ∷ s) = go (pieces_of sep s) (eqb b sep) refl
  where
    go : Pieces sep s (split_on sep s) → (t : Bool) → eqb b sep ≡ t → Pieces sep (b ∷ s) (cond t ([] ∷ split_on sep s) (onto b (split_on sep s)))
    go rest true e = rw (eqb-true b sep e) (parted rest)
    go rest false e = longer rest
