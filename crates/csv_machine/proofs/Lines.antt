-- A text as its lines: each stands before an LF and has none in it, and the last has none behind it. Assumes nothing.
use Prim.Native.Nat.{ℕ}
use mathlib.Core.Path.{◌≡◌, refl}
use mathlib.Core.Bool.{Bool, true, false, cond}
use mathlib.Core.List.{List, [], ◌∷◌, ◌++◌}
use lib.Dec.{eqb}
use borrow.Author.Tests.{eqb-true, eqb-false}
use Rattle.rules.specs.Bytes.{line_feed, onto, split_on}

-- no LF in a line
abbrev pub Unbroken : List ℕ → Type 0
Unbroken [] = Unit {0}
Unbroken (b ∷ line) = (b ≡ line_feed → ⊥) × Unbroken line

-- a text, and its lines
pub data Lines : List ℕ → List (List ℕ) → Type 0 where
  last : {line : List ℕ} → Unbroken line → Lines line (line ∷ [])
  more : {line rest second : List ℕ} {others : List (List ℕ)} → Unbroken line → Lines rest (second ∷ others) → Lines (line ++ line_feed ∷ rest) (line ∷ second ∷ others)

-- a byte in front of the first line
longer : {b : ℕ} {s : List ℕ} {ps : List (List ℕ)} → (b ≡ line_feed → ⊥) → Lines s ps → Lines (b ∷ s) (onto b ps)
longer {b} h (last {line} u) = last {line = b ∷ line} (h, u)
longer {b} h (more {line} u r) = more {line = b ∷ line} (h, u) r

-- an empty line in front
shorter : {s : List ℕ} {ps : List (List ℕ)} → Lines s ps → Lines (line_feed ∷ s) ([] ∷ ps)
shorter (last u) = more {line = []} tt (last u)
shorter (more u r) = more {line = []} tt (more u r)

-- what split_on gives are the lines
pub lines_of : (s : List ℕ) → Lines s (split_on line_feed s)
lines_of [] = last {line = []} tt
lines_of (b ∷ s) = go (lines_of s) (eqb b line_feed) refl
  where
    go : Lines s (split_on line_feed s) → (t : Bool) → eqb b line_feed ≡ t → Lines (b ∷ s) (cond t ([] ∷ split_on line_feed s) (onto b (split_on line_feed s)))
    go rest true e = rw (eqb-true b line_feed e) (shorter rest)
    go rest false e = longer (eqb-false b line_feed e) rest
