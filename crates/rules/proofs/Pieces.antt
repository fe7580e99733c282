-- Pieces between separators and texts joined from pieces: each undoes the other; where a piece starts. Assumes nothing.
use Prim.Native.Nat.{ℕ, zero, suc, ◌≤◌}
use mathlib.Core.Path.{◌≡◌, refl, ap, sym, ◌∙◌}
use mathlib.Core.List.{List, [], ◌∷◌, ◌++◌, append_assoc, append-nil}
use mathlib.Core.Bool.{Bool, true, false, cond}
use native.Mathlib.Omega.{arith}
use lib.Dec.{eqb}
use lib.ListN.{length, take, length-append}
use lib.Seq.{take-append-le}
use borrow.Author.Tests.{eqb-true, eqb-false, eq-eqb, ne_eqb}
use Rattle.rules.specs.Lists.{flat}
use Rattle.rules.specs.Bytes.{line_feed, onto, split_on, joined, start_of}
use Rattle.rules.specs.Rows.{place_of_row}
use Rattle.rules.specs.Verdict.{All}
use Rattle.rules.proofs.Truth.{all_append}

-- no byte of a text is the separator
abbrev pub Free : ℕ → List ℕ → Type 0
Free sep = All (λ b. b ≡ sep → ⊥)

-- a piece and the separator that ends it
abbrev pub ended : ℕ → List ℕ → List ℕ
ended sep p = p ++ sep ∷ []

-- ---- a text has one piece at least

-- a text's pieces are a first and others
pub split_cons : (sep : ℕ) (s : List ℕ) → (p : List ℕ) × (ps : List (List ℕ)) × (split_on sep s ≡ p ∷ ps)
split_cons sep [] = ([], [], refl)
split_cons sep (b ∷ s) = go (eqb b sep) (split_cons sep s)
  where
    go : (t : Bool) → (p : List ℕ) × (ps : List (List ℕ)) × (split_on sep s ≡ p ∷ ps)
        → (p : List ℕ) × (ps : List (List ℕ)) × (cond t ([] ∷ split_on sep s) (onto b (split_on sep s)) ≡ p ∷ ps)
    go true c = ([], split_on sep s, refl)
    go false c = (b ∷ c.0, c.1, ap (onto b) c.2)

pub split_not-empty : (sep : ℕ) (s : List ℕ) → split_on sep s ≡ [] → ⊥
split_not-empty sep s e = let z : ◌≡◌ {A = ℕ} 0 1 = cc (split_cons sep s).2 in omega arith

-- ---- splitting what was joined

-- up to the first separator
pub split_front : (sep : ℕ) (p s : List ℕ) → Free sep p → split_on sep (p ++ sep ∷ s) ≡ p ∷ split_on sep s
split_front sep [] s h = rw (eq-eqb sep sep refl)
split_front sep (b ∷ p) s h = rw (ne_eqb b sep h.0, split_front sep p s h.1)

-- a text with no separator is one piece
pub split_alone : (sep : ℕ) (p : List ℕ) → Free sep p → split_on sep p ≡ p ∷ []
split_alone sep [] h = refl
split_alone sep (b ∷ p) h = rw (ne_eqb b sep h.0, split_alone sep p h.1)

-- one or more pieces, none with the separator in it, are the pieces of what they are joined to
pub split_joined : (sep : ℕ) (p : List ℕ) (ps : List (List ℕ)) → All (Free sep) (p ∷ ps) → split_on sep (joined sep (p ∷ ps)) ≡ p ∷ ps
split_joined sep p [] h = split_alone sep p h.0
split_joined sep p (q ∷ ps) h = split_front sep p (joined sep (q ∷ ps)) h.0 ∙ ap (λ (r : List (List ℕ)). p ∷ r) (split_joined sep q ps h.1)

-- pieces that are each ended by the separator, and then nothing
pub split_ended : (sep : ℕ) (ps : List (List ℕ)) → All (Free sep) ps → split_on sep (flat (ended sep) ps) ≡ ps ++ [] ∷ []
split_ended sep [] h = refl
split_ended sep (p ∷ ps) h =
    rw (append_assoc p (sep ∷ []) (flat (ended sep) ps)) (split_front sep p (flat (ended sep) ps) h.0 ∙ ap (λ (r : List (List ℕ)). p ∷ r) (split_ended sep ps h.1))

-- lines that are each ended by LF are a text's pieces, and a last empty one
split_lines : (lines : List (List ℕ)) → All (Free line_feed) lines → split_on line_feed (flat (ended line_feed) lines) ≡ lines ++ [] ∷ []
split_lines = split_ended line_feed

-- ---- joining what was split

joined-onto : (sep b : ℕ) (p : List ℕ) (ps : List (List ℕ)) → joined sep ((b ∷ p) ∷ ps) ≡ b ∷ joined sep (p ∷ ps)
joined-onto sep b p [] = refl
joined-onto sep b p (q ∷ ps) = refl

-- a text is its pieces joined
pub joined_split : (sep : ℕ) (s : List ℕ) → joined sep (split_on sep s) ≡ s
joined_split sep [] = refl
joined_split sep (b ∷ s) = go (eqb b sep) refl (split_cons sep s) (joined_split sep s)
  where
    go : (t : Bool) → eqb b sep ≡ t → (p : List ℕ) × (ps : List (List ℕ)) × (split_on sep s ≡ p ∷ ps) → joined sep (split_on sep s) ≡ s
        → joined sep (cond t ([] ∷ split_on sep s) (onto b (split_on sep s))) ≡ b ∷ s
    go true e c ih = rw (c.2, eqb-true b sep e) (ap (λ (r : List ℕ). sep ∷ r) (rw c.2 at ih))
    go false e c ih = rw c.2 (joined-onto sep b c.0 c.1 ∙ ap (λ (r : List ℕ). b ∷ r) (rw c.2 at ih))

-- pieces and an empty last one: each piece is ended by the separator
pub joined_ended : (sep : ℕ) (ps : List (List ℕ)) → joined sep (ps ++ [] ∷ []) ≡ flat (ended sep) ps
joined_ended sep [] = refl
joined_ended sep (p ∷ []) = sym (append-nil (ended sep p))
joined_ended sep (p ∷ q ∷ ps) = rw (append_assoc p (sep ∷ []) (flat (ended sep) (q ∷ ps))) (ap (λ (r : List ℕ). p ++ sep ∷ r) (joined_ended sep (q ∷ ps)))

-- no piece has the separator in it
pub split_free : (sep : ℕ) (s : List ℕ) → All (Free sep) (split_on sep s)
split_free sep [] = (tt, tt)
split_free sep (b ∷ s) = go (eqb b sep) refl (split_cons sep s) (split_free sep s)
  where
    go : (t : Bool) → eqb b sep ≡ t → (p : List ℕ) × (ps : List (List ℕ)) × (split_on sep s ≡ p ∷ ps) → All (Free sep) (split_on sep s)
        → All (Free sep) (cond t ([] ∷ split_on sep s) (onto b (split_on sep s)))
    go true e c ih = (tt, ih)
    go false e c ih = rw c.2 (let k : All (Free sep) (c.0 ∷ c.1) = rw c.2 at ih in ((eqb-false b sep e, k.0), k.1))

-- joined pieces have a byte in them only where a piece has it, or it is the separator
pub joined_free : (sep other : ℕ) (ps : List (List ℕ)) → (sep ≡ other → ⊥) → All (Free other) ps → Free other (joined sep ps)
joined_free sep other [] n h = tt
joined_free sep other (p ∷ []) n h = h.0
joined_free sep other (p ∷ q ∷ ps) n h =
    all_append (λ (b : ℕ). b ≡ other → ⊥) p (sep ∷ joined sep (q ∷ ps)) h.0 (n, joined_free sep other (q ∷ ps) n h.1)

-- ---- where a piece starts

-- what is in front of a piece: the pieces before it, each ended by the separator
start-length : (sep k : ℕ) (ps : List (List ℕ)) → k ≤ length ps → start_of k ps ≡ length (flat (ended sep) (take k ps))
start-length sep zero ps h = refl
start-length sep (suc k) [] h = absurd (omega arith)
start-length sep (suc k) (p ∷ ps) h = simp length-append (rw (start-length sep k ps (omega arith)))

-- ---- where a row starts

-- row i of a text of a first line and lines starts after them all up to it
pub row-start : (first : List ℕ) (lines : List (List ℕ)) (i : ℕ) → All (Free line_feed) (first ∷ lines) → i ≤ length lines
    → place_of_row (flat (ended line_feed) (first ∷ lines)) i ≡ length (flat (ended line_feed) (first ∷ take i lines))
row-start first lines i h l =
    rw (split_lines (first ∷ lines) h)
    (start-length line_feed (suc i) (first ∷ lines ++ [] ∷ []) (rw (length-append lines ([] ∷ [])) (omega arith)) ∙ rw (take-append-le i lines ([] ∷ []) l))
