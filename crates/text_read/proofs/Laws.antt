-- Taking a text apart at its separators: the loop of `find`, and the pieces at the place that it gives. Assumes nothing.
use Prim.Native.Nat.{ℕ, suc, ◌+◌, ◌-◌, ◌≤◌, ◌<◌}
use mathlib.Core.Path.{◌≡◌, refl, ap, ◌∙◌}
use mathlib.Core.List.{List, [], ◌∷◌}
use mathlib.Core.Bool.{Bool, true, false, not, cond}
use native.Mathlib.Omega.{arith}
use native.Mathlib.Numerals.{add-one}
use lib.ListN.{length, get_or, take, drop, length-drop}
use lib.Seq.{drop-drop}
use lib.Dec.{eqb, ltb}
use borrow.Author.Tests.{eq-eqb, ne_eqb, ltb-true, ltb-false}
use Rattle.rules.specs.Lists.{lead}
use Rattle.rules.specs.Bytes.{onto, split_on}
use Rattle.text_read.specs.Places.{is_other, up_to}
use Rattle.text_read.proofs.Runs.{lead-more, lead_stop, lead-end, lead_le}

-- ---- `find`'s loop: the invariant is `i + up_to sep (drop i s) ≡ r`

pub found : (s : List ℕ) (sep i r : ℕ) → i + up_to sep (drop i s) ≡ r → get_or s i 0 ≡ sep → i ≡ r
found s sep i r e q = go (ltb i (length s)) refl
  where
    go : (t : Bool) → ltb i (length s) ≡ t → i ≡ r
    go true l = omega (arith, rw (lead_stop (is_other sep) s i 0 (ltb-true i (length s) l) (ap not (eq-eqb _ sep q))) at e)
    go false l = omega (arith, rw (lead-end (is_other sep) s i (ltb-false i (length s) l)) at e)

pub passed : (s : List ℕ) (sep i r : ℕ) → i + up_to sep (drop i s) ≡ r → i < length s → (get_or s i 0 ≡ sep → ⊥) → i + 1 + up_to sep (drop (i + 1) s) ≡ r
passed s sep i r e h q = omega (arith, rw (lead-more (is_other sep) s i 0 h (ap not (ne_eqb _ sep q))) at e)

pub none_left : (s : List ℕ) (sep i r : ℕ) → i + up_to sep (drop i s) ≡ r → length s ≤ i → i ≡ r
none_left s sep i r e h = omega (arith, rw (lead-end (is_other sep) s i h) at e)

-- ---- the pieces of a text, at its first separator

-- a separator: the first piece is what stands before it, and the others are those of what follows it
pub split_more : (sep : ℕ) (s : List ℕ) → up_to sep s < length s → split_on sep s ≡ take (up_to sep s) s ∷ split_on sep (drop (up_to sep s + 1) s)
split_more sep [] h = absurd (omega arith)
split_more sep (x ∷ s) h = go (eqb x sep) h (split_more sep s)
  where
    rest : Bool → List ℕ
    rest t = cond (not t) (x ∷ lead (is_other sep) s) []

    go : (t : Bool) → length (rest t) < suc (length s)
        → (up_to sep s < length s → split_on sep s ≡ take (up_to sep s) s ∷ split_on sep (drop (up_to sep s + 1) s))
        → cond t ([] ∷ split_on sep s) (onto x (split_on sep s)) ≡ take (length (rest t)) (x ∷ s) ∷ split_on sep (drop (length (rest t) + 1) (x ∷ s))
    go true k ih = refl
    go false k ih = rw (ih (omega arith)) (simp add-one)

-- no separator: one piece
pub split_last : (sep : ℕ) (s : List ℕ) → length s ≤ up_to sep s → split_on sep s ≡ s ∷ []
split_last sep [] h = refl
split_last sep (x ∷ s) h = go (eqb x sep) h (split_last sep s)
  where
    go : (t : Bool) → suc (length s) ≤ length (cond (not t) (x ∷ lead (is_other sep) s) []) → (length s ≤ up_to sep s → split_on sep s ≡ s ∷ [])
        → cond t ([] ∷ split_on sep s) (onto x (split_on sep s)) ≡ (x ∷ s) ∷ []
    go true k ih = absurd (omega arith)
    go false k ih = rw (ih (omega arith))

-- ---- what a caller of `find` knows of the place e that it gives from i on

module _ (s : List ℕ) (sep i e : ℕ) (q : e ≡ i + up_to sep (drop i s)) where
  pub found_from : i ≤ e
  found_from = omega arith

  pub found_within : i ≤ length s → e ≤ length s
  found_within h = omega (arith, lead_le (is_other sep) (drop i s), length-drop i s)

  -- the piece from i on ends there, and the others start after it
  pub pieces_next : e < length s → split_on sep (drop i s) ≡ take (e - i) (drop i s) ∷ split_on sep (drop (e + 1) s)
  pieces_next h =
      let k : e - i ≡ up_to sep (drop i s) = omega arith in
      let n : i + (e - i + 1) ≡ e + 1 = omega arith in
      split_more sep (drop i s) (omega (arith, length-drop i s)) ∙ rw (← k, drop-drop (e - i + 1) i s, n)

  -- the piece from i on is the last
  pub pieces-last : length s ≤ e → split_on sep (drop i s) ≡ drop i s ∷ []
  pieces-last h = split_last sep (drop i s) (omega (arith, length-drop i s))
