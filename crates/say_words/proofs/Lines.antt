-- The lines of a text, found one after the other: what is left from a line's start on has the lines that are left. Assumes nothing.
use Prim.Native.Nat.{ℕ, zero, suc, ◌+◌, ◌-◌, ◌≤◌, ◌<◌}
use native.Mathlib.Omega.{arith}
use native.Mathlib.Nat.{sub-zero}
use mathlib.Core.Path.{◌≡◌, refl, ap, sym, ◌∙◌}
use mathlib.Core.Bool.{Bool, true, false}
use mathlib.Core.List.{List, [], ◌∷◌}
use lib.ListN.{length, get_or, take, drop, length-drop}
use lib.Seq.{drop-drop, take_all}
use lib.Dec.{ltb}
use borrow.Author.Tests.{ltb-true, ltb-false}
use Rattle.rules.specs.Bytes.{split_on}
use Rattle.text_read.specs.Places.{is_other, up_to}
use Rattle.rules.proofs.Lists.{lead_within}
use Rattle.text_read.proofs.Laws.{split_more, split_last}

-- where i lines are passed, line k - i from a place on is line k of the whole
pub record Left (sep : ℕ) (s : List ℕ) (k start i : ℕ) : Type 0 where
  pub within : start ≤ length s
  pub is : get_or (split_on sep (drop start s)) (k - i) [] ≡ get_or (split_on sep s) k []

pub left_all : (sep : ℕ) (s : List ℕ) (k : ℕ) → Left sep s k 0 0
left_all sep s k = record { within = omega arith; is = ap (λ (n : ℕ). get_or (split_on sep s) n []) (sub-zero k) }

-- the first line
first-line : (sep : ℕ) (s : List ℕ) → take (up_to sep s) s ≡ get_or (split_on sep s) 0 []
first-line sep s = go (ltb (up_to sep s) (length s)) refl
  where
    go : (b : Bool) → ltb (up_to sep s) (length s) ≡ b → take (up_to sep s) s ≡ get_or (split_on sep s) 0 []
    go true e = ap (λ (ps : List (List ℕ)). get_or ps 0 []) (sym (split_more sep s (ltb-true (up_to sep s) (length s) e)))
    go false e =
        let h : length s ≤ up_to sep s = ltb-false (up_to sep s) (length s) e in
        take_all (up_to sep s) s h ∙ ap (λ (ps : List (List ℕ)). get_or ps 0 []) (sym (split_last sep s h))

-- behind the first line
behind_first : (p : List ℕ) (ps : List (List ℕ)) (left : ℕ) → 0 < left → get_or (p ∷ ps) left [] ≡ get_or ps (left - 1) []
behind_first p ps zero h = absurd (omega arith)
behind_first p ps (suc left) h = let e : suc left - 1 ≡ left = omega arith in rw e

module _ {sep : ℕ} {s : List ℕ} {k start i end : ℕ} (inv : Left sep s k start i) (found : end ≡ start + up_to sep (drop start s)) where
  abbrev rest : List ℕ
  rest = drop start s

  abbrev left : ℕ
  left = k - i

  pub left_end : end ≤ length s
  left_end = omega (arith, lead_within (is_other sep) rest, length-drop start s, inv.within)

  -- past a separator one line fewer is left
  pub left_next : end < length s → i < k → Left sep s k (end + 1) (i + 1)
  left_next h l =
      let one : k - (i + 1) ≡ left - 1 = omega arith in
      let short : up_to sep rest < length rest = rw (length-drop start s) (omega arith) in
      let next : start + (up_to sep rest + 1) ≡ end + 1 = omega arith in
      let e : drop (up_to sep rest + 1) rest ≡ drop (end + 1) s = drop-drop (up_to sep rest + 1) start s ∙ ap (λ (n : ℕ). drop n s) next in
      record {
        within = omega arith;
        is =
            ap (λ (n : ℕ). get_or (split_on sep (drop (end + 1) s)) n []) one
            ∙ sym
            (ap (λ (ps : List (List ℕ)). get_or ps left []) (split_more sep rest short)
            ∙ behind_first (take (up_to sep rest) rest) (split_on sep (drop (up_to sep rest + 1) rest)) left (omega arith)
            ∙ ap (λ (r : List ℕ). get_or (split_on sep r) (left - 1) []) e)
            ∙ inv.is;
      }

  -- no separator: no line is left
  pub left-none : length s ≤ end → i < k → [] ≡ get_or (split_on sep s) k []
  left-none h l =
      let long : length rest ≤ up_to sep rest = rw (length-drop start s) (omega arith) in
      sym (ap (λ (ps : List (List ℕ)). get_or ps left []) (split_last sep rest long) ∙ behind_first rest [] left (omega arith)) ∙ inv.is

  -- none is left before it: it stands up to the next separator
  pub left_here : k ≤ i → take (end - start) rest ≡ get_or (split_on sep s) k []
  left_here l =
      let z : left ≡ 0 = omega arith in
      let e : end - start ≡ up_to sep rest = omega arith in
      rw e (first-line sep rest) ∙ ap (λ (n : ℕ). get_or (split_on sep rest) n []) (sym z) ∙ inv.is
