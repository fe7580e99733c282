-- A row's names stand in the text at their places. Assumes nothing.
use Prim.Native.Nat.{ℕ, zero, suc, ◌+◌, ◌-◌, ◌≤◌, min}
use mathlib.Core.Path.{◌≡◌, refl, sym, ap, ◌∙◌}
use mathlib.Core.Bool.{Bool, true, false, cond}
use mathlib.Core.List.{List, [], ◌∷◌}
use native.Mathlib.Omega.{arith}
use lib.Dec.{leb, eqb}
use lib.ListN.{length, take, drop, length-take, length-drop}
use lib.Seq.{take-take, drop-drop, length-take-le}
use borrow.Author.Tests.{leb-true, leb-false}
use Rattle.std.specs.Prelude.{is_some, Option, Some, None}
use Rattle.rules.specs.Limits.{most_text}
use Rattle.rules.specs.Bytes.{comma, split_on, start_of, content_of, carriage_return, less_return}
use Rattle.text_read.specs.Places.{up_to, is_other}
use Rattle.text_read.proofs.Runs.{lead_le}
use Rattle.rules.specs.Duties.{field_in, quoted_by, place_in}
use Rattle.duties_fields.specs.Fields.{or_empty, content_in, part_of}
use Rattle.duties_fields.proofs.Quoted.{Inner, inner}
use Rattle.duties_fields.proofs.Pieces.{piece_at, piece_past}
use Rattle.duties.specs.Steps.{Near}

-- a part of a beginning
pub part_in : (X : List ℕ) (u m n : ℕ) → m + n ≤ u → take n (drop m (take u X)) ≡ take n (drop m X)
part_in X u zero n h = take-take n u X (omega arith)
part_in X zero (suc m) n h = absurd (omega arith)
part_in [] (suc u) (suc m) n h = refl
part_in (x ∷ X) (suc u) (suc m) n h = part_in X u m n (omega arith)

pub record Stands (s : List ℕ) (at : ℕ) (c : List ℕ) : Type 0 where
  pub within : at + length c ≤ length s
  pub is : part_of s at (length c) ≡ c

-- a content that is not empty stands in its line
module _ (line : List ℕ) (k : ℕ) (some_byte : 1 ≤ length (content_in k line)) where
  abbrev f : List ℕ
  f = field_in k line

  abbrev start : ℕ
  start = start_of k (split_on comma line)

  here : start ≤ length line
  here = go (leb start (length line)) refl
    where
      go : (t : Bool) → leb start (length line) ≡ t → start ≤ length line
      go true e = leb-true start (length line) e
      go false e =
          let z : length (content_in k line) ≡ 0 = ap (λ (x : List ℕ). length (or_empty (content_of x))) (piece_past comma k line (leb-false start (length line) e)) in
          absurd (omega arith)

  has : is_some (content_of f) ≡ true
  has = go (content_of f) some_byte
    where
      go : (o : Option (List ℕ)) → 1 ≤ length (or_empty o) → is_some o ≡ true
      go None h = absurd (omega arith)
      go (Some c) h = refl

  abbrev u : ℕ
  u = up_to comma (drop start line)

  cut : f ≡ take u (drop start line)
  cut = piece_at comma k line here

  pub stands : Stands line (place_in k line) (content_in k line)
  stands =
      let m = quoted_by f in
      let i : Inner f m = inner f has in
      let a : u ≤ length (drop start line) = lead_le (is_other comma) (drop start line) in
      let b : length (drop start line) ≡ length line - start = length-drop start line in
      let l : length f ≡ u = ap length cut ∙ length-take-le u (drop start line) a in
      let fits : m + m ≤ length f = i.fits in
      let d : length (drop m f) ≡ length f - m = length-drop m f in
      let n : length (content_in k line) ≡ length f - m - m = sym (ap length i.is) ∙ length-take-le (length f - m - m) (drop m f) (omega arith) in
      let w : m + length (content_in k line) ≤ u = omega arith in
      record {
        within = omega (arith, here);
        is =
            sym (ap (take (length (content_in k line))) (drop-drop m start line))
            ∙ sym (part_in (drop start line) u m (length (content_in k line)) w)
            ∙ ap (λ (x : List ℕ). take (length (content_in k line)) (drop m x)) (sym cut)
            ∙ ap (λ (x : ℕ). take x (drop m f)) n
            ∙ i.is;
      }

-- ---- a line less its CR is a beginning

pub less_front : (s : List ℕ) → less_return s ≡ take (length (less_return s)) s
less_front [] = refl
less_front (b ∷ []) = go (eqb b carriage_return)
  where
    go : (t : Bool) → cond t [] (b ∷ []) ≡ take (length (cond t [] (b ∷ []))) (b ∷ [])
    go true = refl
    go false = refl
less_front (b ∷ c ∷ s) = ap (λ (t : List ℕ). b ∷ t) (less_front (c ∷ s))

-- so the name stands in the text
pub stands_text : (text : List ℕ) (p w : ℕ) (line : List ℕ) → line ≡ less_return (take w (drop p text)) → (at : ℕ) (c : List ℕ) → 1 ≤ length c → Stands line at c → Stands text (p + at) c
stands_text text p w line e at c h i =
    let l = length line in
    let q : line ≡ take l (take w (drop p text)) = e ∙ less_front (take w (drop p text)) ∙ ap (λ (x : List ℕ). take (length x) (take w (drop p text))) (sym e) in
    let a : l ≡ min l (length (take w (drop p text))) = ap length q ∙ length-take l (take w (drop p text)) in
    let b : length (take w (drop p text)) ≡ min w (length (drop p text)) = length-take w (drop p text) in
    let d : length (drop p text) ≡ length text - p = length-drop p text in
    let g : l ≤ w = omega arith in
    let v : at + length c ≤ l = i.within in
    let r : line ≡ take l (drop p text) = q ∙ take-take l w (drop p text) g in
    record {
      within = omega arith;
      is =
          sym (ap (take (length c)) (drop-drop at p text))
          ∙ sym (part_in (drop p text) l at (length c) v)
          ∙ ap (λ (x : List ℕ). take (length c) (drop at x)) (sym r)
          ∙ i.is;
    }

-- ---- `place_in`, `long_in`

module _ (place : ℕ) (line : List ℕ) (k : ℕ) (r : Near place line k) where
  near : Stands line (place_in k line) (content_in k line)
  near = stands line k r.some_byte

  pub near_place : (at : ℕ) → at ≡ place_in k line → place + at ≤ most_text
  near_place at e = omega (arith, near.within, r.short)

  pub near_long : (c : List ℕ) → c ≡ content_in k line → length c ≤ most_text
  near_long c e = let l : length c ≡ length (content_in k line) = ap length e in omega (arith, near.within, r.short)
