-- The pieces of a text by their numbers: where piece k starts, and what it is. Assumes nothing.
use Prim.Native.Nat.{ℕ, zero, suc, ◌+◌, ◌-◌, ◌≤◌, ◌<◌}
use mathlib.Core.Path.{◌≡◌, refl, sym, ap, ◌∙◌}
use mathlib.Core.Bool.{Bool, true, false, cond, ◌&&◌, and-false}
use mathlib.Core.List.{List, [], ◌∷◌}
use native.Mathlib.Omega.{arith}
use lib.Dec.{ltb, eqb}
use lib.ListN.{length, get_or, take, drop, length-drop}
use lib.Seq.{take_all, drop-drop, length-take-le}
use borrow.Author.Tests.{ltb-true, ltb-false, ne_eqb}
use Rattle.rules.specs.Lists.{every}
use Rattle.rules.specs.Bytes.{comma, quote, split_on, start_of, content_of}
use Rattle.text_read.specs.Places.{up_to}
use Rattle.text_read.proofs.Laws.{split_more, split_last, found_within, pieces_next, pieces-last}
use Rattle.rules.specs.Duties.{columns, field_in, quoted_by, place_in}
use Rattle.duties_fields.specs.Fields.{or_empty, sound, ten_from}

start_none : (k : ℕ) → start_of k [] ≡ 0
start_none zero = refl
start_none (suc k) = refl

none_there : (k : ℕ) → get_or {A = List ℕ} [] k [] ≡ []
none_there zero = refl
none_there (suc k) = refl

module _ (sep : ℕ) where
  -- a text has a separator, or is one piece
  by_piece : (P : List (List ℕ) → Type 0) (s : List ℕ)
      → (up_to sep s < length s → P (take (up_to sep s) s ∷ split_on sep (drop (up_to sep s + 1) s))) → (length s ≤ up_to sep s → P (s ∷ [])) → P (split_on sep s)
  by_piece P s more last = go (ltb (up_to sep s) (length s)) refl
    where
      go : (t : Bool) → ltb (up_to sep s) (length s) ≡ t → P (split_on sep s)
      go true e = let l : up_to sep s < length s = ltb-true (up_to sep s) (length s) e in rw (split_more sep s l) (more l)
      go false e = let l : length s ≤ up_to sep s = ltb-false (up_to sep s) (length s) e in rw (split_last sep s l) (last l)

  -- piece k, where there is one, goes from its start to the next separator
  pub piece_at : (k : ℕ) (s : List ℕ) → start_of k (split_on sep s) ≤ length s
      → get_or (split_on sep s) k [] ≡ take (up_to sep (drop (start_of k (split_on sep s)) s)) (drop (start_of k (split_on sep s)) s)
  piece_at zero s h = by_piece (λ ps. get_or ps 0 [] ≡ take (up_to sep s) s) s (λ l. refl) (λ l. sym (take_all (up_to sep s) s l))
  piece_at (suc k) s h =
      by_piece (λ ps. start_of (suc k) ps ≤ length s → get_or ps (suc k) [] ≡ take (up_to sep (drop (start_of (suc k) ps) s)) (drop (start_of (suc k) ps) s)) s
      (λ l g.
      let u = up_to sep s in
      let t = drop (u + 1) s in
      let a = start_of k (split_on sep t) in
      let n : length (take u s) ≡ u = length-take-le u s (omega arith) in
      let m : length (take u s) + 1 + a ≡ u + 1 + a = omega arith in
      let b : length t ≡ length s - (u + 1) = length-drop (u + 1) s in
      let w : drop a t ≡ drop (length (take u s) + 1 + a) s = drop-drop a (u + 1) s ∙ ap (λ (x : ℕ). drop x s) (sym m) in
      piece_at k t (omega arith) ∙ ap (λ (x : List ℕ). take (up_to sep x) x) w)
      (λ l g. absurd (omega arith))
      h

  -- there is none
  pub piece_past : (k : ℕ) (s : List ℕ) → length s < start_of k (split_on sep s) → get_or (split_on sep s) k [] ≡ []
  piece_past zero s h = absurd (omega arith)
  piece_past (suc k) s h =
      by_piece (λ ps. length s < start_of (suc k) ps → get_or ps (suc k) [] ≡ []) s
      (λ l g.
      let u = up_to sep s in
      let t = drop (u + 1) s in
      let n : length (take u s) ≡ u = length-take-le u s (omega arith) in
      let b : length t ≡ length s - (u + 1) = length-drop (u + 1) s in
      piece_past k t (omega arith))
      (λ l g. none_there k)
      h

  -- past the end at most by one
  pub start_bound : (k : ℕ) (s : List ℕ) → start_of k (split_on sep s) ≤ length s + 1
  start_bound zero s = omega arith
  start_bound (suc k) s =
      by_piece (λ ps. start_of (suc k) ps ≤ length s + 1) s
      (λ l.
      let u = up_to sep s in
      let n : length (take u s) ≡ u = length-take-le u s (omega arith) in
      omega (arith, start_bound k (drop (u + 1) s), length-drop (u + 1) s))
      (λ l. omega (arith, start_none k))

-- ---- the loop of `start_of`: the invariant is `at + start_of left (split_on comma (drop at s)) ≡ r`

module _ (s : List ℕ) (at left rest r end : ℕ) (e : at + start_of left (split_on comma (drop at s)) ≡ r) (b : at ≤ length s) (q : end ≡ at + up_to comma (drop at s)) (z : left ≡ rest + 1) where
  one_more : at + start_of (suc rest) (split_on comma (drop at s)) ≡ r
  one_more = let w : suc rest ≡ left = omega arith in ap (λ (x : ℕ). at + start_of x (split_on comma (drop at s))) w ∙ e

  pub start-past : length s ≤ end → length s + 1 ≡ r
  start-past h =
      let g : at + (length (drop at s) + 1 + start_of rest []) ≡ r = rw (pieces-last s comma at end q h) at one_more in
      omega (arith, start_none rest, length-drop at s)

  pub start_next : end < length s → end + 1 + start_of rest (split_on comma (drop (end + 1) s)) ≡ r
  start_next h =
      let g : at + (length (take (end - at) (drop at s)) + 1 + start_of rest (split_on comma (drop (end + 1) s))) ≡ r = rw (pieces_next s comma at end q h) at one_more in
      let n : length (take (end - at) (drop at s)) ≡ end - at = length-take-le (end - at) (drop at s) (omega (arith, length-drop at s)) in
      omega arith

pub start_here : (s : List ℕ) (at left r : ℕ) → at + start_of left (split_on comma (drop at s)) ≡ r → left ≤ 0 → at ≡ r
start_here s at zero r e h = omega arith
start_here s at (suc l) r e h = absurd (omega arith)

-- ---- `field`

module _ (s : List ℕ) (k at : ℕ) (p : at ≡ start_of k (split_on comma s)) where
  pub field_past : length s < at → [] ≡ field_in k s
  field_past h = sym (piece_past comma k s (omega arith))

  module _ (end : ℕ) (q : end ≡ at + up_to comma (drop at s)) (h : at ≤ length s) where
    pub field_within : end ≤ length s
    field_within = found_within s comma at end q h

    pub field_here : take (end - at) (drop at s) ≡ field_in k s
    field_here =
        let n : end - at ≡ up_to comma (drop at s) = omega arith in
        ap (λ (x : ℕ). take x (drop at s)) n
        ∙ ap (λ (x : ℕ). take (up_to comma (drop x s)) (drop x s)) p
        ∙ sym (piece_at comma k s (omega arith))

-- ---- the loop of `is_ten`: the invariant is `ten_from n (split_on comma (drop at s)) ≡ r`

module _ (s : List ℕ) (n at end : ℕ) (r : Bool) (e : ten_from n (split_on comma (drop at s)) ≡ r) (b : at ≤ length s) (q : end ≡ at + up_to comma (drop at s)) where
  abbrev here : List ℕ
  here = take (end - at) (drop at s)

  pub ten_within : end ≤ length s
  ten_within = found_within s comma at end q b

  ten_more : end < length s → sound here && every sound (split_on comma (drop (end + 1) s)) && eqb (n + suc (length (split_on comma (drop (end + 1) s)))) columns ≡ r
  ten_more h = rw (pieces_next s comma at end q h) at e

  whole : length s ≤ end → here ≡ drop at s
  whole h = take_all (end - at) (drop at s) (omega (arith, length-drop at s))

  ten_last : length s ≤ end → sound here && true && eqb (n + 1) columns ≡ r
  ten_last h = rw (whole h) (rw (pieces-last s comma at end q h) at e)

  module _ (t : Bool) (p : t ≡ sound here) where
    pub ten_next : t ≡ true → end < length s → ten_from (n + 1) (split_on comma (drop (end + 1) s)) ≡ r
    ten_next y h =
        let m : n + 1 + length (split_on comma (drop (end + 1) s)) ≡ n + suc (length (split_on comma (drop (end + 1) s))) = omega arith in
        rw (m) (rw (sym p ∙ y) at (ten_more h))

    pub ten_end : t ≡ true → length s ≤ end → eqb (n + 1) columns ≡ r
    ten_end y h = rw (sym p ∙ y) at (ten_last h)

    pub ten_not : t ≡ false → false ≡ r
    ten_not y = go (ltb end (length s)) refl
      where
        go : (u : Bool) → ltb end (length s) ≡ u → false ≡ r
        go true l = rw (sym p ∙ y) at (ten_more (ltb-true end (length s) l))
        go false l = rw (sym p ∙ y) at (ten_last (ltb-false end (length s) l))

-- a text has a piece at least
split_some : (sep : ℕ) (s : List ℕ) → 1 ≤ length (split_on sep s)
split_some sep s = by_piece sep (λ ps. 1 ≤ length ps) s (λ l. omega arith) (λ l. omega arith)

-- more fields than there are columns
pub ten_past : (s : List ℕ) (n at : ℕ) (r : Bool) → ten_from n (split_on comma (drop at s)) ≡ r → columns ≤ n → false ≡ r
ten_past s n at r e h =
    let far : eqb (n + length (split_on comma (drop at s))) columns ≡ false = ne_eqb (n + length (split_on comma (drop at s))) columns (λ q. omega (arith, split_some comma (drop at s))) in
    rw (far, and-false (every sound (split_on comma (drop at s)))) at e

-- ---- `content_at`, `place_at`

pub content_there : (x f g : List ℕ) → x ≡ or_empty (content_of f) → f ≡ g → x ≡ or_empty (content_of g)
content_there x f g e p = e ∙ ap (λ (y : List ℕ). or_empty (content_of y)) p

mark_small : (f : List ℕ) → quoted_by f ≤ 1
mark_small [] = omega arith
mark_small (b ∷ s) = go (eqb b quote)
  where
    go : (t : Bool) → cond t 1 0 ≤ 1
    go true = omega arith
    go false = omega arith

module _ (s : List ℕ) (k at : ℕ) (p : at ≡ start_of k (split_on comma s)) where
  pub place_past : length s < at → at ≡ place_in k s
  place_past h =
      let z : quoted_by (field_in k s) ≡ 0 = ap quoted_by (piece_past comma k s (omega arith)) in
      omega arith

  module _ (f : List ℕ) (q : f ≡ field_in k s) (m : ℕ) (e : m ≡ quoted_by f) where
    pub place_plain : m ≡ 0 → at ≡ place_in k s
    place_plain z = let w : quoted_by f ≡ quoted_by (field_in k s) = ap quoted_by q in omega arith

    pub place_quoted : (m ≡ 0 → ⊥) → at + 1 ≡ place_in k s
    place_quoted z =
        let w : quoted_by f ≡ quoted_by (field_in k s) = ap quoted_by q in
        let o : m ≤ 1 = omega (arith, mark_small f) in
        omega arith
