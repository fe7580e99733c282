-- A field's content by the places of its first two quotes. Assumes nothing.
use Prim.Native.Nat.{ℕ, suc, ◌+◌, ◌-◌, ◌≤◌, ◌<◌}
use mathlib.Core.Path.{◌≡◌, refl, sym, ap, ap₂, ◌∙◌}
use mathlib.Core.Bool.{Bool, true, false, not, cond, true≢false}
use mathlib.Core.List.{List, [], ◌∷◌}
use native.Mathlib.Omega.{arith}
use lib.Dec.{leb, eqb}
use lib.ListN.{length, take, drop, length-drop, length-take, drop_of_length-le}
use lib.Seq.{take_all}
use borrow.Author.Tests.{eqb-true, eqb-false, leb-true, leb-false}
use Rattle.rules.specs.Lists.{lead}
use Rattle.std.specs.Prelude.{is_some, Option, Some, None}
use Rattle.rules.specs.Bytes.{quote, split_on, onto, between, content_of}
use Rattle.text_read.specs.Places.{up_to, is_other}
use Rattle.text_read.proofs.Laws.{split_more, split_last}
use Rattle.rules.specs.Duties.{quoted_by}
use Rattle.duties_fields.specs.Fields.{or_empty}

-- ---- how many pieces there are

-- never none
one_piece : (P : List (List ℕ) → Type 0) (sep : ℕ) (s : List ℕ) → ((p : List ℕ) (ps : List (List ℕ)) → P (p ∷ ps)) → P (split_on sep s)
one_piece P sep [] k = k [] []
one_piece P sep (b ∷ s) k = go (eqb b sep) (split_on sep s)
  where
    go : (t : Bool) (ps : List (List ℕ)) → P (cond t ([] ∷ ps) (onto b ps))
    go true ps = k [] ps
    go false [] = k (b ∷ []) []
    go false (p ∷ ps) = k (b ∷ p) ps

between_late : (b : ℕ) (p : List ℕ) (ps : List (List ℕ)) (q : List ℕ) → between ((b ∷ p) ∷ q ∷ ps) ≡ None
between_late b p [] q = refl
between_late b p (r ∷ []) q = refl
between_late b p (r ∷ x ∷ more) q = refl

between_more : (q : List ℕ) (b : ℕ) (r : List ℕ) (ps : List (List ℕ)) → between ([] ∷ q ∷ (b ∷ r) ∷ ps) ≡ None
between_more q b r [] = refl
between_more q b r (x ∷ ps) = refl

between-four : (q : List ℕ) (ps : List (List ℕ)) (r : List ℕ) (x : List ℕ) → between ([] ∷ q ∷ r ∷ x ∷ ps) ≡ None
between-four q ps r x = refl

-- something stands behind the second quote
behind : (q s : List ℕ) → 0 < length s → between ([] ∷ q ∷ split_on quote s) ≡ None
behind q [] h = absurd (omega arith)
behind q (b ∷ s) h = go (eqb b quote)
  where
    go : (t : Bool) → between ([] ∷ q ∷ cond t ([] ∷ split_on quote s) (onto b (split_on quote s))) ≡ None
    go true = one_piece (λ ps. between ([] ∷ q ∷ [] ∷ ps) ≡ None) quote s (λ p ps. refl)
    go false = one_piece (λ ps. between ([] ∷ q ∷ onto b ps) ≡ None) quote s (λ p ps. between_more q b p ps)

-- ---- no quote

module _ (f : List ℕ) where
  plain_content : length f ≤ up_to quote f → content_of f ≡ Some f
  plain_content h = ap between (split_last quote f h)

  -- a quote that is not the first byte
  late_content : up_to quote f < length f → (up_to quote f ≡ 0 → ⊥) → content_of f ≡ None
  late_content h k = go (take (up_to quote f) f) refl
    where
      long : length (take (up_to quote f) f) ≡ up_to quote f
      long = simp length-take (omega arith)

      go : (p : List ℕ) → take (up_to quote f) f ≡ p → content_of f ≡ None
      go [] e = absurd (k (sym long ∙ ap length e))
      go (b ∷ p) e =
          ap between (split_more quote f h ∙ ap (λ (x : List ℕ). x ∷ split_on quote (drop (up_to quote f + 1) f)) e)
          ∙ one_piece (λ ps. between ((b ∷ p) ∷ ps) ≡ None) quote (drop (up_to quote f + 1) f) (λ q ps. between_late b p ps q)

-- ---- a quote first, and then g

module _ (g : List ℕ) where
  opened : content_of (quote ∷ g) ≡ between ([] ∷ split_on quote g)
  opened = refl

  unclosed : length g ≤ up_to quote g → content_of (quote ∷ g) ≡ None
  unclosed h = ap (λ (ps : List (List ℕ)). between ([] ∷ ps)) (split_last quote g h)

  closed : up_to quote g + 1 ≡ length g → content_of (quote ∷ g) ≡ Some (take (up_to quote g) g)
  closed h =
      ap (λ (ps : List (List ℕ)). between ([] ∷ ps)) (split_more quote g (omega arith))
      ∙ ap (λ (s : List ℕ). between ([] ∷ take (up_to quote g) g ∷ split_on quote s)) (drop_of_length-le g {i = up_to quote g + 1} (omega arith))

  followed : up_to quote g + 1 < length g → content_of (quote ∷ g) ≡ None
  followed h =
      ap (λ (ps : List (List ℕ)). between ([] ∷ ps)) (split_more quote g (omega arith))
      ∙ behind (take (up_to quote g) g) (drop (up_to quote g + 1) g) (simp length-drop (omega arith))

  shut : (up_to quote g + 1 ≡ length g → ⊥) → content_of (quote ∷ g) ≡ None
  shut h = go (leb (length g) (up_to quote g)) refl
    where
      go : (t : Bool) → leb (length g) (up_to quote g) ≡ t → content_of (quote ∷ g) ≡ None
      go true e = unclosed (leb-true (length g) (up_to quote g) e)
      go false e = let l : up_to quote g < length g = leb-false (length g) (up_to quote g) e in followed (ne_lt l h)
        where
          ne_lt : {a b : ℕ} → a < b → (a + 1 ≡ b → ⊥) → a + 1 < b
          ne_lt l n = omega arith

  pair : eqb (up_to quote g + 1) (length g) ≡ is_some (content_of (quote ∷ g))
  pair = go (eqb (up_to quote g + 1) (length g)) refl
    where
      go : (t : Bool) → eqb (up_to quote g + 1) (length g) ≡ t → t ≡ is_some (content_of (quote ∷ g))
      go true e = sym (ap is_some (closed (eqb-true (up_to quote g + 1) (length g) e)))
      go false e = sym (ap is_some (shut (eqb-false (up_to quote g + 1) (length g) e)))

-- ---- as `is_content` has it

module _ (f : List ℕ) (first : ℕ) (e : first ≡ 0 + up_to quote (drop 0 f)) where
  pub is_plain : length f ≤ first → true ≡ is_some (content_of f)
  is_plain h = sym (ap is_some (plain_content f (omega arith)))

  pub is_late : first < length f → (first ≡ 0 → ⊥) → false ≡ is_some (content_of f)
  is_late h k = sym (ap is_some (late_content f (omega arith) (λ z. k (e ∙ omega arith))))

pub is_pair : (f : List ℕ) (first : ℕ) → first ≡ 0 + up_to quote (drop 0 f) → first < length f → first ≡ 0 → (second : ℕ) → second ≡ 1 + up_to quote (drop 1 f)
    → eqb second (length f - 1) ≡ is_some (content_of f)
is_pair [] first e h z second q = absurd (omega arith)
is_pair (b ∷ g) first e h z second q = go (eqb b quote) refl e
  where
    go : (t : Bool) → eqb b quote ≡ t → first ≡ 0 + length (cond (not t) (b ∷ lead (is_other quote) g) []) → eqb second (length (b ∷ g) - 1) ≡ is_some (content_of (b ∷ g))
    go false p r = absurd (omega arith)
    go true p r =
        let w : b ≡ quote = eqb-true b quote p in
        let n : second ≡ up_to quote g + 1 = omega arith in
        let l : suc (length g) - 1 ≡ length g = omega arith in
        ap₂ eqb n l ∙ pair g ∙ ap (λ (x : ℕ). is_some (content_of (x ∷ g))) (sym w)

-- ---- the content as a part of the field

pub record Inner (f : List ℕ) (m : ℕ) : Type 0 where
  pub fits : m + m ≤ length f
  pub is : take (length f - m - m) (drop m f) ≡ or_empty (content_of f)

pub inner : (f : List ℕ) → is_some (content_of f) ≡ true → Inner f (quoted_by f)
inner [] h = record { fits = omega arith; is = refl }
inner (b ∷ g) h = go (eqb b quote) refl
  where
    go : (t : Bool) → eqb b quote ≡ t → Inner (b ∷ g) (cond t 1 0)
    go true p = on (eqb (up_to quote g + 1) (length g)) refl
      where
        w : b ≡ quote
        w = eqb-true b quote p

        on : (u : Bool) → eqb (up_to quote g + 1) (length g) ≡ u → Inner (b ∷ g) 1
        on true e =
            let l : up_to quote g + 1 ≡ length g = eqb-true (up_to quote g + 1) (length g) e in
            let n : suc (length g) - 1 - 1 ≡ up_to quote g = omega arith in
            record {
              fits = omega arith;
              is = ap (λ (x : ℕ). take x g) n ∙ sym (ap or_empty (ap (λ (x : ℕ). content_of (x ∷ g)) w ∙ closed g l));
            }
        on false e =
            absurd (true≢false (sym h ∙ ap (λ (x : ℕ). is_some (content_of (x ∷ g))) w ∙ ap is_some (shut g (eqb-false (up_to quote g + 1) (length g) e))))
    go false p = on (leb (suc (length g)) (up_to quote (b ∷ g))) refl
      where
        some_before : up_to quote (b ∷ g) ≡ suc (up_to quote g)
        some_before = ap (λ (t : Bool). length (cond (not t) (b ∷ lead (is_other quote) g) [])) p

        on : (u : Bool) → leb (suc (length g)) (up_to quote (b ∷ g)) ≡ u → Inner (b ∷ g) 0
        on true e =
            let n : suc (length g) - 0 - 0 ≡ suc (length g) = omega arith in
            record {
              fits = omega arith;
              is =
                  ap (λ (x : ℕ). take x (b ∷ g)) n
                  ∙ take_all (suc (length g)) (b ∷ g) (omega arith)
                  ∙ sym (ap or_empty (plain_content (b ∷ g) (leb-true (suc (length g)) (up_to quote (b ∷ g)) e)));
            }
        on false e =
            absurd
            (true≢false
            (sym h ∙ ap is_some (late_content (b ∷ g) (leb-false (suc (length g)) (up_to quote (b ∷ g)) e) (λ z. absurd (omega (arith, some_before))))))

-- as `content` has it
module _ (f : List ℕ) (t : Bool) (p : t ≡ is_some (content_of f)) where
  pub content_none : t ≡ false → [] ≡ or_empty (content_of f)
  content_none n = go (content_of f) (sym p ∙ n)
    where
      go : (o : Option (List ℕ)) → is_some o ≡ false → [] ≡ or_empty o
      go None e = refl
      go (Some c) e = absurd (true≢false e)

  module _ (y : t ≡ true) (m : ℕ) (q : m ≡ quoted_by f) where
    here : Inner f m
    here = rw q (inner f (sym p ∙ y))

    pub content_from : m ≤ length f
    content_from = omega (arith, here.fits)

    pub content_fits : m ≤ length f - m
    content_fits = omega (arith, here.fits)

    pub content_is : take (length f - m - m) (drop m f) ≡ or_empty (content_of f)
    content_is = here.is
