-- The rows below a text's header, by the place where the header ends. Assumes nothing.
use Prim.Native.Nat.{ℕ, suc, ◌+◌, ◌≤◌, ◌<◌}
use mathlib.Core.Path.{◌≡◌, refl, ap, sym, ◌∙◌}
use mathlib.Core.Bool.{Bool, true, false, cond}
use mathlib.Core.List.{List, [], ◌∷◌}
use native.Mathlib.Omega.{arith}
use lib.Dec.{eqb}
use lib.ListN.{length, drop}
use Rattle.rules.specs.Answers.{refusal, bad_header, refused, Judged}
use Rattle.rules.specs.Bytes.{line_feed, onto, split_on, start_of}
use Rattle.rules.specs.Rows.{heads, headed, rows_from, place_of_row}
use Rattle.rules.proofs.Pieces.{split_cons}
use Rattle.csv_header.specs.Heading.{end_in}

-- the text's second line and those after it start behind the first line's LF
rest_of : (s p q : List ℕ) (ps : List (List ℕ)) → split_on line_feed s ≡ p ∷ q ∷ ps → (split_on line_feed (drop (suc (length p)) s) ≡ q ∷ ps) × (length p < length s)
rest_of [] p q ps e = let z : ◌≡◌ {A = ℕ} 0 1 = cc in absurd (omega arith)
rest_of (b ∷ s) p q ps e = go (eqb b line_feed) (split_cons line_feed s) (rest_of s) e
  where
    go : (t : Bool) → (x : List ℕ) × (more : List (List ℕ)) × (split_on line_feed s ≡ x ∷ more)
        → ((p q : List ℕ) (ps : List (List ℕ)) → split_on line_feed s ≡ p ∷ q ∷ ps → (split_on line_feed (drop (suc (length p)) s) ≡ q ∷ ps) × (length p < length s))
        → cond t ([] ∷ split_on line_feed s) (onto b (split_on line_feed s)) ≡ p ∷ q ∷ ps
        → (split_on line_feed (drop (length p) s) ≡ q ∷ ps) × (length p < suc (length s))
    go true c ih e =
        let nothing : p ≡ [] = cc in
        let rest : split_on line_feed s ≡ q ∷ ps = cc in
        rw nothing (rest, omega arith)
    go false c ih e =
        let whole : (b ∷ c.0) ∷ c.1 ≡ p ∷ q ∷ ps = sym (ap (onto b) c.2) ∙ e in
        let front : p ≡ b ∷ c.0 = cc in
        let back : c.1 ≡ q ∷ ps = cc in
        let w = ih c.0 q ps (c.2 ∙ ap (λ (y : List (List ℕ)). c.0 ∷ y) back) in
        rw front (w.0, omega (arith, w.1))

module _ (names : List (List ℕ)) (text : List ℕ) (from : ℕ) (ends : from ≡ end_in names (split_on line_feed text)) where
  -- another header
  pub headless : {A : Type 0} (file : ℕ) (judge : List A → List ℕ → Judged A) → from ≡ 0 → headed file judge names (split_on line_feed text) ≡ refused (refusal bad_header file 0)
  headless file judge z = go (split_on line_feed text) (sym z ∙ ends)
    where
      go : (ps : List (List ℕ)) → 0 ≡ end_in names ps → headed file judge names ps ≡ refused (refusal bad_header file 0)
      go [] e = refl
      go (p ∷ []) e = refl
      go (p ∷ q ∷ ps) e = by_test (heads names p) e
        where
          by_test : (t : Bool) → 0 ≡ cond t (length p + 1) 0
              → cond t (rows_from file judge (length p + 1) [] (q ∷ ps)) (refused (refusal bad_header file 0)) ≡ refused (refusal bad_header file 0)
          by_test true e = absurd (omega arith)
          by_test false e = refl

  module _ (some_end : from ≡ 0 → ⊥) where
    -- the header's line, and what follows it
    pub record Below : Type 0 where
      pub first : List ℕ
      pub from_is : from ≡ length first + 1
      pub within : from ≤ length text
      pub lines : split_on line_feed text ≡ first ∷ split_on line_feed (drop from text)
      pub is_headed : heads names first ≡ true

    pub below : Below
    below = go (split_on line_feed text) refl ends
      where
        go : (ps : List (List ℕ)) → split_on line_feed text ≡ ps → from ≡ end_in names ps → Below
        go [] e f = absurd (some_end f)
        go (p ∷ []) e f = absurd (some_end f)
        go (p ∷ q ∷ ps) e f = by_test (heads names p) refl f
          where
            by_test : (t : Bool) → heads names p ≡ t → from ≡ cond t (length p + 1) 0 → Below
            by_test true h f =
                let w = rest_of text p q ps e in
                let at : from ≡ suc (length p) = omega arith in
                record {
                  first = p;
                  from_is = f;
                  within = omega (arith, w.1);
                  lines = e ∙ ap (λ (y : List (List ℕ)). p ∷ y) (sym w.0 ∙ ap (λ (x : ℕ). split_on line_feed (drop x text)) (sym at));
                  is_headed = h;
                }
            by_test false h f = absurd (some_end f)

    pub below_within : from ≤ length text
    below_within = below.within

    -- the rows start where the text's rows do
    pub below_rows : (j : ℕ) → place_of_row text (0 + j) ≡ from + start_of j (split_on line_feed (drop from text))
    below_rows j =
        let z : 0 + j ≡ j = omega arith in
        ap (place_of_row text) z ∙ ap (start_of (suc j)) below.lines ∙ omega (arith, below.from_is)

    pub headed-rows : {A : Type 0} (file : ℕ) (judge : List A → List ℕ → Judged A) → headed file judge names (split_on line_feed text) ≡ rows_from file judge from [] (split_on line_feed (drop from text))
    headed-rows file judge = ap (headed file judge names) below.lines ∙ go (split_cons line_feed (drop from text))
      where
        go : (x : List ℕ) × (more : List (List ℕ)) × (split_on line_feed (drop from text) ≡ x ∷ more)
            → headed file judge names (below.first ∷ split_on line_feed (drop from text)) ≡ rows_from file judge from [] (split_on line_feed (drop from text))
        go c =
            rw c.2
            (ap (λ (t : Bool). cond t (rows_from file judge (length below.first + 1) [] (c.0 ∷ c.1)) (refused (refusal bad_header file 0))) below.is_headed
            ∙ ap (λ (x : ℕ). rows_from file judge x [] (c.0 ∷ c.1)) (sym below.from_is))
