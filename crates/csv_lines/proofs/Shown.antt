-- When a row starts at a place, and what is shown of it. Assumes nothing.
use Prim.Native.Nat.{ℕ, zero, suc, ◌+◌, ◌-◌, ◌≤◌, ◌<◌}
use native.Mathlib.Omega.{arith}
use mathlib.Core.Path.{◌≡◌, refl, sym, ap, ◌∙◌}
use mathlib.Core.Bool.{Bool, true, false, cond, ◌&&◌, and-false, true≢false}
use mathlib.Core.List.{List, [], ◌∷◌, ◌++◌, append_assoc}
use borrow.Author.Tests.{ltb-true, lt-ltb, le-ltb, eq-eqb, ne_eqb}
use lib.Dec.{ltb, eqb}
use lib.ListN.{length, take, drop, get_or, length-drop, length-append, get_or-append}
use Rattle.rules.specs.Lists.{lead}
use Rattle.rules.specs.Bytes.{line_feed, carriage_return, less_return}
use Rattle.rules.specs.Display.{starts_row, line_of, shown_of, row_in}
use Rattle.text_read.specs.Places.{is_other, up_to}

-- ---- what is shown is a beginning

abbrev Begins : (p t : List ℕ) → Type 0
Begins p t = (rest : List ℕ) × (t ≡ p ++ rest)

lead-begins : (p : ℕ → Bool) (s : List ℕ) → Begins (lead p s) s
lead-begins p [] = ([], refl)
lead-begins p (x ∷ s) = go (lead-begins p s) (p x)
  where
    go : Begins (lead p s) s → (b : Bool) → Begins (cond b (x ∷ lead p s) []) (x ∷ s)
    go h true = (h.0, ap (λ (t : List ℕ). x ∷ t) h.1)
    go h false = (x ∷ s, refl)

less_begins : (l : List ℕ) → Begins (less_return l) l
less_begins [] = ([], refl)
less_begins (b ∷ []) = go (eqb b carriage_return)
  where
    go : (t : Bool) → Begins (cond t [] (b ∷ [])) (b ∷ [])
    go true = (b ∷ [], refl)
    go false = ([], refl)
less_begins (b ∷ c ∷ s) = let h = less_begins (c ∷ s) in (h.0, ap (λ (t : List ℕ). b ∷ t) h.1)

begins-take : (p rest : List ℕ) → take (length p) (p ++ rest) ≡ p
begins-take [] rest = refl
begins-take (b ∷ p) rest = ap (λ (t : List ℕ). b ∷ t) (begins-take p rest)

begins-part : (p t : List ℕ) → Begins p t → take (length p) t ≡ p
begins-part p t h = ap (take (length p)) h.1 ∙ begins-take p h.0

begins_short : (p t : List ℕ) → Begins p t → length p ≤ length t
begins_short p t h = omega (arith, ap length h.1, length-append p h.0)

begins_through : (p l t : List ℕ) → Begins p l → Begins l t → Begins p t
begins_through p l t a b = (a.0 ++ b.0, b.1 ∙ ap (λ (x : List ℕ). x ++ b.0) a.1 ∙ append_assoc p a.0 b.0)

shown-begins : (t : List ℕ) → Begins (shown_of t) t
shown-begins t = go (ltb (length (line_of t)) (length t)) (lead-begins (is_other line_feed) t)
  where
    go : (b : Bool) → Begins (line_of t) t → Begins (cond b (less_return (line_of t)) (line_of t)) t
    go true h = begins_through (less_return (line_of t)) (line_of t) t (less_begins (line_of t)) h
    go false h = h

-- ---- the CR before the LF

-- by the line's last byte
less_length : (l : List ℕ) (k : ℕ) → length l ≡ suc k → (b : Bool) → eqb (get_or l k 0) carriage_return ≡ b → length (less_return l) ≡ cond b k (suc k)
less_length [] k e b q = absurd (omega arith)
less_length (x ∷ []) zero e true q = rw q
less_length (x ∷ []) zero e false q = rw q
less_length (x ∷ []) (suc k) e b q = absurd (omega arith)
less_length (x ∷ y ∷ s) zero e b q = absurd (omega arith)
less_length (x ∷ y ∷ s) (suc k) e true q = ap suc (less_length (y ∷ s) k (omega arith) true q)
less_length (x ∷ y ∷ s) (suc k) e false q = ap suc (less_length (y ∷ s) k (omega arith) false q)

get_d_drop : (s : List ℕ) (i k : ℕ) → get_or (drop i s) k 0 ≡ get_or s (i + k) 0
get_d_drop s zero k = let q : 0 + k ≡ k = omega arith in rw q
get_d_drop [] (suc i) k = refl
get_d_drop (b ∷ s) (suc i) k = let q : suc i + k ≡ suc (i + k) = omega arith in rw q (get_d_drop s i k)

module _ (s : List ℕ) (place end : ℕ) (found : end ≡ place + up_to line_feed (drop place s)) (room : place ≤ length s) where
  abbrev t : List ℕ
  t = drop place s

  line_long : end ≡ place + length (line_of t)
  line_long = found

  -- a row without LF
  pub shown-last : length s ≤ end → end ≡ place + length (shown_of t)
  shown-last h =
      let q : length t ≤ length (line_of t) = omega (arith, length-drop place s, line_long) in
      rw (le-ltb (length (line_of t)) (length t) q) found

  module _ (inside : end < length s) where
    ended : ltb (length (line_of t)) (length t) ≡ true
    ended = lt-ltb (length (line_of t)) (length t) (omega (arith, length-drop place s, line_long))

    -- an empty row
    pub shown-empty : end ≤ place → end ≡ place + length (shown_of t)
    shown-empty h = rw ended (go (line_of t) (omega (arith, line_long)))
      where
        go : (l : List ℕ) → length l ≡ 0 → end ≡ place + length (less_return l)
        go [] e = omega (arith, line_long)
        go (b ∷ l) e = absurd (omega arith)

    by_last : place < end → (b : Bool) → eqb (get_or s (end - 1) 0) carriage_return ≡ b → length (shown_of t) ≡ cond b (end - 1 - place) (suc (end - 1 - place))
    by_last h b q =
        let k : ℕ = end - 1 - place in
        let long : length (line_of t) ≡ suc (end - 1 - place) = omega (arith, line_long) in
        let at : place + (end - 1 - place) ≡ end - 1 = omega arith in
        let front = lead-begins (is_other line_feed) t in
        let same : get_or (line_of t) (end - 1 - place) 0 ≡ get_or s (end - 1) 0 =
        sym (get_or-append (line_of t) front.0 0 (end - 1 - place) (omega (arith, long))) ∙ ap (λ (x : List ℕ). get_or x (end - 1 - place) 0) (sym front.1)
        ∙ get_d_drop s place (end - 1 - place) ∙ ap (λ (x : ℕ). get_or s x 0) at in
        rw ended (less_length (line_of t) (end - 1 - place) long b (ap (λ (x : ℕ). eqb x carriage_return) same ∙ q))

    -- a CR before the LF, or another byte
    pub shown_return : place < end → get_or s (end - 1) 0 ≡ carriage_return → end - 1 ≡ place + length (shown_of t)
    shown_return h e = omega (arith, by_last h true (eq-eqb (get_or s (end - 1) 0) carriage_return e))

    pub shown_whole : place < end → (get_or s (end - 1) 0 ≡ carriage_return → ⊥) → end ≡ place + length (shown_of t)
    shown_whole h n = omega (arith, by_last h false (ne_eqb (get_or s (end - 1) 0) carriage_return n))

module _ (s : List ℕ) (place : ℕ) where
  -- ---- the row

  started : starts_row s place ≡ true → place < length s
  started e = go (ltb 0 place) (ltb place (length s)) refl e
    where
      go : (a b : Bool) → ltb place (length s) ≡ b → (a && (b && eqb (get_or s (place - 1) 0) line_feed)) ≡ true → place < length s
      go a true l h = ltb-true place (length s) l
      go a false l h = absurd (true≢false (sym h ∙ and-false a))

  -- b: whether a row starts there, as the code has it
  module _ (b : Bool) (is : b ≡ starts_row s place) where
    pub row-none : b ≡ false → [] ≡ row_in s place
    unfolding row_in
    row-none none = rw (sym is ∙ none)

    module _ (starts : b ≡ true) where
      pub row_room : place ≤ length s
      row_room = omega (arith, started (sym is ∙ starts))

      module _ (end : ℕ) (shown : end ≡ place + length (shown_of (drop place s))) where
        pub row_within : end ≤ length s
        row_within = omega (arith, started (sym is ∙ starts), length-drop place s, begins_short (shown_of (drop place s)) (drop place s) (shown-begins (drop place s)))

        pub row_here : take (end - place) (drop place s) ≡ row_in s place
        unfolding row_in
        row_here =
            let n : end - place ≡ length (shown_of (drop place s)) = omega arith in
            rw (n, sym is ∙ starts) (begins-part (shown_of (drop place s)) (drop place s) (shown-begins (drop place s)))
