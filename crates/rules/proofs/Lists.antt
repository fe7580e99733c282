-- The words about lists that the definitions share: tests of the elements, values in order, lists one after the other, what is written at a table's front. Assumes nothing.
use Prim.Native.Nat.{ℕ, zero, suc, ◌+◌, ◌*◌, ◌≤◌, ◌<◌}
use native.Mathlib.Omega.{arith}
use native.Mathlib.Nat.{suc-mul, le_of_suc-le-suc, not-suc-le-zero}
use mathlib.Core.Path.{◌≡◌, refl, ap, ap₂, sym, ◌∙◌}
use mathlib.Core.Bool.{Bool, true, false, ◌&&◌, ◌||◌, false≢true}
use mathlib.Core.List.{List, [], ◌∷◌, ◌++◌, append_assoc}
use lib.Dec.{eqb}
use lib.ListN.{length, get_or, take, drop, length-append, length-drop}
use lib.Seq.{sets, sets-eq, drop-drop, take-append_seam, drop-append-add}
use borrow.Author.Tests.{eqb-true, eq-eqb}
use Rattle.rules.specs.Lists.{every, any, lead, same_list, same_lists, flat, over}
use Rattle.rules.specs.Energy.{tabulate}
use Rattle.rules.proofs.Truth.{by_case, and_true}

-- ---- tests of the elements

-- every element, and one more
pub every_more : {A : Type 0} (p : A → Bool) (xs : List A) (x : A) → every p (xs ++ x ∷ []) ≡ every p xs && p x
every_more p [] x = and_true (p x)
every_more p (y ∷ xs) x = rw (every_more p xs x) (go (p y))
  where
    go : (t : Bool) → t && (every p xs && p x) ≡ (t && every p xs) && p x
    go true = refl
    go false = refl

-- any element, and one more
pub any-more : {A : Type 0} (p : A → Bool) (xs : List A) (x : A) → any p (xs ++ x ∷ []) ≡ any p xs || p x
any-more p [] x = go (p x)
  where
    go : (t : Bool) → t || false ≡ t
    go true = refl
    go false = refl
any-more p (y ∷ xs) x = rw (any-more p xs x) (go (p y))
  where
    go : (t : Bool) → t || (any p xs || p x) ≡ (t || any p xs) || p x
    go true = refl
    go false = refl

-- the beginning that passes: some of the list, and the list's own beginning
module _ {A : Type 0} (p : A → Bool) where
  pub lead_within : (s : List A) → length (lead p s) ≤ length s
  lead_within [] = omega arith
  lead_within (x ∷ s) =
      let rest = lead_within s in
      by_case (λ l. length l ≤ suc (length s)) (p x) (x ∷ lead p s) [] (λ e. omega arith) (λ e. omega arith)

  pub take-lead : (s : List A) → take (length (lead p s)) s ≡ lead p s
  take-lead [] = refl
  take-lead (x ∷ s) = by_case (λ l. take (length l) (x ∷ s) ≡ l) (p x) (x ∷ lead p s) [] (λ e. ap (λ l. x ∷ l) (take-lead s)) (λ e. refl)

-- ---- lists that are the same are equal, and equal ones are the same

pub same_self : (s : List ℕ) → same_list s s ≡ true
same_self [] = refl
same_self (b ∷ s) = rw (eq-eqb b b refl) (same_self s)

pub same_equal : (s t : List ℕ) → same_list s t ≡ true → s ≡ t
same_equal [] [] e = refl
same_equal [] (y ∷ t) e = absurd (false≢true e)
same_equal (x ∷ s) [] e = absurd (false≢true e)
same_equal (x ∷ s) (y ∷ t) e = go (eqb x y) refl e (same_equal s t)
  where
    go : (q : Bool) → eqb x y ≡ q → (q && same_list s t) ≡ true → (same_list s t ≡ true → s ≡ t) → x ∷ s ≡ y ∷ t
    go true p e ih = let a : x ≡ y = eqb-true x y p in let b : s ≡ t = ih e in cc
    go false p e ih = absurd (false≢true e)

pub all_self : (ps : List (List ℕ)) → same_lists ps ps ≡ true
all_self [] = refl
all_self (p ∷ ps) = rw (same_self p) (all_self ps)

pub all_equal : (ps qs : List (List ℕ)) → same_lists ps qs ≡ true → ps ≡ qs
all_equal [] [] e = refl
all_equal [] (y ∷ t) e = absurd (false≢true e)
all_equal (x ∷ s) [] e = absurd (false≢true e)
all_equal (x ∷ s) (y ∷ t) e = go (same_list x y) refl e (all_equal s t)
  where
    go : (q : Bool) → same_list x y ≡ q → (q && same_lists s t) ≡ true → (same_lists s t ≡ true → s ≡ t) → x ∷ s ≡ y ∷ t
    go true p e ih = let a : x ≡ y = same_equal x y p in let b : s ≡ t = ih e in cc
    go false p e ih = absurd (false≢true e)

-- ---- a function's values in order

module _ {A : Type 0} where
  pub tabulate-length : (n : ℕ) (f : ℕ → A) → length (tabulate n f) ≡ n
  tabulate-length zero f = refl
  tabulate-length (suc n) f = ap suc (tabulate-length n (λ i. f (suc i)))

  pub tabulate-at : (n : ℕ) (f : ℕ → A) (d : A) (i : ℕ) → i < n → get_or (tabulate n f) i d ≡ f i
  tabulate-at zero f d i h = absurd (not-suc-le-zero h)
  tabulate-at (suc n) f d zero h = refl
  tabulate-at (suc n) f d (suc i) h = tabulate-at n (λ j. f (suc j)) d i (le_of_suc-le-suc h)

  -- equal values give equal lists
  pub tabulate_ext : (n : ℕ) (f g : ℕ → A) → ((i : ℕ) → f i ≡ g i) → tabulate n f ≡ tabulate n g
  tabulate_ext zero f g h = refl
  tabulate_ext (suc n) f g h = ap₂ ◌∷◌ (h 0) (tabulate_ext n (λ i. f (suc i)) (λ i. g (suc i)) (λ i. h (suc i)))

  -- one value more
  pub tabulate-more : (n : ℕ) (f : ℕ → A) → tabulate (suc n) f ≡ tabulate n f ++ f n ∷ []
  tabulate-more zero f = refl
  tabulate-more (suc n) f = ap (λ xs. f 0 ∷ xs) (tabulate-more n (λ i. f (suc i)))

-- ---- lists one after the other

module _ {A B : Type 0} (f : A → List B) where
  pub flat_append : (xs ys : List A) → flat f (xs ++ ys) ≡ flat f xs ++ flat f ys
  flat_append [] ys = refl
  flat_append (x ∷ xs) ys = rw (flat_append xs ys, append_assoc (f x) (flat f xs) (flat f ys))

  -- each of one width
  pub flat-length : (width : ℕ) → ((x : A) → length (f x) ≡ width) → (xs : List A) → length (flat f xs) ≡ length xs * width
  flat-length width wide [] = omega arith
  flat-length width wide (x ∷ xs) =
      length-append (f x) (flat f xs) ∙ rw (suc-mul (length xs) width) (omega (arith, wide x, flat-length width wide xs))

-- ---- what was written at the front of a table

module _ {A : Type 0} (w t : List A) where
  pub over-length : length w ≤ length t → length (over w t) ≡ length t
  unfolding over
  over-length h = omega (arith, length-append w (drop (length w) t), length-drop (length w) t)

  -- more of it
  pub over-more : (v : List A) → length w + length v ≤ length t → sets (over w t) (length w) v ≡ over (w ++ v) t
  unfolding over
  over-more v h =
      let long : length (w ++ drop (length w) t) ≡ length t = omega (arith, length-append w (drop (length w) t), length-drop (length w) t) in
      let fits : length w + length v ≤ length (w ++ drop (length w) t) = omega arith in
      let rest : drop (length w + length v) (w ++ drop (length w) t) ≡ drop (length (w ++ v)) t =
      drop-append-add w (drop (length w) t) (length v) ∙ drop-drop (length v) (length w) t ∙ ap (λ (k : ℕ). drop k t) (sym (length-append w v)) in
      sets-eq v (w ++ drop (length w) t) (length w) fits ∙ rw (take-append_seam w (drop (length w) t), rest)

-- within a list no default counts
pub get_d_within : {A : Type 0} (l : List A) (k : ℕ) (d e : A) → k < length l → get_or l k d ≡ get_or l k e
get_d_within [] k d e h = absurd (omega arith)
get_d_within (x ∷ l) zero d e h = refl
get_d_within (x ∷ l) (suc k) d e h = get_d_within l k d e (omega arith)
