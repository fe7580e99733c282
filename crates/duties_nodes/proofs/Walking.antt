-- The walk over the nodes, and their count with names more. Assumes nothing.
use Rattle.std.specs.Prelude.{Option, Some, None, is_some}
use Prim.Native.Nat.{ℕ, zero, suc, ◌+◌, ◌*◌, ◌-◌, ◌≤◌, ◌<◌}
use mathlib.Core.Path.{◌≡◌, refl, sym, ap, ap₂, ◌∙◌}
use mathlib.Core.Bool.{Bool, true, false, cond, ◌||◌}
use mathlib.Core.List.{List, [], ◌∷◌, ◌++◌}
use native.Mathlib.Omega.{arith}
use native.Mathlib.Numerals.{add-one}
use lib.ListN.{length, get_or, set, length-append}
use Rattle.rules.specs.Limits.{node_width}
use Rattle.rules.specs.Lists.{any, same_list, place_from}
use Rattle.rules.specs.Duties.{with_name}
use Rattle.rules.proofs.Lists.{any-more}
use Rattle.duties_fields.specs.Fields.{part_of}
use Rattle.duties_nodes.specs.Nodes.{name_at, names_from, view, place_of, with_both, Puts}

module _ (text table : List ℕ) where
  pub names_long : (i n : ℕ) → length (names_from text table i n) ≡ n
  names_long i zero = refl
  names_long i (suc n) = ap suc (names_long (i + 1) n)

  abbrev pub rest : List ℕ → ℕ → ℕ → Option ℕ
  rest name n i = place_from i (same_list name) (names_from text table i (n - i))

  pub one_off : (n i : ℕ) → i < n → names_from text table i (n - i) ≡ name_at text table i ∷ names_from text table (i + 1) (n - (i + 1))
  one_off n i h = let e : n - i ≡ suc (n - (i + 1)) = omega arith in rw e

  module _ (name : List ℕ) (n i : ℕ) (e : (rest name n i) ≡ (rest name n 0)) where
    abbrev answer : Option ℕ
    answer = place_of name (view text table n)

    all : (rest name n 0) ≡ answer
    all = let z : n - 0 ≡ n = omega arith in ap (λ (m : ℕ). (place_from 0 (same_list name) (names_from text table 0 m))) z

    module _ (h : i < n) (t : Bool) (p : t ≡ same_list name (name_at text table i)) where
      pub walk_hit : t ≡ true → Some i ≡ answer
      walk_hit y =
          let w : rest name n i ≡ Some i = rw (one_off n i h, sym p ∙ y) in
          (sym w) ∙ e ∙ all

      pub walk_on : t ≡ false → (rest name n (i + 1)) ≡ (rest name n 0)
      walk_on y =
          let w : rest name n i ≡ place_from (suc i) (same_list name) (names_from text table (i + 1) (n - (i + 1))) = rw (one_off n i h, sym p ∙ y) in
          let v : rest name n (i + 1) ≡ rest name n i = ap (λ (k : ℕ). place_from k (same_list name) (names_from text table (i + 1) (n - (i + 1)))) (add-one i) ∙ sym w in
          v ∙ e

    pub walk_end : n ≤ i → None ≡ answer
    walk_end h =
        let z : n - i ≡ 0 = omega arith in
        let w : rest name n i ≡ None = ap (λ (k : ℕ). place_from i (same_list name) (names_from text table i k)) z in
        (sym w) ∙ e ∙ all

-- ---- whether a name is new

place_from_lem : (p : List ℕ → Bool) (i : ℕ) (N : List (List ℕ)) → any p N ≡ is_some (place_from i p N)
place_from_lem p i [] = refl
place_from_lem p i (x ∷ N) = go (p x) (place_from_lem p (suc i) N)
  where
    go : (t : Bool) → any p N ≡ is_some (place_from (suc i) p N) → t || any p N ≡ is_some (cond t (Some i) (place_from (suc i) p N))
    go true e = refl
    go false e = e

module _ (name : List ℕ) (N : List (List ℕ)) where
  known : (i : ℕ) → place_of name N ≡ Some i → any (same_list name) N ≡ true
  known i e = place_from_lem (same_list name) 0 N ∙ go (place_from 0 (same_list name) N) e
    where
      go : (o : Option ℕ) → o ≡ Some i → is_some o ≡ true
      go None q = let z : ◌≡◌ {A = ℕ} 0 1 = cc in absurd (omega arith)
      go (Some j) q = refl

  new : place_of name N ≡ None → any (same_list name) N ≡ false
  new e = place_from_lem (same_list name) 0 N ∙ go (place_from 0 (same_list name) N) e
    where
      go : (o : Option ℕ) → o ≡ None → is_some o ≡ false
      go None q = refl
      go (Some j) q = let z : ◌≡◌ {A = ℕ} 0 1 = cc in absurd (omega arith)

  known_same : any (same_list name) N ≡ true → with_name N name ≡ N
  known_same e = rw e

  new_more : any (same_list name) N ≡ false → with_name N name ≡ N ++ name ∷ []
  new_more e = rw e

one_longer : (N : List (List ℕ)) (x : List ℕ) → length (N ++ x ∷ []) ≡ length N + 1
one_longer N x = length-append N (x ∷ [])

-- ---- `with_both`

module _ (text table : List ℕ) (n : ℕ) (from to : List ℕ) (a b : Option ℕ) (p : a ≡ place_of from (view text table n)) (q : b ≡ place_of to (view text table n)) where
  abbrev N : List (List ℕ)
  N = view text table n

  long : length N ≡ n
  long = names_long text table 0 n

  from_in : (i : ℕ) → a ≡ Some i → with_name N from ≡ N
  from_in i h = known_same from N (known from N i (sym p ∙ h))

  from_new : a ≡ None → with_name N from ≡ N ++ from ∷ []
  from_new h = new_more from N (new from N (sym p ∙ h))

  to_in : (j : ℕ) → b ≡ Some j → any (same_list to) N ≡ true
  to_in j h = known to N j (sym q ∙ h)

  to_new : b ≡ None → any (same_list to) N ≡ false
  to_new h = new to N (sym q ∙ h)

  pub both_in : (i j : ℕ) → a ≡ Some i → b ≡ Some j → n ≡ length (with_both N from to)
  both_in i j h k = sym (ap (λ (x : List (List ℕ)). length (with_name x to)) (from_in i h) ∙ ap length (known_same to N (to_in j k)) ∙ long)

  pub to_more : (i : ℕ) → a ≡ Some i → b ≡ None → n + 1 ≡ length (with_both N from to)
  to_more i h k =
      sym
      (ap (λ (x : List (List ℕ)). length (with_name x to)) (from_in i h)
      ∙ ap length (new_more to N (to_new k))
      ∙ one_longer N to
      ∙ ap (λ (x : ℕ). x + 1) long)

  module _ (h : a ≡ None) where
    abbrev M : List (List ℕ)
    M = N ++ from ∷ []

    again : any (same_list to) M ≡ true → n + 1 ≡ length (with_both N from to)
    again e =
        sym
        (ap (λ (x : List (List ℕ)). length (with_name x to)) (from_new h)
        ∙ ap length (known_same to M e)
        ∙ one_longer N from
        ∙ ap (λ (x : ℕ). x + 1) long)

    pub from_more : (j : ℕ) → b ≡ Some j → n + 1 ≡ length (with_both N from to)
    from_more j k = again (any-more (same_list to) N from ∙ rw (to_in j k))

    module _ (k : b ≡ None) (t : Bool) (s : t ≡ same_list to from) where
      pub one_more : t ≡ true → n + 1 ≡ length (with_both N from to)
      one_more y = again (any-more (same_list to) N from ∙ rw (to_new k) (sym s ∙ y))

      pub two_more : t ≡ false → n + 2 ≡ length (with_both N from to)
      two_more y =
          let e : any (same_list to) M ≡ false = any-more (same_list to) N from ∙ rw (to_new k) (sym s ∙ y) in
          let l : length M ≡ length N + 1 = one_longer N from in
          let m : length (with_both N from to) ≡ length M + 1 = ap (λ (x : List (List ℕ)). length (with_name x to)) (from_new h) ∙ ap length (new_more to M e) ∙ one_longer M to in
          omega (arith, long)

-- ---- `put_node`

module _ (text t : List ℕ) (n : ℕ) (name : List ℕ) (place : Option ℕ) (at : ℕ) (p : place ≡ place_of name (view text t n)) where
  stays : length (view text t n) ≡ n
  stays = names_long text t 0 n

  pub put_known : (i : ℕ) → place ≡ Some i → Puts text t n name at n t
  put_known i h =
      let e : any (same_list name) (view text t n) ≡ true = known name (view text t n) i (sym p ∙ h) in
      record {
        table = rw e;
        count = sym (ap length (known_same name (view text t n) e) ∙ stays);
      }

  pub put_new : place ≡ None → (k : ℕ) → k ≡ length name → (u v : List ℕ) → u ≡ set t (n * node_width) at → v ≡ set u (n * node_width + 1) k → Puts text t n name at (n + 1) v
  put_new h k l u v a b =
      let e : any (same_list name) (view text t n) ≡ false = new name (view text t n) (sym p ∙ h) in
      record {
        table = b ∙ ap (λ (x : List ℕ). set x (n * node_width + 1) k) a ∙ rw (e, l, add-one (n * node_width));
        count = sym (ap length (new_more name (view text t n) e) ∙ one_longer (view text t n) name ∙ ap (λ (x : ℕ). x + 1) stays);
      }

-- ---- `name_is`

pub name_there : (text table name : List ℕ) (i at k : ℕ) (r : Bool) → at ≡ get_or table (i * node_width) 0 → k ≡ get_or table (i * node_width + 1) 0
    → r ≡ same_list name (part_of text at k) → r ≡ same_list name (name_at text table i)
name_there text table name i at k r p q e = e ∙ ap₂ (λ (a b : ℕ). same_list name (part_of text a b)) p q
