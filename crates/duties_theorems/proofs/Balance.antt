-- Over all nodes, duties ending less duties starting add up to zero, whatever the rows. Assumes nothing.
use Prim.Native.Nat.{ℕ, suc, ◌+◌}
use native.Mathlib.Omega.{arith}
use mathlib.Core.Path.{◌≡◌, refl, sym, ap, ap₂, ◌∙◌}
use mathlib.Core.Bool.{Bool, true, false, cond, ◌||◌, true≢false}
use mathlib.Core.List.{List, [], ◌∷◌, ◌++◌}
use lib.ListN.{length}
use lib.IntN.{pos, ◌+ℤ◌, ◌-ℤ◌, neg_ℤ, neg_ℤ-+ℤ, +ℤ_invr}
use Rattle.rules.specs.Lists.{any, same_list, sum_of}
use Rattle.rules.specs.Verdict.{All}
use Rattle.rules.proofs.Lists.{any-more, same_self, same_equal}
use Rattle.rules.proofs.Truth.{by_case}
use Rattle.rules_theorems.specs.Sized.{sum_of_z}
use Rattle.rules_theorems.proofs.Parts.{interchange}
use Rattle.rules_theorems.proofs.Sums.{list_add, sum-append}
use Rattle.rules.specs.Duties.{Event, with_name, with_nodes, nodes_from, nodes_of, follows, starts_from, end_of, ends_from, times, balance_from}
use Rattle.std.specs.Prelude.{Option, Some, None}

-- ---- names

abbrev one : List ℕ → List ℕ → ℕ
one m n = cond (same_list n m) 1 0

-- how often a name stands among the nodes
abbrev occurs : List ℕ → List (List ℕ) → ℕ
occurs m N = sum_of (one m) N

-- the nodes so far: each stands once
abbrev Once : List (List ℕ) → Type 0
Once N = (m : List ℕ) → any (same_list m) N ≡ true → occurs m N ≡ 1

or_true : (a b : Bool) → a || b ≡ true → (a ≡ false → b ≡ true)
or_true true b e f = absurd (true≢false f)
or_true false b e f = e

or_left : (a b : Bool) → a ≡ true → a || b ≡ true
or_left a b e = ap (λ x. x || b) e

or_right : (a b : Bool) → b ≡ true → a || b ≡ true
or_right true b e = refl
or_right false b e = e

missing-none : (m : List ℕ) (N : List (List ℕ)) → any (same_list m) N ≡ false → occurs m N ≡ 0
missing-none m [] e = refl
missing-none m (n ∷ N) e = go (same_list n m) refl (same_list m n) refl e (missing-none m N)
  where
    go : (b : Bool) → same_list n m ≡ b → (a : Bool) → same_list m n ≡ a → a || any (same_list m) N ≡ false → (any (same_list m) N ≡ false → occurs m N ≡ 0) → cond b 1 0 + occurs m N ≡ 0
    go b p true q f ih = absurd (true≢false f)
    go true p false q f ih = absurd (true≢false (sym (same_self m) ∙ ap (same_list m) (sym (same_equal n m p)) ∙ q))
    go false p false q f ih = let e = ih f in omega arith

-- a node more
once_more : (N : List (List ℕ)) (n : List ℕ) → Once N → Once (with_name N n)
once_more N n h m e = go (any (same_list n) N) refl e
  where
    go : (b : Bool) → any (same_list n) N ≡ b → any (same_list m) (cond b N (N ++ n ∷ [])) ≡ true → occurs m (cond b N (N ++ n ∷ [])) ≡ 1
    go true p e = h m e
    go false p e = there (same_list n m) refl (any (same_list m) N) refl (sym (any-more (same_list m) N n) ∙ e) ∙ refl
      where
        sum : occurs m (N ++ n ∷ []) ≡ occurs m N + (one m n + 0)
        sum = sum-append (one m) N (n ∷ [])

        there : (b : Bool) → same_list n m ≡ b → (a : Bool) → any (same_list m) N ≡ a → any (same_list m) N || same_list m n ≡ true → occurs m (N ++ n ∷ []) ≡ 1
        there true q a r f =
            let z : occurs m N ≡ 0 = missing-none m N (ap (λ x. any (same_list x) N) (sym (same_equal n m q)) ∙ p) in
            let o : one m n ≡ 1 = ap (λ b. cond b 1 0) q in
            sum ∙ omega arith
        there false q true r f =
            let o : one m n ≡ 0 = ap (λ b. cond b 1 0) q in
            let k : occurs m N ≡ 1 = h m r in
            sum ∙ omega arith
        there false q false r f =
            let s : same_list m n ≡ true = or_true (any (same_list m) N) (same_list m n) f r in
            absurd (true≢false (sym (same_self n) ∙ ap (same_list n) (sym (same_equal m n s)) ∙ q))

-- what stood among the nodes still does, and so does the new one
kept : (N : List (List ℕ)) (n m : List ℕ) → any (same_list m) N ≡ true → any (same_list m) (with_name N n) ≡ true
kept N n m e = by_case (λ l. any (same_list m) l ≡ true) (any (same_list n) N) N (N ++ n ∷ []) (λ p. e) (λ p. any-more (same_list m) N n ∙ or_left (any (same_list m) N) (same_list m n) e)

added : (N : List (List ℕ)) (n : List ℕ) → any (same_list n) (with_name N n) ≡ true
added N n = by_case (λ l. any (same_list n) l ≡ true) (any (same_list n) N) N (N ++ n ∷ []) (λ p. p) (λ p. any-more (same_list n) N n ∙ or_right (any (same_list n) N) (same_list n n) (same_self n))

abbrev Among : List (List ℕ) → List ℕ → Type 0
Among N m = any (same_list m) N ≡ true

-- ---- all rows

from_once : (N : List (List ℕ)) (es : List Event) → Once N → Once (nodes_from N es)
from_once N [] h = h
from_once N (e ∷ es) h = from_once (with_nodes N e) es (once_more (with_name N e.from) e.to (once_more N e.from h))

from_kept : (N : List (List ℕ)) (es : List Event) (m : List ℕ) → Among N m → Among (nodes_from N es) m
from_kept N [] m h = h
from_kept N (e ∷ es) m h = from_kept (with_nodes N e) es m (kept (with_name N e.from) e.to m (kept N e.from m h))

-- the nodes of every row are among them
rows-among : (N : List (List ℕ)) (es : List Event) → All (λ e. Among (nodes_from N es) e.from × Among (nodes_from N es) e.to) es
rows-among N es = each (nodes_from N es) N es (λ m h. h)
  where
    each : (W N : List (List ℕ)) (fs : List Event) → ((m : List ℕ) → Among (nodes_from N fs) m → Among W m) → All (λ e. Among W e.from × Among W e.to) fs
    each W N [] up = tt
    each W N (f ∷ fs) up = (
      (
        up f.from (from_kept (with_nodes N f) fs f.from (kept (with_name N f.from) f.to f.from (added N f.from))),
        up f.to (from_kept (with_nodes N f) fs f.to (added (with_name N f.from) f.to)),
      ),
      each W (with_nodes N f) fs up,
    )

module _ (W : List (List ℕ)) where
  starts_among : (p : Option Event) (es : List Event) → All (λ e. Among W e.from × Among W e.to) es → All (Among W) (starts_from p es)
  starts_among p [] h = tt
  starts_among p (e ∷ es) h =
      by_case (All (Among W)) (follows p e) (starts_from (Some e) es) (e.from ∷ starts_from (Some e) es)
      (λ q. starts_among (Some e) es h.1) (λ q. (h.0.0, starts_among (Some e) es h.1))

  -- the event before, where there is one
  abbrev AmongLast : Option Event → Type 0
  AmongLast None = Unit {0}
  AmongLast (Some p) = Among W p.to

  end-among : (p : Option Event) → AmongLast p → (L : List (List ℕ)) → All (Among W) L → All (Among W) (end_of p L)
  end-among None h L k = k
  end-among (Some p) h L k = (h, k)

  ends_among : (p : Option Event) → AmongLast p → (es : List Event) → All (λ e. Among W e.from × Among W e.to) es → All (Among W) (ends_from p es)
  ends_among p l [] h = end-among p l [] tt
  ends_among p l (e ∷ es) h =
      by_case (All (Among W)) (follows p e) (ends_from (Some e) es) (end_of p (ends_from (Some e) es))
      (λ q. ends_among (Some e) h.0.1 es h.1) (λ q. end-among p l (ends_from (Some e) es) (ends_among (Some e) h.0.1 es h.1))

  -- each is counted at one node
  zeros : (N : List (List ℕ)) → sum_of (λ n. times n []) N ≡ 0
  zeros [] = refl
  zeros (n ∷ N) = let e = zeros N in omega arith

  counted : Once W → (L : List (List ℕ)) → All (Among W) L → sum_of (λ n. times n L) W ≡ length L
  counted h [] k = zeros W
  counted h (m ∷ L) k =
      let a : sum_of (λ n. cond (same_list n m) 1 0 + times n L) W ≡ sum_of (λ n. cond (same_list n m) 1 0) W + sum_of (λ n. times n L) W = list_add (λ n. cond (same_list n m) 1 0) (λ n. times n L) W in
      let b : sum_of (λ n. cond (same_list n m) 1 0) W ≡ 1 = h m k.0 in
      let c : sum_of (λ n. times n L) W ≡ length L = counted h L k.1 in
      a ∙ omega arith

-- as many duties end as start, and one more where one was open
many_after : (p : Event) (es : List Event) → length (ends_from (Some p) es) ≡ suc (length (starts_from (Some p) es))
many_after p [] = refl
many_after p (e ∷ es) = go (same_list p.duty e.duty) (many_after e es)
  where
    go : (b : Bool) → length (ends_from (Some e) es) ≡ suc (length (starts_from (Some e) es))
        → length (cond b (ends_from (Some e) es) (p.to ∷ ends_from (Some e) es)) ≡ suc (length (cond b (starts_from (Some e) es) (e.from ∷ starts_from (Some e) es)))
    go true ih = ih
    go false ih = ap suc ih

as_many : (es : List Event) → length (ends_from None es) ≡ length (starts_from None es)
as_many [] = refl
as_many (e ∷ es) = many_after e es

sub_sums : (f g : List ℕ → ℕ) (N : List (List ℕ)) → sum_of_z (λ n. pos (f n) -ℤ pos (g n)) N ≡ pos (sum_of f N) -ℤ pos (sum_of g N)
sub_sums f g [] = refl
sub_sums f g (n ∷ N) =
    ap (λ z. (pos (f n) -ℤ pos (g n)) +ℤ z) (sub_sums f g N)
    ∙ interchange (pos (f n)) (neg_ℤ (pos (g n))) (pos (sum_of f N)) (neg_ℤ (pos (sum_of g N)))
    ∙ ap (λ z. pos (f n + sum_of f N) +ℤ z) (sym (neg_ℤ-+ℤ (pos (g n)) (pos (sum_of g N))))

-- THE BALANCE
pub balanced : (es : List Event) → sum_of_z (balance_from None es) (nodes_of es) ≡ pos 0
balanced es =
    let W = nodes_of es in
    let once = from_once [] es (λ m e. absurd (true≢false (sym e))) in
    let rows = rows-among [] es in
    sub_sums (λ n. times n (ends_from None es)) (λ n. times n (starts_from None es)) W
    ∙ ap₂ (λ a b. pos a -ℤ pos b) (counted W once (ends_from None es) (ends_among W None tt es rows) ∙ as_many es) (counted W once (starts_from None es) (starts_among W None es rows))
    ∙ +ℤ_invr (pos (length (starts_from None es)))
