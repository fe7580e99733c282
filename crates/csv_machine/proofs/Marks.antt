-- Quotes and CR, byte by byte, are the contents of a line's fields: what the machine of the contents makes of them is what it makes of the contents
-- joined by commas. Assumes nothing.
use Prim.Native.Nat.{ℕ}
use mathlib.Core.Path.{◌≡◌, refl, ap, sym, subst, ◌∙◌}
use mathlib.Core.Bool.{Bool, true, false, cond}
use mathlib.Core.List.{List, [], ◌∷◌, ◌++◌, append_assoc, append-nil}
use native.Mathlib.Omega.{arith}
use lib.Dec.{eqb}
use borrow.Author.Tests.{eqb-true, ne_eqb}
use Rattle.rules.specs.Lists.{◌>>=◌, each}
use Rattle.rules.specs.Bytes.{carriage_return, quote, comma, onto, split_on, joined, less_return, between, content_of, contents_of}
use Rattle.rules.specs.Verdict.{All}
use Rattle.rules.proofs.Pieces.{Free, split_cons, split_free, joined_split}
use Rattle.csv_machine.specs.Fold.{run}
use Rattle.csv_machine.proofs.Options.{then_none, then_same, then_then, then_swap, never, given}
use Rattle.csv_machine.specs.Marks.{Quotes, bare, within, behind, Marked, on, returned, under, quote_step, on_return, mark_step, mark_close}
use Rattle.std.specs.Prelude.{Option, Some, None}

-- what holds of every byte of a text holds of every byte of its pieces
pub split_within : (P : ℕ → Type 0) (sep : ℕ) (s : List ℕ) → All P s → All (All P) (split_on sep s)
split_within P sep [] h = (tt, tt)
split_within P sep (b ∷ s) h = go (eqb b sep) (split_cons sep s) (split_within P sep s h.1)
  where
    go : (t : Bool) → (p : List ℕ) × (ps : List (List ℕ)) × (split_on sep s ≡ p ∷ ps) → All (All P) (split_on sep s)
        → All (All P) (cond t ([] ∷ split_on sep s) (onto b (split_on sep s)))
    go true c ih = (tt, ih)
    go false c ih = rw c.2 (let k : All (All P) (c.0 ∷ c.1) = rw c.2 at ih in ((h.0, k.0), k.1))

-- ---- the contents of a line

-- a field's content has no byte that the field has not: no comma
between_free : (ps : List (List ℕ)) (p : List ℕ) → All (Free comma) ps → between ps ≡ Some p → Free comma p
between_free [] p h e = never p e
between_free (q ∷ []) p h e = let z : q ≡ p = cc in rw z at h.0
between_free (q ∷ r ∷ []) p h e = never p e
between_free ([] ∷ q ∷ [] ∷ []) p h e = let z : q ≡ p = cc in rw z at h.1.0
between_free ([] ∷ q ∷ (b ∷ r) ∷ []) p h e = never p e
between_free ((b ∷ x) ∷ q ∷ r ∷ []) p h e = never p e
between_free ([] ∷ q ∷ [] ∷ y ∷ more) p h e = never p e
between_free ([] ∷ q ∷ (b ∷ r) ∷ y ∷ more) p h e = never p e
between_free ((b ∷ x) ∷ q ∷ r ∷ y ∷ more) p h e = never p e

content_free : (f p : List ℕ) → Free comma f → content_of f ≡ Some p → Free comma p
content_free f p h e = between_free (split_on quote f) p (split_within (λ b. b ≡ comma → ⊥) quote f h) e

contents_free : (fs ps : List (List ℕ)) → All (Free comma) fs → each content_of fs ≡ Some ps → All (Free comma) ps
contents_free [] ps h e = let z : [] ≡ ps = cc in let k : All (Free comma) [] = tt in subst (λ (x : List (List ℕ)). All (Free comma) x) z k
contents_free (f ∷ fs) ps h e =
    let a = given (content_of f) (λ y. each content_of fs >>= (λ ys. Some (y ∷ ys))) ps e in
    let b = given (each content_of fs) (λ ys. Some (a.0 ∷ ys)) ps a.2 in
    let z : a.0 ∷ b.0 ≡ ps = cc b.2 in
    let k : All (Free comma) (a.0 ∷ b.0) = (content_free f a.0 h.0 a.1, contents_free fs b.0 h.1 b.1) in
    subst (λ (x : List (List ℕ)). All (Free comma) x) z k

-- the contents of a line's fields are one or more, and have no comma
pub contents_some : (line : List ℕ) (ps : List (List ℕ)) → contents_of line ≡ Some ps → (p : List ℕ) × (more : List (List ℕ)) × (ps ≡ p ∷ more) × All (Free comma) ps
contents_some line ps e = settle (split_on comma line) (split_cons comma line) (split_free comma line) e
  where
    settle : (fs : List (List ℕ)) → (f : List ℕ) × (more : List (List ℕ)) × (fs ≡ f ∷ more) → All (Free comma) fs → each content_of fs ≡ Some ps
        → (p : List ℕ) × (more : List (List ℕ)) × (ps ≡ p ∷ more) × All (Free comma) ps
    settle [] c h e = let z : ◌≡◌ {A = ℕ} 0 1 = cc c.2 in absurd (omega arith)
    settle (f ∷ fs) c h e =
        let a = given (content_of f) (λ y. each content_of fs >>= (λ ys. Some (y ∷ ys))) ps e in
        let b = given (each content_of fs) (λ ys. Some (a.0 ∷ ys)) ps a.2 in
        let z : ps ≡ a.0 ∷ b.0 = cc b.2 in
        (a.0, b.0, z, contents_free (f ∷ fs) ps h e)

-- the machine of the contents: its field begins behind a comma and nowhere else, and it takes no CR
module _ {A O : Type 0} (step : O → ℕ → Option O) (close : O → Option A) (begins : O → Bool)
    (at-comma : (o o' : O) → step o comma ≡ Some o' → begins o' ≡ true)
    (past-byte : (o o' : O) (b : ℕ) → (b ≡ comma → ⊥) → step o b ≡ Some o' → begins o' ≡ false)
    (no_return : (o : O) → step o carriage_return ≡ None) where
  -- what a line becomes when this is the rest of it
  abbrev pub ends : Marked O → List ℕ → Option A
  ends x s = run (mark_step step close begins) x s >>= mark_close step close begins

  -- its contents, when this is the rest of them
  abbrev pub inner : O → List ℕ → Option A
  inner o s = run step o s >>= close

  -- ---- without CR

  -- where no byte is dropped as a line's CR
  abbrev take : Quotes → O → ℕ → Option (Marked O)
  take q o b = quote_step step close begins q o b

  abbrev plain : Marked O → ℕ → Option (Marked O)
  plain (on q o) b = take q o b
  plain (returned o) b = None

  abbrev rest : Quotes → O → List ℕ → Option A
  rest q o s = run plain (on q o) s >>= mark_close step close begins

  take_return : (q : Quotes) (o : O) → take q o carriage_return ≡ None
  take_return bare o = rw (no_return o)
  take_return within o = rw (no_return o)
  take_return behind o = refl

  -- a byte leads to no state behind a CR
  onward : (x : Option O) (q : Quotes) (s : List ℕ) → (f g : Marked O → Option A) → ((q : Quotes) (o : O) → f (on q o) ≡ g (on q o))
      → (under step close begins q x >>= f) ≡ (under step close begins q x >>= g)
  onward None q s f g h = refl
  onward (Some o) q s f g h = h q o

  taken : (q : Quotes) (o : O) (b : ℕ) (f g : Marked O → Option A) → ((q : Quotes) (o : O) → f (on q o) ≡ g (on q o)) → (take q o b >>= f) ≡ (take q o b >>= g)
  taken bare o b f g h = go (eqb b quote) (begins o)
    where
      go : (t w : Bool) → (cond t (cond w (Some (on within o)) None) (under step close begins bare (step o b)) >>= f)
          ≡ (cond t (cond w (Some (on within o)) None) (under step close begins bare (step o b)) >>= g)
      go true true = h within o
      go true false = refl
      go false w = onward (step o b) bare [] f g h
  taken within o b f g h = go (eqb b quote) (eqb b comma)
    where
      go : (t w : Bool) → (cond t (Some (on behind o)) (cond w None (under step close begins within (step o b))) >>= f)
          ≡ (cond t (Some (on behind o)) (cond w None (under step close begins within (step o b))) >>= g)
      go true w = h behind o
      go false true = refl
      go false false = onward (step o b) within [] f g h
  taken behind o b f g h = go (eqb b comma)
    where
      go : (t : Bool) → (cond t (under step close begins bare (step o b)) None >>= f) ≡ (cond t (under step close begins bare (step o b)) None >>= g)
      go true = onward (step o b) bare [] f g h
      go false = refl

  -- one CR at the end is dropped, and any other is a byte that no form takes
  less_return_lem : (q : Quotes) (o : O) (s : List ℕ) → ends (on q o) s ≡ rest q o (less_return s)
  less_return_lem q o [] = refl
  less_return_lem q o (b ∷ []) = go (eqb b carriage_return) refl q
    where
      go : (t : Bool) → eqb b carriage_return ≡ t → (q : Quotes)
          → ((cond t (on_return step close begins q o) (take q o b) >>= (λ x. Some x)) >>= mark_close step close begins) ≡ rest q o (cond t [] (b ∷ []))
      go true e bare = refl
      go true e within = refl
      go true e behind = refl
      go false e q = refl
  less_return_lem q o (b ∷ c ∷ s) = go (eqb b carriage_return) refl q (λ m p. less_return_lem m p (c ∷ s))
    where
      f : Marked O → Option A
      f x = ends x (c ∷ s)

      g : Marked O → Option A
      g x = run plain x (less_return (c ∷ s)) >>= mark_close step close begins

      go : (t : Bool) → eqb b carriage_return ≡ t → (q : Quotes) → ((m : Quotes) (p : O) → f (on m p) ≡ g (on m p))
          → ((cond t (on_return step close begins q o) (take q o b) >>= (λ x. run (mark_step step close begins) x (c ∷ s))) >>= mark_close step close begins)
          ≡ ((take q o b >>= (λ x. run plain x (less_return (c ∷ s)))) >>= mark_close step close begins)
      go true e q ih = rw (eqb-true b carriage_return e, take_return q o) (none_after q)
        where
          none_after : (q : Quotes) → ((on_return step close begins q o >>= (λ x. run (mark_step step close begins) x (c ∷ s))) >>= mark_close step close begins) ≡ None
          none_after bare = refl
          none_after within = refl
          none_after behind = refl
      go false e q ih =
          then_then (take q o b) (λ x. run (mark_step step close begins) x (c ∷ s)) (mark_close step close begins)
          ∙ taken q o b f g ih
          ∙ sym (then_then (take q o b) (λ x. run plain x (less_return (c ∷ s))) (mark_close step close begins))

  -- ---- one field, and what follows it

  -- what follows a field: nothing, or a comma and more
  record Tail (t : List ℕ) : Type 0 where
    closes : (o : O) → rest behind o t ≡ rest bare o t
    opens : (o : O) → rest within o t ≡ None

  tail_none : Tail []
  tail_none = record { closes = λ o. refl; opens = λ o. refl }

  tail-comma : (s : List ℕ) → Tail (comma ∷ s)
  tail-comma s = record { closes = λ o. refl; opens = λ o. refl }

  -- bytes with no quote among them, outside quotes
  bare_run : (p t : List ℕ) (o : O) → Free quote p → rest bare o (p ++ t) ≡ (run step o p >>= (λ o'. rest bare o' t))
  bare_run [] t o h = refl
  bare_run (b ∷ p) t o h = rw (ne_eqb b quote h.0) (go (step o b) (λ o'. bare_run p t o' h.1))
    where
      go : (x : Option O) → ((o' : O) → rest bare o' (p ++ t) ≡ (run step o' p >>= (λ o''. rest bare o'' t)))
          → ((under step close begins bare x >>= (λ y. run plain y (p ++ t))) >>= mark_close step close begins) ≡ ((x >>= (λ o'. run step o' p)) >>= (λ o'. rest bare o' t))
      go None ih = refl
      go (Some o') ih = ih o'

  -- and within
  within_run : (p t : List ℕ) (o : O) → Free quote p → Free comma p → rest within o (p ++ t) ≡ (run step o p >>= (λ o'. rest within o' t))
  within_run [] t o h k = refl
  within_run (b ∷ p) t o h k = rw (ne_eqb b quote h.0, ne_eqb b comma k.0) (go (step o b) (λ o'. within_run p t o' h.1 k.1))
    where
      go : (x : Option O) → ((o' : O) → rest within o' (p ++ t) ≡ (run step o' p >>= (λ o''. rest within o'' t)))
          → ((under step close begins within x >>= (λ y. run plain y (p ++ t))) >>= mark_close step close begins) ≡ ((x >>= (λ o'. run step o' p)) >>= (λ o'. rest within o' t))
      go None ih = refl
      go (Some o') ih = ih o'

  -- a quote where the field has begun
  blocked : (p t : List ℕ) (o : O) → Free quote p → Free comma p → (p ≡ [] → begins o ≡ false) → rest bare o (p ++ quote ∷ t) ≡ None
  blocked [] t o h k e = rw (e refl)
  blocked (b ∷ p) t o h k e = rw (ne_eqb b quote h.0) (go (step o b) refl (λ o' f. blocked p t o' h.1 k.1 f))
    where
      go : (x : Option O) → step o b ≡ x → ((o' : O) → (p ≡ [] → begins o' ≡ false) → rest bare o' (p ++ quote ∷ t) ≡ None)
          → ((under step close begins bare x >>= (λ y. run plain y (p ++ quote ∷ t))) >>= mark_close step close begins) ≡ None
      go None q ih = refl
      go (Some o') q ih = ih o' (λ z. past-byte o o' b k.0 q)

  -- a byte behind the second quote that is no comma
  too_far : (b : ℕ) (t : List ℕ) (o : O) → (b ≡ comma → ⊥) → rest behind o (b ∷ t) ≡ None
  too_far b t o h = rw (ne_eqb b comma h)

  -- from the first quote of a field on: content, quote, and what follows
  quoted-run : (q t : List ℕ) (o : O) → Free quote q → Free comma q → rest within o (q ++ quote ∷ t) ≡ (run step o q >>= (λ o'. rest behind o' t))
  quoted-run q t o h k = within_run q (quote ∷ t) o h k

  begun : (t : List ℕ) (o : O) → begins o ≡ true → rest bare o (quote ∷ t) ≡ rest within o t
  begun t o e = rw e

  -- the pieces of a field between quotes
  pieces : (ps : List (List ℕ)) → All (Free quote) ps → All (Free comma) ps → (p : List ℕ) × (more : List (List ℕ)) × (ps ≡ p ∷ more)
      → (t : List ℕ) → Tail t → (o : O) → begins o ≡ true
      → rest bare o (joined quote ps ++ t) ≡ (between ps >>= (λ p. run step o p >>= (λ o'. rest bare o' t)))
  pieces [] h k c t w o e = let z : ◌≡◌ {A = ℕ} 0 1 = cc c.2 in absurd (omega arith)
  pieces (p ∷ []) h k c t w o e = bare_run p t o h.0
  pieces ([] ∷ q ∷ []) h k c t w o e =
      begun (q ++ t) o e ∙ within_run q t o h.1.0 k.1.0 ∙ then_same (run step o q) _ (λ o'. None) w.opens ∙ then_none (run step o q)
  pieces ((b ∷ p) ∷ q ∷ []) h k c t w o e =
      rw (append_assoc p (quote ∷ q) t) (blocked (b ∷ p) (q ++ t) o h.0 k.0 (λ z. let y : ◌≡◌ {A = ℕ} 0 1 = cc z in absurd (omega arith)))
  pieces ([] ∷ q ∷ [] ∷ []) h k c t w o e =
      rw (append_assoc q (quote ∷ []) t) (begun (q ++ quote ∷ t) o e ∙ quoted-run q t o h.1.0 k.1.0 ∙ then_same (run step o q) _ _ w.closes)
  pieces ([] ∷ q ∷ (b ∷ r) ∷ []) h k c t w o e =
      rw (append_assoc q (quote ∷ b ∷ r) t)
      (begun (q ++ quote ∷ b ∷ (r ++ t)) o e
      ∙ quoted-run q (b ∷ (r ++ t)) o h.1.0 k.1.0
      ∙ then_same (run step o q) _ (λ o'. None) (λ o'. too_far b (r ++ t) o' k.1.1.0.0)
      ∙ then_none (run step o q))
  pieces ((b ∷ p) ∷ q ∷ r ∷ []) h k c t w o e =
      rw (append_assoc p (quote ∷ (q ++ quote ∷ r)) t)
      (blocked (b ∷ p) ((q ++ quote ∷ r) ++ t) o h.0 k.0 (λ z. let y : ◌≡◌ {A = ℕ} 0 1 = cc z in absurd (omega arith)))
  pieces ([] ∷ q ∷ [] ∷ x ∷ more) h k c t w o e =
      rw (append_assoc q (quote ∷ quote ∷ joined quote (x ∷ more)) t)
      (begun (q ++ quote ∷ quote ∷ (joined quote (x ∷ more) ++ t)) o e
      ∙ quoted-run q (quote ∷ (joined quote (x ∷ more) ++ t)) o h.1.0 k.1.0
      ∙ then_same (run step o q) _ (λ o'. None) (λ o'. too_far quote (joined quote (x ∷ more) ++ t) o' (omega arith))
      ∙ then_none (run step o q))
  pieces ([] ∷ q ∷ (b ∷ r) ∷ x ∷ more) h k c t w o e =
      rw (append_assoc q (quote ∷ b ∷ (r ++ quote ∷ joined quote (x ∷ more))) t)
      (begun (q ++ quote ∷ b ∷ ((r ++ quote ∷ joined quote (x ∷ more)) ++ t)) o e
      ∙ quoted-run q (b ∷ ((r ++ quote ∷ joined quote (x ∷ more)) ++ t)) o h.1.0 k.1.0
      ∙ then_same (run step o q) _ (λ o'. None) (λ o'. too_far b ((r ++ quote ∷ joined quote (x ∷ more)) ++ t) o' k.1.1.0.0)
      ∙ then_none (run step o q))
  pieces ((b ∷ p) ∷ q ∷ r ∷ x ∷ more) h k c t w o e =
      rw (append_assoc p (quote ∷ (q ++ quote ∷ (r ++ quote ∷ joined quote (x ∷ more)))) t)
      (blocked (b ∷ p) ((q ++ quote ∷ (r ++ quote ∷ joined quote (x ∷ more))) ++ t) o h.0 k.0 (λ z. let y : ◌≡◌ {A = ℕ} 0 1 = cc z in absurd (omega arith)))

  field_run : (f t : List ℕ) → Free comma f → Tail t → (o : O) → begins o ≡ true
      → rest bare o (f ++ t) ≡ (content_of f >>= (λ p. run step o p >>= (λ o'. rest bare o' t)))
  field_run f t h w o e =
      ap (λ (x : List ℕ). rest bare o (x ++ t)) (sym (joined_split quote f))
      ∙ pieces (split_on quote f) (split_free quote f) (split_within (λ b. b ≡ comma → ⊥) quote f h) (split_cons quote f) t w o e

  -- ---- the fields of a line

  -- a comma goes to the machine of the contents
  next_field : (s : List ℕ) (o : O) → rest bare o (comma ∷ s) ≡ (step o comma >>= (λ o'. rest bare o' s))
  next_field s o = go (step o comma)
    where
      go : (x : Option O) → ((under step close begins bare x >>= (λ y. run plain y s)) >>= mark_close step close begins) ≡ (x >>= (λ o'. rest bare o' s))
      go None = refl
      go (Some o') = refl

  -- contents with commas between, from the first on
  inner_run : (p s : List ℕ) (o : O) → inner o (p ++ s) ≡ (run step o p >>= (λ o'. inner o' s))
  inner_run [] s o = refl
  inner_run (b ∷ p) s o = go (step o b) (λ o'. inner_run p s o')
    where
      go : (x : Option O) → ((o' : O) → inner o' (p ++ s) ≡ (run step o' p >>= (λ o''. inner o'' s)))
          → ((x >>= (λ o'. run step o' (p ++ s))) >>= close) ≡ ((x >>= (λ o'. run step o' p)) >>= (λ o'. inner o' s))
      go None ih = refl
      go (Some o') ih = ih o'

  inner_next : (s : List ℕ) (o : O) → inner o (comma ∷ s) ≡ (step o comma >>= (λ o'. inner o' s))
  inner_next s o = then_then (step o comma) (λ o'. run step o' s) close

  -- one or more fields give one or more contents
  each_cons : {B : Type 0} (f : List ℕ → Option (List ℕ)) (x : List ℕ) (xs : List (List ℕ)) (k h : List (List ℕ) → Option B)
      → ((y : List ℕ) (ys : List (List ℕ)) → k (y ∷ ys) ≡ h (y ∷ ys)) → (each f (x ∷ xs) >>= k) ≡ (each f (x ∷ xs) >>= h)
  each_cons {B} f x xs k h e = go (f x) (each f xs)
    where
      go : (y : Option (List ℕ)) (ys : Option (List (List ℕ))) → ((y >>= (λ y. ys >>= (λ ys. Some (y ∷ ys)))) >>= k) ≡ ((y >>= (λ y. ys >>= (λ ys. Some (y ∷ ys)))) >>= h)
      go None ys = refl
      go (Some y) None = refl
      go (Some y) (Some ys) = e y ys

  fields_run : (f : List ℕ) (fs : List (List ℕ)) → All (Free comma) (f ∷ fs) → (o : O) → begins o ≡ true
      → rest bare o (joined comma (f ∷ fs)) ≡ (each content_of (f ∷ fs) >>= (λ ps. inner o (joined comma ps)))
  fields_run f [] h o e =
      ap (rest bare o) (sym (append-nil f)) ∙ field_run f [] h.0 tail_none o e ∙ sym (then_then (content_of f) (λ y. Some (y ∷ [])) (λ ps. inner o (joined comma ps)))
  fields_run f (g ∷ gs) h o e =
      field_run f (comma ∷ joined comma (g ∷ gs)) h.0 (tail-comma (joined comma (g ∷ gs))) o e
      ∙ then_same (content_of f) _ _ (λ p. then_same (run step o p) _ _ (λ o'. next_field (joined comma (g ∷ gs)) o' ∙ later (λ x q. fields_run g gs h.1 x q) o') ∙ outward p)
      ∙ sym (then_then (content_of f) (λ y. each content_of (g ∷ gs) >>= (λ ys. Some (y ∷ ys))) (λ ps. inner o (joined comma ps)))
    where
      all : Option (List (List ℕ))
      all = each content_of (g ∷ gs)

      later : ((x : O) → begins x ≡ true → rest bare x (joined comma (g ∷ gs)) ≡ (all >>= (λ ps. inner x (joined comma ps))))
          → (o' : O) → (step o' comma >>= (λ x. rest bare x (joined comma (g ∷ gs)))) ≡ (all >>= (λ ps. step o' comma >>= (λ x. inner x (joined comma ps))))
      later ih o' = go (step o' comma) refl
        where
          go : (x : Option O) → step o' comma ≡ x → (x >>= (λ x. rest bare x (joined comma (g ∷ gs)))) ≡ (all >>= (λ ps. x >>= (λ x. inner x (joined comma ps))))
          go None q = sym (then_none all)
          go (Some x) q = ih x (at-comma o' x q)

      outward : (p : List ℕ) → (run step o p >>= (λ o'. all >>= (λ ps. step o' comma >>= (λ x. inner x (joined comma ps)))))
          ≡ ((all >>= (λ ys. Some (p ∷ ys))) >>= (λ ps. inner o (joined comma ps)))
      outward p =
          then_swap (run step o p) all (λ o' ps. step o' comma >>= (λ x. inner x (joined comma ps)))
          ∙ each_cons content_of g gs (λ ps. run step o p >>= (λ o'. step o' comma >>= (λ x. inner x (joined comma ps)))) (λ ps. inner o (joined comma (p ∷ ps)))
          (λ y ys. sym (inner_run p (comma ∷ joined comma (y ∷ ys)) o ∙ then_same (run step o p) _ _ (λ o'. inner_next (joined comma (y ∷ ys)) o')))
          ∙ sym (then_then all (λ ys. Some (p ∷ ys)) (λ ps. inner o (joined comma ps)))

  -- THE LAW: a line, less its CR, is what its contents are
  pub marks_run : (o : O) → begins o ≡ true → (line : List ℕ)
      → (run (mark_step step close begins) (on bare o) line >>= mark_close step close begins) ≡ (contents_of (less_return line) >>= (λ ps. run step o (joined comma ps) >>= close))
  marks_run o e line =
      less_return_lem bare o line
      ∙ ap (rest bare o) (sym (joined_split comma (less_return line)))
      ∙ settle (split_on comma (less_return line)) (split_cons comma (less_return line)) (split_free comma (less_return line))
    where
      settle : (fs : List (List ℕ)) → (p : List ℕ) × (more : List (List ℕ)) × (fs ≡ p ∷ more) → All (Free comma) fs
          → rest bare o (joined comma fs) ≡ (each content_of fs >>= (λ ps. inner o (joined comma ps)))
      settle [] c h = let z : ◌≡◌ {A = ℕ} 0 1 = cc c.2 in absurd (omega arith)
      settle (f ∷ fs) c h = fields_run f fs h o e

  -- so the form that fields have is what the machine makes of the line
  pub marks_form : (o : O) → begins o ≡ true → (form : List (List ℕ) → Option A)
      → ((p : List ℕ) (ps : List (List ℕ)) → All (Free comma) (p ∷ ps) → (run step o (joined comma (p ∷ ps)) >>= close) ≡ form (p ∷ ps))
      → (line : List ℕ) → (contents_of (less_return line) >>= form) ≡ (run (mark_step step close begins) (on bare o) line >>= mark_close step close begins)
  marks_form o e form h line = sym (marks_run o e line ∙ go (contents_of (less_return line)) refl)
    where
      some_run : (ps : List (List ℕ)) → (p : List ℕ) × (more : List (List ℕ)) × (ps ≡ p ∷ more) × All (Free comma) ps → (run step o (joined comma ps) >>= close) ≡ form ps
      some_run [] c = let z : ◌≡◌ {A = ℕ} 0 1 = cc c.2 in absurd (omega arith)
      some_run (p ∷ ps) c = h p ps c.3

      go : (x : Option (List (List ℕ))) → contents_of (less_return line) ≡ x → (x >>= (λ ps. run step o (joined comma ps) >>= close)) ≡ (x >>= form)
      go None q = refl
      go (Some ps) q = some_run ps (contents_some (less_return line) ps q)
