-- The balances as the second pass goes on: what a table holds and what the rows left will add are the balances. Assumes nothing.
use Prim.Native.Nat.{ℕ, zero, suc, ◌+◌, ◌-◌, ◌≤◌, ◌<◌}
use mathlib.Core.Path.{◌≡◌, refl, sym, ap, ap₂, ◌∙◌}
use mathlib.Core.Bool.{Bool, true, false, cond, true≢false}
use mathlib.Core.List.{List, [], ◌∷◌, ◌++◌, map}
use native.Mathlib.Omega.{arith}
use lib.Dec.{ltb, eqb}
use lib.ListN.{length, get_or, drop, get_or-append}
use lib.Seq.{ext_get_or, get_or-append-add, get_or-drop}
use lib.IntN.{ℤ, pos, negsuc, ◌+ℤ◌, ◌-ℤ◌, neg_ℤ, neg_ℤ-+ℤ, +ℤ_assoc, +ℤ_comm, +ℤ_idr, pos-+ℤ-pos}
use borrow.Author.Tests.{ltb-true, ltb-false, ne_eqb}
use Rattle.rules.specs.Lists.{same_list, over}
use Rattle.rules.specs.Duties.{duty_column, from_column, to_column, Event, follows, starts_from, end_of, ends_from, times, balance_from}
use Rattle.rules.proofs.Lists.{same_self, same_equal, over-length}
use Rattle.duties_fields.specs.Fields.{content_in}
use Rattle.duties_row.specs.Rowed.{event_in}
use Rattle.duties_row.specs.Ruled.{follows_in}
use Rattle.duties_nodes.specs.Nodes.{view}
use Rattle.duties_nodes.specs.Balances.{bumped_at}
use Rattle.duties_nodes.proofs.Walking.{names_long}
use Rattle.duties_nodes.proofs.Bumping.{bumped_long, bumped_in, bumped-past}
use Rattle.duties.specs.Turns.{ended_in, turned_in}
use Rattle.std.specs.Prelude.{Option, Some, None}

same_swap : (a b : List ℕ) → same_list a b ≡ same_list b a
same_swap a b = go (same_list a b) refl (same_list b a) refl
  where
    go : (t : Bool) → same_list a b ≡ t → (u : Bool) → same_list b a ≡ u → t ≡ u
    go true p true q = refl
    go true p false q = absurd (true≢false (sym (same_self a) ∙ ap (λ (x : List ℕ). same_list x a) (same_equal a b p) ∙ q))
    go false p true q = absurd (true≢false (sym (same_self b) ∙ ap (λ (x : List ℕ). same_list x b) (same_equal b a q) ∙ p))
    go false p false q = refl

-- ---- sums

-- one in front of what is taken off
off_front : (x : ℤ) (e s : ℕ) (b : Bool) → x +ℤ (pos e -ℤ pos (cond b 1 0 + s)) ≡ (x +ℤ cond b (negsuc 0) (pos 0)) +ℤ (pos e -ℤ pos s)
off_front x e s false =
    let z : 0 + s ≡ s = omega arith in
    ap (λ (k : ℕ). x +ℤ (pos e -ℤ pos k)) z ∙ ap (λ (y : ℤ). y +ℤ (pos e -ℤ pos s)) (sym (+ℤ_idr x))
off_front x e s true =
    ap (λ (y : ℤ). x +ℤ (pos e +ℤ neg_ℤ y)) (sym (pos-+ℤ-pos 1 s))
    ∙ ap (λ (y : ℤ). x +ℤ (pos e +ℤ y)) (neg_ℤ-+ℤ (pos 1) (pos s))
    ∙ ap (λ (y : ℤ). x +ℤ y) (sym (+ℤ_assoc (pos e) (negsuc 0) (neg_ℤ (pos s))) ∙ ap (λ (y : ℤ). y +ℤ neg_ℤ (pos s)) (+ℤ_comm (pos e) (negsuc 0)) ∙ +ℤ_assoc (negsuc 0) (pos e) (neg_ℤ (pos s)))
    ∙ sym (+ℤ_assoc x (negsuc 0) (pos e +ℤ neg_ℤ (pos s)))

-- one in front of what is added
on_front : (x : ℤ) (e s : ℕ) (b : Bool) → x +ℤ (pos (cond b 1 0 + e) -ℤ pos s) ≡ (x +ℤ cond b (pos 1) (pos 0)) +ℤ (pos e -ℤ pos s)
on_front x e s false =
    let z : 0 + e ≡ e = omega arith in
    ap (λ (k : ℕ). x +ℤ (pos k -ℤ pos s)) z ∙ ap (λ (y : ℤ). y +ℤ (pos e -ℤ pos s)) (sym (+ℤ_idr x))
on_front x e s true =
    ap (λ (y : ℤ). x +ℤ (y +ℤ neg_ℤ (pos s))) (sym (pos-+ℤ-pos 1 e))
    ∙ ap (λ (y : ℤ). x +ℤ y) (+ℤ_assoc (pos 1) (pos e) (neg_ℤ (pos s)))
    ∙ sym (+ℤ_assoc x (pos 1) (pos e +ℤ neg_ℤ (pos s)))

-- ---- the event before, and its line

pub data Like : Option Event → List ℕ → Type 0 where
  first : Like None []
  later : {line : List ℕ} → 1 ≤ length line → Like (Some (event_in line)) line

pub follows_like : (p : Option Event) (before line : List ℕ) → Like p before → 1 ≤ length (content_in duty_column line) → follows_in before line ≡ follows p (event_in line)
unfolding follows_in
follows_like p before line first h = go (content_in duty_column line) h
  where
    go : (s : List ℕ) → 1 ≤ length s → same_list [] s ≡ false
    go [] h = absurd (omega arith)
    go (b ∷ s) h = refl
follows_like p before line (later l) h = refl

-- ---- a node's balance

module _ (text table : List ℕ) (n : ℕ) where
  abbrev names : List (List ℕ)
  names = view text table n

  abbrev node : ℕ → List ℕ
  node k = get_or names k []

  long : length names ≡ n
  long = names_long text table 0 n

  bump_at : (name : List ℕ) (by : ℤ) (z : List ℤ) (k : ℕ) → k < n → n ≤ length z → get_or (bumped_at name by 0 names z) k (pos 0) ≡ get_or z k (pos 0) +ℤ cond (same_list (node k) name) by (pos 0)
  bump_at name by z k h l =
      let z0 : 0 + k ≡ k = omega arith in
      ap (λ (x : ℕ). get_or (bumped_at name by 0 names z) x (pos 0)) (sym z0)
      ∙ bumped_in name by 0 names z k (omega (arith, long)) (omega (arith, long))
      ∙ ap₂ (λ (x : ℕ) (b : Bool). get_or z x (pos 0) +ℤ cond b by (pos 0)) z0 (same_swap name (node k))

  module _ (p : Option Event) (before : List ℕ) (like : Like p before) where
    -- the duty before ends
    ended_at : (z : List ℤ) (e s k : ℕ) → k < n → n ≤ length z → (ends : List (List ℕ)) → e ≡ times (node k) ends
        → get_or z k (pos 0) +ℤ (pos (times (node k) (end_of p ends)) -ℤ pos s) ≡ get_or (ended_in before names z) k (pos 0) +ℤ (pos e -ℤ pos s)
    unfolding ended_in
    ended_at z e s k h l ends q = go p before like
      where
        go : (p : Option Event) (before : List ℕ) → Like p before
            → get_or z k (pos 0) +ℤ (pos (times (node k) (end_of p ends)) -ℤ pos s) ≡ get_or (cond (eqb (length before) 0) z (bumped_at (content_in to_column before) (pos 1) 0 names z)) k (pos 0) +ℤ (pos e -ℤ pos s)
        go p before first = ap (λ (x : ℕ). get_or z k (pos 0) +ℤ (pos x -ℤ pos s)) (sym q)
        go p before (later m) =
            on_front (get_or z k (pos 0)) (times (node k) ends) s (same_list (node k) (content_in to_column before))
            ∙ ap₂ (λ (x : ℤ) (y : ℕ). x +ℤ (pos y -ℤ pos s)) (sym (bump_at (content_in to_column before) (pos 1) z k h l)) (sym q)
            ∙ ap (λ (b : Bool). get_or (cond b z (bumped_at (content_in to_column before) (pos 1) 0 names z)) k (pos 0) +ℤ (pos e -ℤ pos s)) (sym (ne_eqb (length before) 0 (λ w. absurd (omega arith))))

    -- one row more
    module _ (line : List ℕ) (duty : 1 ≤ length (content_in duty_column line)) (rest : List Event) (z : List ℤ) (l : n ≤ length z) where
      abbrev e : Event
      e = event_in line

      ended_length : length (ended_in before names z) ≡ length z
      unfolding ended_in
      ended_length = go (eqb (length before) 0)
        where
          go : (t : Bool) → length (cond t z (bumped_at (content_in to_column before) (pos 1) 0 names z)) ≡ length z
          go true = refl
          go false = bumped_long (content_in to_column before) (pos 1) 0 names z

      pub turned-at : (k : ℕ) → k < n → get_or z k (pos 0) +ℤ balance_from p (e ∷ rest) (node k) ≡ get_or (turned_in before line names z) k (pos 0) +ℤ balance_from (Some e) rest (node k)
      unfolding turned_in
      turned-at k h = go (follows p e) (follows_like p before line like duty)
        where
          E : ℕ
          E = times (node k) (ends_from (Some e) rest)

          S : ℕ
          S = times (node k) (starts_from (Some e) rest)

          go : (b : Bool) → follows_in before line ≡ b
              → get_or z k (pos 0) +ℤ (pos (times (node k) (cond b (ends_from (Some e) rest) (end_of p (ends_from (Some e) rest)))) -ℤ pos (times (node k) (cond b (starts_from (Some e) rest) (content_in from_column line ∷ starts_from (Some e) rest))))
              ≡ get_or (cond (follows_in before line) z (bumped_at (content_in from_column line) (negsuc 0) 0 names (ended_in before names z))) k (pos 0) +ℤ (pos E -ℤ pos S)
          go true q = ap (λ (b : Bool). get_or (cond b z (bumped_at (content_in from_column line) (negsuc 0) 0 names (ended_in before names z))) k (pos 0) +ℤ (pos E -ℤ pos S)) (sym q)
          go false q =
              ended_at z E (cond (same_list (node k) (content_in from_column line)) 1 0 + S) k h l (ends_from (Some e) rest) refl
              ∙ off_front (get_or (ended_in before names z) k (pos 0)) E S (same_list (node k) (content_in from_column line))
              ∙ ap (λ (x : ℤ). x +ℤ (pos E -ℤ pos S)) (sym (bump_at (content_in from_column line) (negsuc 0) (ended_in before names z) k h (omega (arith, ended_length))))
              ∙ ap (λ (b : Bool). get_or (cond b z (bumped_at (content_in from_column line) (negsuc 0) 0 names (ended_in before names z))) k (pos 0) +ℤ (pos E -ℤ pos S)) (sym q)

    -- the last row's duty ends
    pub last-at : (z : List ℤ) → n ≤ length z → (k : ℕ) → k < n → get_or z k (pos 0) +ℤ balance_from p [] (node k) ≡ get_or (ended_in before names z) k (pos 0)
    last-at z l k h = ended_at z 0 0 k h l [] refl ∙ +ℤ_idr (get_or (ended_in before names z) k (pos 0))

  -- past the nodes nothing changes
  pub ended_past : (before : List ℕ) (z : List ℤ) (k : ℕ) → n ≤ k → get_or (ended_in before names z) k (pos 0) ≡ get_or z k (pos 0)
  unfolding ended_in
  ended_past before z k h = go (eqb (length before) 0)
    where
      go : (t : Bool) → get_or (cond t z (bumped_at (content_in to_column before) (pos 1) 0 names z)) k (pos 0) ≡ get_or z k (pos 0)
      go true = refl
      go false = bumped-past (content_in to_column before) (pos 1) 0 names z k (omega (arith, long))

  pub turned-past : (before line : List ℕ) (z : List ℤ) (k : ℕ) → n ≤ k → get_or (turned_in before line names z) k (pos 0) ≡ get_or z k (pos 0)
  unfolding turned_in
  turned-past before line z k h = go (follows_in before line)
    where
      go : (t : Bool) → get_or (cond t z (bumped_at (content_in from_column line) (negsuc 0) 0 names (ended_in before names z))) k (pos 0) ≡ get_or z k (pos 0)
      go true = refl
      go false = bumped-past (content_in from_column line) (negsuc 0) 0 names (ended_in before names z) k (omega (arith, long)) ∙ ended_past before z k h

-- ---- a table that holds a list at its front

pub over_is : (d : ℤ) (w t z : List ℤ) → length w ≤ length t → length z ≡ length t → ((k : ℕ) → k < length w → get_or z k d ≡ get_or w k d)
    → ((k : ℕ) → length w ≤ k → get_or z k d ≡ get_or t k d) → z ≡ over w t
unfolding over
over_is d w t z l e front past = ext_get_or d z (over w t) (e ∙ sym (over-length w t l)) (λ k h. go k (ltb k (length w)) refl)
  where
    go : (k : ℕ) (b : Bool) → ltb k (length w) ≡ b → get_or z k d ≡ get_or (over w t) k d
    go k true q = let h : k < length w = ltb-true k (length w) q in front k h ∙ sym (get_or-append w (drop (length w) t) d k h)
    go k false q =
        let h : length w ≤ k = ltb-false k (length w) q in
        let s : length w + (k - length w) ≡ k = omega arith in
        past k h ∙ sym (ap (λ (x : ℕ). get_or (w ++ drop (length w) t) x d) (sym s) ∙ get_or-append-add w (drop (length w) t) (k - length w) d ∙ get_or-drop (length w) t (k - length w) d ∙ ap (λ (x : ℕ). get_or t x d) s)

pub map_at : (f : List ℕ → ℤ) (ns : List (List ℕ)) (k : ℕ) (d : ℤ) → k < length ns → get_or (map f ns) k d ≡ f (get_or ns k [])
map_at f [] k d h = absurd (omega arith)
map_at f (n ∷ ns) zero d h = refl
map_at f (n ∷ ns) (suc k) d h = map_at f ns k d (omega arith)
