-- A row beside the row before it: the functions of the second pass's body. Assumes nothing.
use Prim.Native.Nat.{ℕ, ◌+◌, ◌-◌, ◌≤◌, ◌<◌}
use mathlib.Core.Path.{◌≡◌, refl, sym, ap, ap₂, subst, ◌∙◌}
use mathlib.Core.Bool.{Bool, true, false, cond}
use mathlib.Core.List.{List, []}
use native.Mathlib.Omega.{arith}
use lib.Dec.{eqb}
use lib.ListN.{length, get_or, take, drop, drop_of_length-le}
use lib.IntN.{ℤ, pos, negsuc, nat_abs, ◌+ℤ◌}
use borrow.Author.Tests.{eq-eqb, ne_eqb}
use Rattle.rules.specs.Lists.{same_list}
use Rattle.rules.specs.Bytes.{line_feed, less_return}
use Rattle.rules.specs.Duties.{from_column, to_column}
use Rattle.rules_theorems.proofs.Parts.{size-part}
use Rattle.text_read.specs.Places.{up_to}
use Rattle.text_read.proofs.Laws.{found_within}
use Rattle.duties_fields.specs.Fields.{content_in}
use Rattle.duties_row.specs.Ruled.{follows_in}
use Rattle.duties_nodes.specs.Nodes.{view}
use Rattle.duties_nodes.specs.Balances.{bumped_at, most_balance, BumpRoom}
use Rattle.duties_nodes.proofs.Walking.{names_long}
use Rattle.duties_nodes.proofs.Bumping.{bumped_long, bumped_in}
use Rattle.duties.specs.Turns.{line_at, ended_in, turned_in, TurnRoom}

-- ---- `line_at`

module _ (text : List ℕ) (place : ℕ) where
  pub line-past : length text < place → [] ≡ line_at text place
  unfolding line_at
  line-past h = let e : drop place text ≡ [] = drop_of_length-le text {i = place} (omega arith) in sym (ap (λ (s : List ℕ). less_return (take (up_to line_feed s) s)) e)

  module _ (end : ℕ) (q : end ≡ place + up_to line_feed (drop place text)) where
    -- as the pass over lines has it
    pub line_cut : less_return (take (end - place) (drop place text)) ≡ line_at text place
    unfolding line_at
    line_cut = let e : end - place ≡ up_to line_feed (drop place text) = omega arith in ap (λ (k : ℕ). less_return (take k (drop place text))) e

    pub line_within : place ≤ length text → end ≤ length text
    line_within h = found_within text line_feed place end q h

    pub line_here : (s : List ℕ) → s ≡ less_return (take (end - place) (drop place text)) → s ≡ line_at text place
    line_here s e = e ∙ line_cut

-- ---- `end_duty`, `end_last`, `turn`

module _ (before : List ℕ) (names : List (List ℕ)) (z : List ℤ) where
  pub end_none : length before ≡ 0 → z ≡ ended_in before names z
  unfolding ended_in
  end_none e = sym (rw (eq-eqb (length before) 0 e))

  pub end_some : (length before ≡ 0 → ⊥) → (to : List ℕ) → to ≡ content_in to_column before → (z' : List ℤ) → z' ≡ bumped_at to (pos 1) 0 names z → z' ≡ ended_in before names z
  unfolding ended_in
  end_some n to p z' e =
      e ∙ ap (λ (x : List ℕ). bumped_at x (pos 1) 0 names z) p ∙ sym (ap (λ (b : Bool). cond b z (bumped_at (content_in to_column before) (pos 1) 0 names z)) (ne_eqb (length before) 0 n))

  module _ (line : List ℕ) (b : Bool) (e : b ≡ follows_in before line) where
    pub turn_none : b ≡ true → z ≡ turned_in before line names z
    unfolding turned_in
    turn_none y = sym (rw (sym e ∙ y))

    pub turn_some : b ≡ false → (u : List ℤ) → u ≡ ended_in before names z → (from : List ℕ) → from ≡ content_in from_column line → (z' : List ℤ) → z' ≡ bumped_at from (negsuc 0) 0 names u
        → z' ≡ turned_in before line names z
    unfolding turned_in
    turn_some n u p from q z' w =
        w ∙ ap₂ (λ (x : List ℕ) (y : List ℤ). bumped_at x (negsuc 0) 0 names y) q p ∙ sym (ap (λ (t : Bool). cond t z (bumped_at (content_in from_column line) (negsuc 0) 0 names (ended_in before names z))) (sym e ∙ n))

-- the other line, as the code has it
module _ (names : List (List ℕ)) (z z' : List ℤ) (a b : List ℕ) (p : a ≡ b) where
  pub turned_there : (c d : List ℕ) → c ≡ d → z' ≡ turned_in a c names z → z' ≡ turned_in b d names z
  turned_there c d q e = e ∙ ap₂ (λ (x y : List ℕ). turned_in x y names z) p q

-- ---- a change of 1 keeps the balances small

module _ (text table : List ℕ) (n : ℕ) (z : List ℤ) (name : List ℕ) (by : ℤ) (one : nat_abs by ≤ 1) where
  bump_low : n ≤ length z → (b k : ℕ) → k < n → nat_abs (get_or z k (pos 0)) ≤ b → nat_abs (get_or (bumped_at name by 0 (view text table n) z) k (pos 0)) ≤ b + 1
  bump_low l b k h s =
      let z0 : 0 + k ≡ k = omega arith in
      let long : length (view text table n) ≡ n = names_long text table 0 n in
      let e : get_or (bumped_at name by 0 (view text table n) z) k (pos 0) ≡ get_or z k (pos 0) +ℤ cond (same_list name (get_or (view text table n) k [])) by (pos 0) =
      ap (λ (x : ℕ). get_or (bumped_at name by 0 (view text table n) z) x (pos 0)) (sym z0)
      ∙ bumped_in name by 0 (view text table n) z k (omega arith) (omega arith)
      ∙ ap (λ (x : ℕ). get_or z x (pos 0) +ℤ cond (same_list name (get_or (view text table n) k [])) by (pos 0)) z0 in
      subst (λ (x : ℤ). nat_abs x ≤ b + 1) (sym e) (go (same_list name (get_or (view text table n) k [])))
    where
      go : (t : Bool) → nat_abs (get_or z k (pos 0) +ℤ cond t by (pos 0)) ≤ b + 1
      go true = omega (arith, size-part.add (get_or z k (pos 0)) by)
      go false = omega (arith, size-part.add (get_or z k (pos 0)) (pos 0))

module _ (text table : List ℕ) (n : ℕ) (z : List ℤ) where
  pub ended_low : (before : List ℕ) → n ≤ length z → (b k : ℕ) → k < n → nat_abs (get_or z k (pos 0)) ≤ b → nat_abs (get_or (ended_in before (view text table n) z) k (pos 0)) ≤ b + 1
  unfolding ended_in
  ended_low before l b k h s = go (eqb (length before) 0)
    where
      go : (t : Bool) → nat_abs (get_or (cond t z (bumped_at (content_in to_column before) (pos 1) 0 (view text table n) z)) k (pos 0)) ≤ b + 1
      go true = omega arith
      go false = bump_low text table n z (content_in to_column before) (pos 1) (omega arith) l b k h s

  pub ended_long : (before : List ℕ) → length (ended_in before (view text table n) z) ≡ length z
  unfolding ended_in
  ended_long before = go (eqb (length before) 0)
    where
      go : (t : Bool) → length (cond t z (bumped_at (content_in to_column before) (pos 1) 0 (view text table n) z)) ≡ length z
      go true = refl
      go false = bumped_long (content_in to_column before) (pos 1) 0 (view text table n) z

  pub turned-small : (before line : List ℕ) → n ≤ length z → (b k : ℕ) → k < n → nat_abs (get_or z k (pos 0)) ≤ b → nat_abs (get_or (turned_in before line (view text table n) z) k (pos 0)) ≤ b + 2
  unfolding turned_in
  turned-small before line l b k h s = go (follows_in before line)
    where
      u : List ℤ
      u = ended_in before (view text table n) z

      go : (t : Bool) → nat_abs (get_or (cond t z (bumped_at (content_in from_column line) (negsuc 0) 0 (view text table n) u)) k (pos 0)) ≤ b + 2
      go true = omega arith
      go false =
          let w : n ≤ length u = omega (arith, ended_long before) in
          let v : nat_abs (get_or u k (pos 0)) ≤ b + 1 = ended_low before l b k h s in
          omega (arith, bump_low text table n u (content_in from_column line) (negsuc 0) (omega arith) w (b + 1) k h v)

  pub turned_long : (before line : List ℕ) → length (turned_in before line (view text table n) z) ≡ length z
  unfolding turned_in
  turned_long before line = go (follows_in before line)
    where
      go : (t : Bool) → length (cond t z (bumped_at (content_in from_column line) (negsuc 0) 0 (view text table n) (ended_in before (view text table n) z))) ≡ length z
      go true = refl
      go false = bumped_long (content_in from_column line) (negsuc 0) 0 (view text table n) (ended_in before (view text table n) z) ∙ ended_long before

  pub end_room : TurnRoom table n z 1 → BumpRoom table n z (pos 1)
  end_room g = record { nodes = g.nodes; places = g.places; low = λ k h. omega (arith, g.low k h); one = omega arith }

  pub start_room : (before : List ℕ) → TurnRoom table n z 1 → (u : List ℤ) → u ≡ ended_in before (view text table n) z → BumpRoom table n u (negsuc 0)
  start_room before g u e =
      record {
        nodes = g.nodes;
        places = omega (arith, g.places, ap length e ∙ ended_long before);
        low = λ k h.
            let s : nat_abs (get_or z k (pos 0)) + 1 ≤ most_balance = g.low k h in
            let w : nat_abs (get_or u k (pos 0)) ≤ nat_abs (get_or z k (pos 0)) + 1 =
            subst (λ (x : List ℤ). nat_abs (get_or x k (pos 0)) ≤ nat_abs (get_or z k (pos 0)) + 1) (sym e) (ended_low before g.places (nat_abs (get_or z k (pos 0))) k h (omega arith)) in
            omega arith;
        one = omega arith;
      }
