-- A leg that an inequality holds back leaves later, by the shortfall at least, in every solution that keeps the inequality and has no leg leaving sooner. Assumes nothing.
use Prim.Native.Nat.{ℕ, zero, suc, ◌+◌, ◌-◌, ◌≤◌, ◌<◌}
use native.Mathlib.Omega.{arith}
use mathlib.Core.Path.{◌≡◌, refl}
use mathlib.Core.Bool.{Bool, true, false, cond, ◌&&◌}
use mathlib.Core.List.{List, [], ◌∷◌}
use lib.Dec.{leb, eqb}
use lib.ListN.{length}
use borrow.Author.Tests.{leb-true, leb-false}
use Rattle.rules.specs.Kinds.{Inequality, ◌≤?◌, rule_of, departure, arrival, about, by_arrival, by_departure, connection}
use Rattle.rules.specs.Verdict.{choice_at, inequalities, All, Holds, Kept}
use Rattle.rules.specs.Merge.{SameTravel}
use Rattle.rules.specs.declared.sizes.Configuration.{Configuration}
use Rattle.rules.specs.declared.sizes.Constraint.{Constraint}
use Rattle.rules.specs.Earliest.{Late, at_most, held_back, late_from, or_next, first_late}
use Rattle.earliest_theorems.specs.Statement.{NoLater}
use Rattle.earliest_theorems.specs.Search.{Above, Lates}
use Rattle.std.specs.Prelude.{Option, Some, None}

-- g i, h i: when the leg that inequality i holds back leaves, in the one solution and in the other
abbrev Gained : (g h : ℕ → ℕ) → ℕ → List Inequality → Type 0
Gained g h i [] = Unit {0}
Gained g h i (q ∷ qs) = (q.left + g i ≤ q.right + h i) × Gained g h (suc i) qs

abbrev pick_of : (kind i : ℕ) → Configuration → Configuration → Configuration
pick_of k i one two = cond (eqb k connection && eqb i at_most) one two

-- a connection's type, by whether it is the first and whether it is the second
abbrev anchored_by : (a d : Bool) → Configuration → Option ℕ
anchored_by a d c = cond a (Some (arrival c)) (cond d (Some (departure c)) None)

module _ (low high : ℕ) (x y x' y' : Configuration) (ex : x.travel ≡ x'.travel) (ey : y.travel ≡ y'.travel) (hx : x.departure ≤ x'.departure) (hy : y.departure ≤ y'.departure) where
  -- of a connection, by the time that its type names; where it names none, neither inequality can hold
  connection_gains : (a d : Bool) → All Holds (about (anchored_by a d x') (λ t. t + low ≤? departure y') ∷ about (anchored_by a d x') (λ t. departure y' ≤? t + high) ∷ [])
      → Gained (λ i. (pick_of connection i x y).departure) (λ i. (pick_of connection i x' y').departure) 1
      (about (anchored_by a d x) (λ t. t + low ≤? departure y) ∷ about (anchored_by a d x) (λ t. departure y ≤? t + high) ∷ [])
  connection_gains true d h = omega arith
  connection_gains false true h = omega arith
  connection_gains false false h = absurd (omega arith)

  gains : (k type : ℕ) → All Holds (rule_of k low high type x' y')
      → Gained (λ i. (pick_of k i x y).departure) (λ i. (pick_of k i x' y').departure) 1 (rule_of k low high type x y)
  unfolding rule_of
  gains zero type h = absurd (omega arith)
  gains (suc zero) type h = omega arith
  gains (suc (suc zero)) type h = omega arith
  gains (suc (suc (suc zero))) type h = omega arith
  gains (suc (suc (suc (suc zero)))) type h = omega arith
  gains (suc (suc (suc (suc (suc zero))))) type h = connection_gains (eqb type by_arrival) (eqb type by_departure) h
  gains (suc (suc (suc (suc (suc (suc k)))))) type h = absurd (omega arith)

-- ---- two solutions

pub no_later-at : (x s : List Configuration) → NoLater x s → (i : ℕ) → (choice_at x i).departure ≤ (choice_at s i).departure
no_later-at [] [] h i = omega arith
no_later-at [] (b ∷ s) h i = absurd h
no_later-at (a ∷ x) [] h i = absurd h
no_later-at (a ∷ x) (b ∷ s) h zero = h.0
no_later-at (a ∷ x) (b ∷ s) h (suc i) = no_later-at x s h.1 i

travel_at : (s r : List Configuration) → SameTravel s r → (i : ℕ) → (choice_at s i).travel ≡ (choice_at r i).travel
travel_at [] [] h i = refl
travel_at [] (b ∷ r) h i = absurd h
travel_at (a ∷ s) [] h i = absurd h
travel_at (a ∷ s) (b ∷ r) h zero = h.0
travel_at (a ∷ s) (b ∷ r) h (suc i) = travel_at s r h.1 i

module _ (x : List Configuration) where
  held_within : (c : Constraint) (i : ℕ) → c.first < length x → c.second < length x → held_back c i < length x
  held_within c i f g = go (eqb c.kind connection && eqb i at_most)
    where
      go : (b : Bool) → cond b c.first c.second < length x
      go true = f
      go false = g

  held_is : (c : Constraint) (s : List Configuration) (i : ℕ) → (pick_of c.kind i (choice_at s c.first) (choice_at s c.second)).departure ≡ (choice_at s (held_back c i)).departure
  held_is c s i = go (eqb c.kind connection && eqb i at_most)
    where
      go : (b : Bool) → ◌≡◌ {A = ℕ} (cond b (choice_at s c.first) (choice_at s c.second)).departure (choice_at s (cond b c.first c.second)).departure
      go true = refl
      go false = refl

  -- from inequality i on
  late_from_lem : (c : Constraint) → c.first < length x → c.second < length x → (i : ℕ) (qs : List Inequality)
      → ((s : List Configuration) → Above x s → Kept s c
      → Gained (λ i. (pick_of c.kind i (choice_at x c.first) (choice_at x c.second)).departure) (λ i. (pick_of c.kind i (choice_at s c.first) (choice_at s c.second)).departure) i qs)
      → Lates x (λ s. Kept s c) (All Holds qs) (late_from c i qs)
  late_from_lem c f g i [] h = tt
  late_from_lem c f g i (q ∷ qs) h = test (late_from_lem c f g (suc i) qs (λ s a k. (h s a k).1)) (leb q.left q.right) refl
    where
      add : (o : Option Late) → q.left ≤ q.right → Lates x (λ s. Kept s c) (All Holds qs) o → Lates x (λ s. Kept s c) (All Holds (q ∷ qs)) o
      add None le k = (le, k)
      add (Some l) le k = k

      test : Lates x (λ s. Kept s c) (All Holds qs) (late_from c (suc i) qs) → (b : Bool) → leb q.left q.right ≡ b
          → Lates x (λ s. Kept s c) (All Holds (q ∷ qs)) (cond b (late_from c (suc i) qs) (Some (record { row = held_back c i; by = q.left - q.right })))
      test m true e = add (late_from c (suc i) qs) (leb-true q.left q.right e) m
      test m false e =
          let lt : q.right < q.left = leb-false q.left q.right e in (
            held_within c i f g,
            omega arith,
            λ s a k. let z = (h s a k).0 in omega (arith, held_is c x i, held_is c s i),
          )

  pub late_record : (c : Constraint) → c.first < length x → c.second < length x → Lates x (λ s. Kept s c) (Kept x c) (late_from c 1 (inequalities x c))
  late_record c f g =
      late_from_lem c f g 1 (inequalities x c)
      (λ s a k. gains c.low c.high (choice_at x c.first) (choice_at x c.second) (choice_at s c.first) (choice_at s c.second)
      (travel_at x s a.travels c.first) (travel_at x s a.travels c.second)
      (no_later-at x s a.order c.first) (no_later-at x s a.order c.second) c.kind c.connection k)

  -- of all records: the first late row, or every record is kept
  pub late_all : (cs : List Constraint) → All (λ c. (c.first < length x) × (c.second < length x)) cs
      → Lates x (λ s. All (Kept s) cs) (All (Kept x) cs) (first_late x cs)
  late_all [] h = tt
  late_all (c ∷ cs) h = join (late_from c 1 (inequalities x c)) (first_late x cs) (late_record c h.0.0 h.0.1) (late_all cs h.1)
    where
      join : (m n : Option Late) → Lates x (λ s. Kept s c) (Kept x c) m → Lates x (λ s. All (Kept s) cs) (All (Kept x) cs) n
          → Lates x (λ s. All (Kept s) (c ∷ cs)) (All (Kept x) (c ∷ cs)) (or_next m n)
      join None None p q = (p, q)
      join None (Some l) p q = (q.0, q.1, λ s a k. q.2 s a k.1)
      join (Some l) n p q = (p.0, p.1, λ s a k. p.2 s a k.0)
