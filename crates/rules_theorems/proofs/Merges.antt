-- Demand 3 over the definitions: the merges of two accepted solutions with equal travel times are accepted; absorption. Assumes nothing.
use Prim.Native.Nat.{ℕ, zero, suc, ◌+◌, ◌≤◌, ◌<◌}
use native.Mathlib.Omega.{arith}
use mathlib.Core.Path.{◌≡◌, refl, sym, ap, ap₂}
use mathlib.Core.Logic.{◌↔◌}
use mathlib.Core.Bool.{Bool, true, false, cond}
use mathlib.Core.List.{List, [], ◌∷◌}
use lib.Dec.{T, leb, eqb}
use lib.ListN.{length}
use borrow.Author.Tests.{leb-true, leb-false, le-leb, lt-leb, eqb-true, eqb-false}
use Rattle.rules.specs.declared.sizes.Configuration.{Configuration}
use Rattle.rules.specs.declared.sizes.Constraint.{Constraint}
use Rattle.rules.specs.Timetable.{offers}
use Rattle.rules.specs.Kinds.{◌≤?◌, Rule, rules, no_rule, rule_of, departure, arrival, by_arrival, by_departure, about, connection_rule}
use Rattle.rules.specs.Verdict.{no_choice, choice_at, All, Holds, Offered, Kept, Acceptable, accepted, verdict}
use Rattle.rules.specs.Merge.{sooner, tardier, zipped, earlier, later, SameTravel, unequal_from}
use Rattle.rules_theorems.proofs.All.{all_at}
use Rattle.rules_theorems.proofs.Verdicts.{verdict_accepted}
use Rattle.std.specs.Prelude.{Option, Some, None}

-- ---- one leg: the two picks are the two choices, in the one order or the other

pub picks : (P : Configuration → Configuration → Type 0) (a b : Configuration)
    → (a.departure ≤ b.departure → P a b) → (b.departure < a.departure → P b a) → P (sooner a b) (tardier a b)
picks P a b f g = go (leb a.departure b.departure) refl
  where
    go : (c : Bool) → leb a.departure b.departure ≡ c → P (cond c a b) (cond c b a)
    go true e = f (leb-true a.departure b.departure e)
    go false e = g (leb-false a.departure b.departure e)

-- ---- two lists, leg by leg

pub travel_lengths : (s r : List Configuration) → SameTravel s r → length s ≡ length r
travel_lengths [] [] h = refl
travel_lengths [] (b ∷ r) h = absurd h
travel_lengths (a ∷ s) [] h = absurd h
travel_lengths (a ∷ s) (b ∷ r) h = ap suc (travel_lengths s r h.1)

travel_at : (s r : List Configuration) → SameTravel s r → (i : ℕ) → (choice_at s i).travel ≡ (choice_at r i).travel
travel_at [] [] h i = refl
travel_at [] (b ∷ r) h i = absurd h
travel_at (a ∷ s) [] h i = absurd h
travel_at (a ∷ s) (b ∷ r) h zero = h.0
travel_at (a ∷ s) (b ∷ r) h (suc i) = travel_at s r h.1 i

zipped-at : (f : Configuration → Configuration → Configuration) → f no_choice no_choice ≡ no_choice
    → (s r : List Configuration) → length s ≡ length r → (i : ℕ) → choice_at (zipped f s r) i ≡ f (choice_at s i) (choice_at r i)
zipped-at f z [] [] e i = sym z
zipped-at f z [] (b ∷ r) e i = absurd (omega arith)
zipped-at f z (a ∷ s) [] e i = absurd (omega arith)
zipped-at f z (a ∷ s) (b ∷ r) e zero = refl
zipped-at f z (a ∷ s) (b ∷ r) e (suc i) = zipped-at f z s r (omega arith) i

-- ---- every rule of the table lets two kept pairs be crossed, where the first leg leaves sooner in the one and the second in the other

abbrev Crosses : Rule → Type 0
Crosses rule =
    (low high type : ℕ) (x₁ y₁ x₂ y₂ : Configuration) → x₁.travel ≡ x₂.travel → y₁.travel ≡ y₂.travel
    → x₁.departure ≤ x₂.departure → y₂.departure ≤ y₁.departure
    → All Holds (rule low high type x₁ y₁) → All Holds (rule low high type x₂ y₂)
    → All Holds (rule low high type x₁ y₂) × All Holds (rule low high type x₂ y₁)

-- x of kind 5 is the arrival or the departure, as the type says; another type keeps no pair
connection_crosses : Crosses connection_rule
connection_crosses low high type x₁ y₁ x₂ y₂ ex ey hx hy = go (eqb type by_arrival) (eqb type by_departure)
  where
    go : (a d : Bool) → let x : Configuration → (Option ℕ) = λ c. cond a (Some (arrival c)) (cond d (Some (departure c)) None) in
        let Both : Configuration → Configuration → Type 0 = λ u v. All Holds (about (x u) (λ t. t + low ≤? departure v) ∷ about (x u) (λ t. departure v ≤? t + high) ∷ []) in
        Both x₁ y₁ → Both x₂ y₂ → Both x₁ y₂ × Both x₂ y₁
    go true d h k = omega arith
    go false true h k = omega arith
    go false false h k = omega arith

crosses : (k : ℕ) → Crosses (rule_of k)
unfolding rule_of
crosses =
    all_at Crosses rules no_rule (omega arith, (omega arith, (omega arith, (omega arith, (omega arith, (connection_crosses, tt)))))) (omega arith)

-- two kept pairs, and their sooner and their tardier legs
merge_rule : (k low high type : ℕ) (x₁ y₁ x₂ y₂ : Configuration) → x₁.travel ≡ x₂.travel → y₁.travel ≡ y₂.travel
    → All Holds (rule_of k low high type x₁ y₁) → All Holds (rule_of k low high type x₂ y₂)
    → All Holds (rule_of k low high type (sooner x₁ x₂) (sooner y₁ y₂)) × All Holds (rule_of k low high type (tardier x₁ x₂) (tardier y₁ y₂))
merge_rule k low high type x₁ y₁ x₂ y₂ ex ey h₁ h₂ =
    picks (λ u v. Keeps u (sooner y₁ y₂) × Keeps v (tardier y₁ y₂)) x₁ x₂
    (λ hx. picks (λ u v. Keeps x₁ u × Keeps x₂ v) y₁ y₂
    (λ hy. (h₁, h₂))
    (λ hy. crosses k low high type x₁ y₁ x₂ y₂ ex ey hx (omega arith) h₁ h₂))
    (λ hx. picks (λ u v. Keeps x₂ u × Keeps x₁ v) y₁ y₂
    (λ hy. crosses k low high type x₂ y₂ x₁ y₁ (sym ex) (sym ey) (omega arith) hy h₂ h₁)
    (λ hy. (h₂, h₁)))
  where
    Keeps : Configuration → Configuration → Type 0
    Keeps x y = All Holds (rule_of k low high type x y)

module _ (s r : List Configuration) (same : SameTravel s r) where
  merge_kept : (c : Constraint) → Kept s c → Kept r c → Kept (earlier s r) c × Kept (later s r) c
  merge_kept c h k =
      let e = travel_lengths s r same in
      rw (zipped-at sooner refl s r e c.first, zipped-at sooner refl s r e c.second, zipped-at tardier refl s r e c.first, zipped-at tardier refl s r e c.second)
      (merge_rule c.kind c.low c.high c.connection (choice_at s c.first) (choice_at s c.second) (choice_at r c.first) (choice_at r c.second)
      (travel_at s r same c.first) (travel_at s r same c.second) h k)

  merge_table : (cs : List Constraint) → All (Kept s) cs → All (Kept r) cs → All (Kept (earlier s r)) cs × All (Kept (later s r)) cs
  merge_table [] h k = (tt, tt)
  merge_table (c ∷ cs) h k =
      let m = merge_kept c h.0 k.0 in
      let n = merge_table cs h.1 k.1 in
      ((m.0, n.0), (m.1, n.1))

-- each choice of a merge is one of the two choices, so it is offered
merge_offered : (draft : List (List Configuration)) (s r : List Configuration) → Offered draft s → Offered draft r
    → Offered draft (earlier s r) × Offered draft (later s r)
merge_offered [] [] [] h k = (tt, tt)
merge_offered [] [] (b ∷ r) h k = absurd k
merge_offered [] (a ∷ s) r h k = absurd h
merge_offered (o ∷ os) [] r h k = absurd h
merge_offered (o ∷ os) (a ∷ s) [] h k = absurd k
merge_offered (o ∷ os) (a ∷ s) (b ∷ r) h k =
    let n = merge_offered os s r h.1 k.1 in
    picks (λ u v. (T (offers o u) × Offered os (earlier s r)) × (T (offers o v) × Offered os (later s r))) a b
    (λ le. ((h.0, n.0), (k.0, n.1)))
    (λ lt. ((k.0, n.0), (h.0, n.1)))

-- ---- what document 01 asks of the merges

module _ (draft : List (List Configuration)) (cs : List Constraint) (s r : List Configuration) (same : SameTravel s r) where
  -- DEMAND 3: from two accepted solutions, both merged texts are accepted
  pub merges_accepted : Acceptable draft cs s → Acceptable draft cs r → Acceptable draft cs (earlier s r) × Acceptable draft cs (later s r)
  merges_accepted h k =
      let o = merge_offered draft s r h.offered k.offered in
      let m = merge_table s r same cs h.kept k.kept in
      (record { offered = o.0; kept = m.0 }, record { offered = o.1; kept = m.1 })

  -- the same by verdicts
  pub merge_verdicts : (verdict draft cs s).finding ≡ accepted → (verdict draft cs r).finding ≡ accepted
      → ((verdict draft cs (earlier s r)).finding ≡ accepted) × ((verdict draft cs (later s r)).finding ≡ accepted)
  merge_verdicts h k =
      let m = merges_accepted ((verdict_accepted draft cs s).1 h) ((verdict_accepted draft cs r).1 k) in
      ((verdict_accepted draft cs (earlier s r)).0 m.0, (verdict_accepted draft cs (later s r)).0 m.1)

-- a merge can be merged again
pub merge_travel_lem : (s r : List Configuration) → SameTravel s r → SameTravel s (earlier s r) × SameTravel s (later s r)
merge_travel_lem [] [] same = (tt, tt)
merge_travel_lem [] (b ∷ r) same = absurd same
merge_travel_lem (a ∷ s) [] same = absurd same
merge_travel_lem (a ∷ s) (b ∷ r) same =
    let n = merge_travel_lem s r same.1 in
    picks (λ u v. ((a.travel ≡ u.travel) × SameTravel s (earlier s r)) × ((a.travel ≡ v.travel) × SameTravel s (later s r))) a b
    (λ le. ((refl, n.0), (same.0, n.1)))
    (λ lt. ((same.0, n.0), (refl, n.1)))

-- ---- absorption

either : (c : Bool) (a : Configuration) → cond c a a ≡ a
either true a = refl
either false a = refl

absorbs : (a b : Configuration) → (sooner a (tardier a b) ≡ a) × (tardier a (sooner a b) ≡ a)
absorbs a b =
    picks (λ u v. (sooner a v ≡ a) × (tardier a u ≡ a)) a b
    (λ le. (ap (λ c. cond c a b) (le-leb a.departure b.departure le), either (leb a.departure a.departure) a))
    (λ lt. (either (leb a.departure a.departure) a, ap (λ c. cond c b a) (lt-leb a.departure b.departure lt)))

-- merging A earlier with (A later with B) gives A's choices; so does A later with (A earlier with B). No travel times are asked for
pub absorption : (s r : List Configuration) → length s ≡ length r → (earlier s (later s r) ≡ s) × (later s (earlier s r) ≡ s)
absorption [] r e = (refl, refl)
absorption (a ∷ s) [] e = absurd (omega arith)
absorption (a ∷ s) (b ∷ r) e =
    let m = absorbs a b in
    let n = absorption s r (omega arith) in
    (ap₂ ◌∷◌ m.0 n.0, ap₂ ◌∷◌ m.1 n.1)

-- ---- 17 is given for no row exactly where the travel times are equal, leg by leg

unequal_from_lem : (n : ℕ) (s r : List Configuration) → length s ≡ length r → (unequal_from n s r ≡ None) ↔ SameTravel s r
unequal_from_lem n [] [] e = (λ h. tt, λ h. refl)
unequal_from_lem n [] (b ∷ r) e = absurd (omega arith)
unequal_from_lem n (a ∷ s) [] e = absurd (omega arith)
unequal_from_lem n (a ∷ s) (b ∷ r) e = go (unequal_from_lem (suc n) s r (omega arith)) (eqb a.travel b.travel) refl
  where
    go : (unequal_from (suc n) s r ≡ None) ↔ SameTravel s r
        → (c : Bool) → eqb a.travel b.travel ≡ c → (cond c (unequal_from (suc n) s r) (Some n) ≡ None) ↔ ((a.travel ≡ b.travel) × SameTravel s r)
    go ih true t = (λ h. (eqb-true a.travel b.travel t, ih.0 h), λ h. ih.1 h.1)
    go ih false t = (λ h. let z : ◌≡◌ {A = ℕ} 0 1 = cc in absurd (omega arith), λ h. absurd (eqb-false a.travel b.travel t h.0))

pub unequal_none : (s r : List Configuration) → length s ≡ length r → (unequal_from 0 s r ≡ None) ↔ SameTravel s r
unequal_none = unequal_from_lem 0
