-- What a violation would have needed: the three ways through `needed`, and that it is the rule's own inequality. Assumes nothing.
use Prim.Native.Nat.{ℕ, zero, suc, ◌+◌, ◌-◌, ◌≤◌, ◌<◌}
use native.Mathlib.Omega.{arith}
use mathlib.Core.Path.{◌≡◌, refl}
use mathlib.Core.Logic.{◌⊎◌, inl, inr}
use lib.ListN.{get_or}
use borrow.Author.Tests.{eq-eqb, ne_eqb}
use Rattle.rules.specs.Kinds.{Inequality, ◌≤?◌, headway, connection, by_arrival, by_departure, departure, arrival, anchored, about, rule_of}
use Rattle.rules.specs.declared.sizes.Configuration.{Configuration}
use Rattle.say_words.specs.Needs.{needed_of}
use Rattle.say_words.specs.declared.needs.Bound.{Bound}
use Rattle.say_words.specs.declared.needs.Bound.TheVariants.{DepartsFrom, ArrivesFrom, DepartsBy}
use Rattle.std.specs.Prelude.{Option, Some}

module _ (kind i short : ℕ) (two : Configuration) where
  pub departs_later : (i ≡ 2 → ⊥) → DepartsFrom (two.departure + short) ≡ needed_of kind i short two
  unfolding needed_of
  departs_later h = rw (ne_eqb i 2 h)

  pub arrives_later : i ≡ 2 → kind ≡ headway → ArrivesFrom (two.departure + two.travel + short) ≡ needed_of kind i short two
  unfolding needed_of
  arrives_later h k = rw (eq-eqb i 2 h, eq-eqb kind headway k)

  pub departs_earlier : i ≡ 2 → (kind ≡ headway → ⊥) → {seconds : ℕ} → seconds ≡ two.departure - short → DepartsBy seconds ≡ needed_of kind i short two
  unfolding needed_of
  departs_earlier h k e = rw (e, eq-eqb i 2 h, ne_eqb kind headway k)

-- ---- it is the rule's own inequality

-- one side is the second leg's own time, and the other is what was needed
pub record Sides (time second asked side : ℕ) : Type 0 where
  pub own : time ≡ side
  pub needed : second ≡ asked

abbrev pub Asked : Inequality → Configuration → Bound → Type 0
Asked q two (DepartsFrom second) = Sides (departure two) second q.left q.right
Asked q two (ArrivesFrom second) = Sides (arrival two) second q.left q.right
Asked q two (DepartsBy second) = Sides (departure two) second q.right q.left

module _ (low high type : ℕ) (one two : Configuration) where
  -- the inequality after j others; one that holds where there is none
  abbrev inequality_after : (kind j : ℕ) → Inequality
  inequality_after kind j = get_or (rule_of kind low high type one two) j (0 ≤? 0)

  -- the two of a connection, whose x is the arrival or the departure
  abbrev ConnectionAsks : (by : Option ℕ) → Type 0
  ConnectionAsks by =
      let first : Inequality = about by (λ x. x + low ≤? departure two) in
      let second : Inequality = about by (λ x. departure two ≤? x + high) in
      (first.right < first.left → Asked first two (needed_of connection 1 (first.left - first.right) two))
      × (second.right < second.left → Asked second two (needed_of connection 2 (second.left - second.right) two))

  connection-asks : (t : ℕ) → ConnectionAsks (Some t)
  unfolding needed_of
  connection-asks t = (λ h. record { own = refl; needed = omega arith }, λ h. record { own = refl; needed = omega arith })

  typed : (type ≡ by_arrival) ⊎ (type ≡ by_departure) → ConnectionAsks (anchored type one)
  typed (inl e) = rw (eq-eqb type by_arrival e) (connection-asks (arrival one))
  typed (inr e) = rw e (connection-asks (departure one))

  -- of a record as every reading gives it: it has a kind, and a type where its kind asks for one
  pub needed_is : (kind j : ℕ) → headway ≤ kind → kind ≤ connection → (kind ≡ connection → (type ≡ by_arrival) ⊎ (type ≡ by_departure))
      → (inequality_after kind j).right < (inequality_after kind j).left
      → Asked (inequality_after kind j) two (needed_of kind (suc j) ((inequality_after kind j).left - (inequality_after kind j).right) two)
  unfolding needed_of rule_of
  needed_is zero j l m t h = absurd (omega arith)
  needed_is (suc zero) zero l m t h = record { own = refl; needed = omega arith }
  needed_is (suc zero) (suc zero) l m t h = record { own = refl; needed = omega arith }
  needed_is (suc zero) (suc (suc j)) l m t h = absurd (omega arith)
  needed_is (suc (suc zero)) zero l m t h = record { own = refl; needed = omega arith }
  needed_is (suc (suc zero)) (suc j) l m t h = absurd (omega arith)
  needed_is (suc (suc (suc zero))) zero l m t h = record { own = refl; needed = omega arith }
  needed_is (suc (suc (suc zero))) (suc j) l m t h = absurd (omega arith)
  needed_is (suc (suc (suc (suc zero)))) zero l m t h = record { own = refl; needed = omega arith }
  needed_is (suc (suc (suc (suc zero)))) (suc j) l m t h = absurd (omega arith)
  needed_is (suc (suc (suc (suc (suc zero))))) zero l m t h = (typed (t refl)).0 h
  needed_is (suc (suc (suc (suc (suc zero))))) (suc zero) l m t h = (typed (t refl)).1 h
  needed_is (suc (suc (suc (suc (suc zero))))) (suc (suc j)) l m t h = absurd (omega arith)
  needed_is (suc (suc (suc (suc (suc (suc kind)))))) j l m t h = absurd (omega arith)
