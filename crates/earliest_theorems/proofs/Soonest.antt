-- The soonest offer: it is offered, no offer at that second or after it leaves sooner, and it is the first listed. Assumes nothing.
use Prim.Native.Nat.{ℕ, ◌≤◌, ◌<◌}
use native.Mathlib.Omega.{arith}
use mathlib.Core.Path.{◌≡◌, refl, ap}
use mathlib.Core.Logic.{◌⊎◌, inl, inr, ⊎_elim}
use mathlib.Core.Bool.{Bool, true, false, cond, ◌&&◌, ◌||◌}
use mathlib.Core.List.{List, [], ◌∷◌}
use lib.Dec.{T, leb, ltb, eqb, eqb_refl}
use lib.ListN.{length}
use borrow.Author.Tests.{leb-true, leb-false, ltb-true, ltb-false, eq-eqb, ne_eqb, lt-ltb, le-ltb}
use Rattle.rules.specs.Timetable.{same, offers}
use Rattle.rules.specs.Earliest.{sooner_than, soonest}
use Rattle.rules.specs.declared.sizes.Configuration.{Configuration}
use Rattle.rules.proofs.Truth.{both_and, by_case}
use Rattle.rules_theorems.proofs.Tables.{same_eq}
use Rattle.earliest_theorems.specs.Statement.{first_at}
use Rattle.earliest_theorems.specs.Search.{Picked, one_after, after}
use Rattle.std.specs.Prelude.{Option, Some, None}

pub or_cases : (a b : Bool) → T (a || b) → T a ⊎ T b
or_cases true b h = inl tt
or_cases false b h = inr h

pub or_left : (a b : Bool) → T a → T (a || b)
or_left true b h = tt
or_left false b h = absurd h

pub or_right : (a b : Bool) → T b → T (a || b)
or_right true b h = tt
or_right false b h = h

pub same_refl : (c : Configuration) → T (same c c)
same_refl c =
    both_and (eqb c.departure c.departure) (eqb c.travel c.travel && eqb c.profile c.profile) (eqb_refl c.departure)
    (both_and (eqb c.travel c.travel) (eqb c.profile c.profile) (eqb_refl c.travel) (eqb_refl c.profile))

pub same-departure : (a b : Configuration) → T (same a b) → a.departure ≡ b.departure
same-departure a b h = ap (λ (c : Configuration). c.departure) (same_eq a b h)

first_here : (o : Configuration) (os : List Configuration) → first_at o.departure (o ∷ os) ≡ Some o
first_here o os = rw (eq-eqb o.departure o.departure refl)

first_past : (o c : Configuration) (os : List Configuration) → (o.departure ≡ c.departure → ⊥) → first_at c.departure os ≡ Some c → first_at c.departure (o ∷ os) ≡ Some c
first_past o c os h e = rw (ne_eqb o.departure c.departure h) e

pub picked : (m : ℕ) (os : List Configuration) → Picked m os (soonest m os)
picked m [] = λ o h k. absurd h
picked m (o ∷ os) = outer (leb m o.departure) refl (soonest m os) (picked m os)
  where
    inner : (c : Configuration) → m ≤ o.departure → Picked m os (Some c) → (b : Bool) → leb o.departure c.departure ≡ b → Picked m (o ∷ os) (Some (cond b o c))
    inner c h p true e = (
      or_left (same o o) (offers os o) (same_refl o),
      h,
      λ z hz k. ⊎_elim (λ hs. omega (arith, same-departure z o hs)) (λ hi. omega (arith, leb-true o.departure c.departure e, p.2 z hi k)) (or_cases (same z o) (offers os z) hz),
      first_here o os,
    )
    inner c h p false e = (
      or_right (same c o) (offers os c) p.0,
      p.1,
      λ z hz k. ⊎_elim (λ hs. omega (arith, same-departure z o hs, leb-false o.departure c.departure e)) (λ hi. p.2 z hi k) (or_cases (same z o) (offers os z) hz),
      first_past o c os (λ q. omega (arith, leb-false o.departure c.departure e)) p.3,
    )

    taken : (p : Option Configuration) → m ≤ o.departure → Picked m os p → Picked m (o ∷ os) (sooner_than o p)
    taken None h p = (
      or_left (same o o) (offers os o) (same_refl o),
      h,
      λ z hz k. ⊎_elim (λ hs. omega (arith, same-departure z o hs)) (λ hi. absurd (p z hi k)) (or_cases (same z o) (offers os z) hz),
      first_here o os,
    )
    taken (Some c) h p = inner c h p (leb o.departure c.departure) refl

    passed : (p : Option Configuration) → o.departure < m → Picked m os p → Picked m (o ∷ os) p
    passed None h p = λ z hz k. ⊎_elim (λ hs. omega (arith, same-departure z o hs)) (λ hi. p z hi k) (or_cases (same z o) (offers os z) hz)
    passed (Some c) h p = (
      or_right (same c o) (offers os c) p.0,
      p.1,
      λ z hz k. ⊎_elim (λ hs. omega (arith, same-departure z o hs)) (λ hi. p.2 z hi k) (or_cases (same z o) (offers os z) hz),
      first_past o c os (λ q. omega (arith, p.1)) p.3,
    )

    outer : (b : Bool) → leb m o.departure ≡ b → (p : Option Configuration) → Picked m os p → Picked m (o ∷ os) (cond b (sooner_than o p) p)
    outer true e p h = taken p (leb-true m o.departure e) h
    outer false e p h = passed p (leb-false m o.departure e) h

-- ---- how many offers leave after a second: fewer after a later one that is offered itself

one_most : (d : ℕ) (o : Configuration) → one_after d o ≤ 1
one_most d o = by_case (λ n. n ≤ 1) (ltb d o.departure) 1 0 (λ e. omega arith) (λ e. omega arith)

pub after_all : (d : ℕ) (os : List Configuration) → after d os ≤ length os
after_all d [] = omega arith
after_all d (o ∷ os) = omega (arith, one_most d o, after_all d os)

one_later : (d e : ℕ) (o : Configuration) → d ≤ e → one_after e o ≤ one_after d o
one_later d e o h = go (ltb e o.departure) refl (ltb d o.departure) refl
  where
    go : (b : Bool) → ltb e o.departure ≡ b → (a : Bool) → ltb d o.departure ≡ a → cond b 1 0 ≤ cond a 1 0
    go true p true q = omega arith
    go false p true q = omega arith
    go false p false q = omega arith
    go true p false q = absurd (omega (arith, ltb-true e o.departure p, ltb-false d o.departure q))

one_here : (d : ℕ) (c : Configuration) → d < c.departure → one_after c.departure c < one_after d c
one_here d c h = rw (lt-ltb d c.departure h, le-ltb c.departure c.departure (omega arith)) (omega arith)

after-later : (d e : ℕ) (os : List Configuration) → d ≤ e → after e os ≤ after d os
after-later d e [] h = omega arith
after-later d e (o ∷ os) h = omega (arith, one_later d e o h, after-later d e os h)

pub after_fewer : (d : ℕ) (c : Configuration) (os : List Configuration) → d < c.departure → T (offers os c) → after c.departure os < after d os
after_fewer d c [] h k = absurd k
after_fewer d c (o ∷ os) h k = ⊎_elim here (there (after_fewer d c os h)) (or_cases (same c o) (offers os c) k)
  where
    here : T (same c o) → after c.departure (o ∷ os) < after d (o ∷ os)
    here s = rw (← same_eq c o s) (omega (arith, one_here d c h, after-later d c.departure os (omega arith)))

    there : (T (offers os c) → after c.departure os < after d os) → T (offers os c) → after c.departure (o ∷ os) < after d (o ∷ os)
    there ih t = omega (arith, one_later d c.departure o (omega arith), ih t)
