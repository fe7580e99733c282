-- What a search for the earliest timetable keeps, whatever order it goes in: over rows of offers, and records that name rows.
use Rattle.std.specs.Prelude.{ℕ, ◌+◌, ◌≤◌, ◌<◌, ◌≡◌, cond, List, [], ◌∷◌, T, ltb, length, Option, Some, None}
use Rattle.rules.specs.Lists.{sum_of}
use Rattle.rules.specs.Timetable.{offers}
use Rattle.rules.specs.Verdict.{choice_at, All, Offered, Kept, Acceptable}
use Rattle.rules.specs.Merge.{SameTravel}
use Rattle.rules.specs.Earliest.{Late}
use Rattle.rules.specs.declared.sizes.Configuration.{Configuration}
use Rattle.rules.specs.declared.sizes.Constraint.{Constraint}
use Rattle.earliest_theorems.specs.Statement.{NoLater, first_at, FirstListed}

-- ---- the offers

-- what is picked of a list from second m on: nothing where there is nothing, and else an offer than which none leaves sooner, the first listed
abbrev pub Picked : ℕ → List Configuration → Option Configuration → Type 0
Picked m os None = (o : Configuration) → T (offers os o) → m ≤ o.departure → ⊥
Picked m os (Some c) =
    T (offers os c) × (m ≤ c.departure) × ((o : Configuration) → T (offers os o) → m ≤ o.departure → c.departure ≤ o.departure) × (first_at c.departure os ≡ Some c)

-- how many offers leave after a second
abbrev pub one_after : ℕ → Configuration → ℕ
one_after d o = cond (ltb d o.departure) 1 0

abbrev pub after : ℕ → List Configuration → ℕ
after d os = sum_of (one_after d) os

-- how many leave after the choices: a step passes over one of them at least, so this is what the search ends by
abbrev pub ahead : List (List Configuration) → List Configuration → ℕ
ahead [] x = 0
ahead (o ∷ os) [] = 0
ahead (o ∷ os) (c ∷ x) = after c.departure o + ahead os x

-- ---- a late row

module _ (x : List Configuration) where
  -- choices with x's travel times, none of which leaves sooner
  pub record Above (s : List Configuration) : Type 0 where
    pub travels : SameTravel x s
    pub order : NoLater x s

  -- what a late row means, where P is what a solution keeps; K where none is late
  abbrev pub Lates : (P : List Configuration → Type 0) (K : Type 0) → Option Late → Type 0
  Lates P K None = K
  Lates P K (Some l) =
      (l.row < length x) × (0 < l.by) × ((s : List Configuration) → Above s → P s → (choice_at x l.row).departure + l.by ≤ (choice_at s l.row).departure)

-- ---- the search

module _ (os : List (List Configuration)) (cs : List Constraint) where
  -- WHAT IT KEEPS: offered, first listed, and no accepted solution has any leg leaving sooner
  pub record Low (x : List Configuration) : Type 0 where
    pub offered : Offered os x
    pub firsts : FirstListed os x
    pub low : (s : List Configuration) → Acceptable os cs s → NoLater x s

  -- what it ends in
  abbrev pub Answers : Option (List Configuration) → Type 0
  Answers (Some x) = Low x × All (Kept x) cs
  Answers None = (s : List Configuration) → Acceptable os cs s → ⊥
