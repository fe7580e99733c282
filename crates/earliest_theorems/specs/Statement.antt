-- What the earliest timetable is (document 02, E10), as a statement: "no accepted solution with those travel times has any leg leaving sooner".
use Rattle.std.specs.Prelude.{ℕ, ◌≤◌, ◌≡◌, List, [], ◌∷◌, eqb, Option, Some, None}
use Rattle.rules.specs.Lists.{first}
use Rattle.rules.specs.Timetable.{Row, choices_of}
use Rattle.rules.specs.Verdict.{offered, Acceptable}
use Rattle.rules.specs.Merge.{SameTravel}
use Rattle.rules.specs.Earliest.{timed_rows}
use Rattle.rules.specs.declared.sizes.Configuration.{Configuration}
use Rattle.rules.specs.declared.sizes.Constraint.{Constraint}

-- no leg of x leaves later than in s
abbrev pub NoLater : List Configuration → List Configuration → Type 0
NoLater [] [] = Unit {0}
NoLater [] (b ∷ s) = ⊥
NoLater (a ∷ x) [] = ⊥
NoLater (a ∷ x) (b ∷ s) = (a.departure ≤ b.departure) × NoLater x s

-- the first listed of the offers that leave at a second
abbrev pub first_at : ℕ → List Configuration → Option Configuration
first_at d os = first (λ o. eqb o.departure d) os

-- "where two offers differ only in profile, take the first listed": of offers with one travel time a row
abbrev pub FirstListed : List (List Configuration) → List Configuration → Type 0
FirstListed [] [] = Unit {0}
FirstListed [] (c ∷ x) = ⊥
FirstListed (o ∷ os) [] = ⊥
FirstListed (o ∷ os) (c ∷ x) = (first_at c.departure o ≡ Some c) × FirstListed os x

module _ (rows : List Row) (cs : List Constraint) where
  -- accepted, with the nominal travel times
  pub record Solution (s : List Configuration) : Type 0 where
    pub accepted : Acceptable (offered rows) cs s
    pub travels : SameTravel (choices_of rows) s

  pub record Earliest (x : List Configuration) : Type 0 where
    pub solution : Solution x
    pub least : (s : List Configuration) → Solution s → NoLater x s
    pub listed : FirstListed (timed_rows rows) x

  -- THE STATEMENT: a proposal is the earliest, and there is none only where there is no solution
  abbrev pub Proposal : Option (List Configuration) → Type 0
  Proposal (Some x) = Earliest x
  Proposal None = (s : List Configuration) → Solution s → ⊥
