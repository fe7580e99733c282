-- Of document 01's tests, in their order: the first that fails, and those that are made.
use Rattle.std.specs.Prelude.{ℕ, ◌+◌, ◌≤◌, ◌≡◌, false, cond, List, [], ◌∷◌, ◌++◌, T, eqb, length}
use Rattle.rules.specs.declared.answers.Tally.{Tally}
use Rattle.rules.specs.Lists.{sum_of}
use Rattle.rules.specs.Kinds.{not_offered, connection}
use Rattle.rules.specs.Tally.{kind_count}
use Rattle.rules.specs.Verdict.{All, Test, Finding, accepted, violated}

abbrev pub first_failing : List Test → Finding
first_failing [] = accepted
first_failing (x ∷ xs) = cond x.passes (first_failing xs) (violated x)

-- up to and with the first that fails
abbrev pub made : List Test → List Test
made [] = []
made (x ∷ xs) = x ∷ cond x.passes (made xs) []

-- how many there are of one kind
abbrev pub of_kind : ℕ → List Test → ℕ
of_kind k [] = 0
of_kind k (x ∷ xs) = cond (eqb x.kind k) 1 0 + of_kind k xs

abbrev pub Passes : Test → Type 0
Passes x = T x.passes

-- a list of tests in which those before this one pass, and this one fails
pub record FirstFailing (xs : List Test) (x : Test) : Type 0 where
  pub passed : List Test
  pub rest : List Test
  pub whole : xs ≡ passed ++ x ∷ rest
  pub before : All Passes passed
  pub fails : x.passes ≡ false

-- the numbers of a violation: 0 for a choice that is not offered, else an inequality 1 or 2 and a shortfall of at least 1
pub record Numbered (kind inequality shortfall : ℕ) : Type 0 where
  pub choice : kind ≡ not_offered → (inequality ≡ 0) × (shortfall ≡ 0)
  pub constraint : (kind ≡ not_offered → ⊥) → (1 ≤ inequality) × (1 ≤ shortfall)
  pub two : inequality ≤ 2
  pub known : kind ≤ connection

-- of a tally: six counts that add up to its total
pub record AddsUp (t : Tally) : Type 0 where
  pub six : length t.kinds ≡ kind_count
  pub sum : t.total ≡ sum_of (λ n. n) t.kinds
