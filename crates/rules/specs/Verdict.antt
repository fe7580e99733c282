-- The verdict: "The check stops at the first inequality that fails." And what accepted means.
use Rattle.std.specs.Prelude.{ℕ, suc, ◌-◌, ◌≤◌, Bool, false, cond, List, [], ◌∷◌, ◌++◌, map, T, leb, eqb, get_or}
use Rattle.rules.specs.Answers.{violation}
use Rattle.rules.specs.Tally.{no_tests, counted}
use Rattle.rules.specs.Timetable.{Row, configuration, offers}
use Rattle.rules.specs.Kinds.{Inequality, rule_of, not_offered}
use Rattle.rules.specs.declared.sizes.Configuration.{Configuration}
use Rattle.rules.specs.declared.sizes.Constraint.{Constraint}
use Rattle.rules.specs.declared.answers.Tally.{Tally}
use Rattle.rules.specs.declared.answers.Ruling.{Ruling}
use Rattle.rules.specs.declared.answers.Violation.{Violation}
use Rattle.rules.specs.declared.answers.Answer.{Answer}
use Rattle.rules.specs.declared.answers.Answer.TheVariants.{Accepted, Violated}

-- the lists that the draft offers, row by row
abbrev pub offered : List Row → List (List Configuration)
offered rows = map (λ r. r.list) rows

abbrev pub no_choice : Configuration
no_choice = configuration 0 0 0

-- the choice of a row
abbrev pub choice_at : List Configuration → ℕ → Configuration
choice_at s i = get_or s i no_choice

-- a record's inequalities, of the choices of its two rows
abbrev pub inequalities : List Configuration → Constraint → List Inequality
inequalities s c = rule_of c.kind c.low c.high c.connection (choice_at s c.first) (choice_at s c.second)

-- ---- accepted, as a statement

abbrev pub All : {A : Type 0} → (A → Type 0) → List A → Type 0
All P [] = Unit {0}
All P (x ∷ xs) = P x × All P xs

abbrev pub Holds : Inequality → Type 0
Holds q = q.left ≤ q.right

-- each leg's choice is offered in the draft, and there are as many choices as rows
abbrev pub Offered : List (List Configuration) → List Configuration → Type 0
Offered [] [] = Unit {0}
Offered [] (c ∷ s) = ⊥
Offered (o ∷ os) [] = ⊥
Offered (o ∷ os) (c ∷ s) = T (offers o c) × Offered os s

-- every inequality of a record holds
abbrev pub Kept : List Configuration → Constraint → Type 0
Kept s c = All Holds (inequalities s c)

pub record Acceptable (draft : List (List Configuration)) (cs : List Constraint) (s : List Configuration) : Type 0 where
  pub offered : Offered draft s
  pub kept : All (Kept s) cs

-- ---- document 01's tests as one list in its order: each row's choice, then each inequality of the constraint table

-- a test, and what a verdict says where it fails
pub record Test : Type 0 where
  pub kind : ℕ
  pub position : ℕ
  pub inequality : ℕ
  pub shortfall : ℕ
  pub passes : Bool

abbrev pub test : (kind position inequality shortfall : ℕ) → Bool → Test
test k n i m b = record { kind = k; position = n; inequality = i; shortfall = m; passes = b }

abbrev pub row_test : ℕ → Bool → Test
row_test n b = test not_offered n 0 0 b

-- the choices of the rows from row n on
abbrev pub row_tests : ℕ → List (List Configuration) → List Configuration → List Test
row_tests n [] [] = []
row_tests n [] (c ∷ s) = row_test n false ∷ []
row_tests n (o ∷ os) [] = row_test n false ∷ []
row_tests n (o ∷ os) (c ∷ s) = row_test n (offers o c) ∷ row_tests (suc n) os s

-- the inequalities of one record, from inequality i on: the shortfall is left minus right
abbrev pub inequality_tests : (kind position : ℕ) → ℕ → List Inequality → List Test
inequality_tests k n i [] = []
inequality_tests k n i (q ∷ qs) = test k n i (q.left - q.right) (leb q.left q.right) ∷ inequality_tests k n (suc i) qs

-- the position within its list of a record of one kind that follows n records of another
abbrev pub position_after : (before : ℕ) → ℕ → (kind : ℕ) → ℕ
position_after j n k = cond (eqb j k) n 0

-- the constraint table, after n records of kind j
abbrev pub record_tests : ℕ → ℕ → List Configuration → List Constraint → List Test
record_tests j n s [] = []
record_tests j n s (c ∷ cs) =
    inequality_tests c.kind (position_after j n c.kind) 1 (inequalities s c)
    ++ record_tests c.kind (suc (position_after j n c.kind)) s cs

-- first each row in order, then the constraint table in order
unfoldable pub tests : List (List Configuration) → List Constraint → List Configuration → List Test
tests draft cs s = row_tests 0 draft s ++ record_tests not_offered 0 s cs

-- ---- the verdict: the tests up to and with the first that fails, and how many of each kind were made

pub data Finding : Type 0 where
  accepted : Finding
  violated : Test → Finding

pub record Verdict : Type 0 where
  pub finding : Finding
  pub tally : Tally

abbrev pub found : Finding → Tally → Verdict
found f t = record { finding = f; tally = t }

-- after the tests that a tally counts
abbrev pub verdict_from : Tally → List Test → Verdict
verdict_from t [] = found accepted t
verdict_from t (x ∷ xs) = cond x.passes (verdict_from (counted x.kind 1 t) xs) (found (violated x) (counted x.kind 1 t))

unfoldable pub verdict : List (List Configuration) → List Constraint → List Configuration → Verdict
verdict draft cs s = verdict_from no_tests (tests draft cs s)

-- ---- the answer names the test that fails, and the solution's file

abbrev pub shown_in : (file : ℕ) → Test → Violation
shown_in file x = violation x.kind x.position x.inequality x.shortfall file

abbrev pub answer_of : (file : ℕ) → Finding → Answer
answer_of file accepted = Accepted
answer_of file (violated x) = Violated (shown_in file x)

abbrev pub ruling : (file : ℕ) → Verdict → Ruling
ruling file v = record { answer = answer_of file v.finding; tally = v.tally }
