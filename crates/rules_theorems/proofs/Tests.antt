-- The verdict names the first failing test of document 01's list; its numbers; how many tests are made, in all and of each kind. Assumes nothing.
use Prim.Native.Nat.{ℕ, zero, suc, ◌+◌, ◌*◌, ◌≤◌, ◌<◌}
use native.Mathlib.Omega.{arith}
use native.Mathlib.Nat.{add-zero}
use mathlib.Core.Path.{◌≡◌, refl, sym, ap, ◌∙◌, subst}
use mathlib.Core.Logic.{◌↔◌}
use mathlib.Core.Bool.{Bool, true, false, cond}
use mathlib.Core.List.{List, [], ◌∷◌, ◌++◌}
use lib.Dec.{T, eqb}
use lib.ListN.{length, length-append, get_or, set, length-set}
use lib.Seq.{get_or-set_same, get_or-set_other}
use borrow.Author.Tests.{leb-false, eqb-true, eqb-false}
use Rattle.rules.specs.declared.sizes.Configuration.{Configuration}
use Rattle.rules.specs.declared.sizes.Constraint.{Constraint}
use Rattle.rules.specs.declared.answers.Tally.{Tally}
use Rattle.rules.specs.Lists.{sum_of}
use Rattle.rules.specs.Timetable.{offers}
use Rattle.rules.specs.Kinds.{Inequality, Rule, no_rule, rules, rule_of, not_offered, connection}
use Rattle.rules.specs.Tally.{kind_count, no_tests, counted}
use Rattle.rules.specs.Verdict.{All, choice_at, inequalities, Test, row_test, row_tests, inequality_tests, position_after, record_tests, tests, accepted, violated, found, verdict_from, verdict}
use Rattle.rules_theorems.specs.Tests.{first_failing, made, of_kind, Passes, FirstFailing, Numbered, AddsUp}
use Rattle.rules.proofs.Truth.{all_append}
use Rattle.rules_theorems.proofs.All.{all_second, all_at}
use Rattle.rules_theorems.proofs.Ordered.{OfKind}
use Rattle.rules_theorems.proofs.Verdicts.{not_accepted_lem, passing, verdict_finding}

-- ---- of any list of tests: the first failing one

first_failing_lem : (xs : List Test) (x : Test) → first_failing xs ≡ violated x → FirstFailing xs x
first_failing_lem [] x e = absurd (not_accepted_lem (sym e))
first_failing_lem (y ∷ xs) x e = go (first_failing_lem xs x) y.passes refl e
  where
    go : (first_failing xs ≡ violated x → FirstFailing xs x)
        → (b : Bool) → y.passes ≡ b → cond b (first_failing xs) (violated y) ≡ violated x → FirstFailing (y ∷ xs) x
    go ih true t e =
        let f = ih e in
        record { passed = y ∷ f.passed; rest = f.rest; whole = ap (λ l. y ∷ l) f.whole; before = (subst T (sym t) tt, f.before); fails = f.fails }
    go ih false t e =
        let same : y ≡ x = cc in
        record { passed = []; rest = xs; whole = ap (λ (z : Test). z ∷ xs) same; before = tt; fails = ap (λ (z : Test). z.passes) (sym same) ∙ t }

failing_after : (passed : List Test) (x : Test) (rest : List Test) → All Passes passed → x.passes ≡ false
    → (first_failing (passed ++ x ∷ rest) ≡ violated x) × (made (passed ++ x ∷ rest) ≡ passed ++ x ∷ [])
failing_after [] x rest h f = (ap (λ b. cond b (first_failing rest) (violated x)) f, ap (λ (b : Bool). x ∷ cond b (made rest) []) f)
failing_after (y ∷ passed) x rest h f = go y.passes h.0 (failing_after passed x rest h.1 f)
  where
    go : (b : Bool) → T b → (first_failing (passed ++ x ∷ rest) ≡ violated x) × (made (passed ++ x ∷ rest) ≡ passed ++ x ∷ [])
        → (cond b (first_failing (passed ++ x ∷ rest)) (violated y) ≡ violated x) × (y ∷ cond b (made (passed ++ x ∷ rest)) [] ≡ y ∷ passed ++ x ∷ [])
    go true t ih = (ih.0, ap (λ (l : List Test). y ∷ l) ih.1)
    go false t ih = absurd t

all_made : (xs : List Test) → All Passes xs → made xs ≡ xs
all_made [] h = refl
all_made (x ∷ xs) h = go x.passes h.0 (all_made xs h.1)
  where
    go : (b : Bool) → T b → made xs ≡ xs → x ∷ cond b (made xs) [] ≡ x ∷ xs
    go true t ih = ap (λ (l : List Test). x ∷ l) ih
    go false t ih = absurd t

-- ---- how many tests are made

sum_more : (ns : List ℕ) (k m : ℕ) → k < length ns → sum_of (λ n. n) (set ns k (get_or ns k 0 + m)) ≡ sum_of (λ n. n) ns + m
sum_more [] k m h = absurd (omega arith)
sum_more (n ∷ ns) zero m h = omega arith
sum_more (n ∷ ns) (suc k) m h = omega (arith, sum_more ns k m (omega arith))

pub counted_adds_up : (k m : ℕ) (t : Tally) → k < kind_count → AddsUp t → AddsUp (counted k m t)
counted_adds_up k m t h a =
    record {
      six = length-set t.kinds k (get_or t.kinds k 0 + m) ∙ a.six;
      sum = omega (arith, a.sum, sum_more t.kinds k m (omega (arith, a.six)));
    }

abbrev Known : Test → Type 0
Known x = x.kind < kind_count

adds_from : (t : Tally) (xs : List Test) → All Known xs → AddsUp t → AddsUp (verdict_from t xs).tally
adds_from t [] h a = a
adds_from t (x ∷ xs) h a =
    let one = counted_adds_up x.kind 1 t h.0 a in
    go x.passes one (adds_from (counted x.kind 1 t) xs h.1 one)
  where
    go : (b : Bool) → AddsUp (counted x.kind 1 t) → AddsUp (verdict_from (counted x.kind 1 t) xs).tally
        → AddsUp (cond b (verdict_from (counted x.kind 1 t) xs) (found (violated x) (counted x.kind 1 t))).tally
    go true one ih = ih
    go false one ih = one

total_from : (t : Tally) (xs : List Test) → (verdict_from t xs).tally.total ≡ t.total + length (made xs)
total_from t [] = omega arith
total_from t (x ∷ xs) = go x.passes (total_from (counted x.kind 1 t) xs)
  where
    go : (b : Bool) → (verdict_from (counted x.kind 1 t) xs).tally.total ≡ t.total + 1 + length (made xs)
        → (cond b (verdict_from (counted x.kind 1 t) xs) (found (violated x) (counted x.kind 1 t))).tally.total
        ≡ t.total + suc (length (cond b (made xs) []))
    go true ih = omega arith
    go false ih = omega arith

-- the count of a kind, one more of another or of the same
count_more : (ns : List ℕ) (j k m : ℕ) → j < length ns → get_or (set ns j (get_or ns j 0 + m)) k 0 ≡ get_or ns k 0 + cond (eqb j k) m 0
count_more ns j k m h = go (eqb j k) refl
  where
    go : (b : Bool) → eqb j k ≡ b → get_or (set ns j (get_or ns j 0 + m)) k 0 ≡ get_or ns k 0 + cond b m 0
    go true e = rw (← eqb-true j k e) (get_or-set_same ns j (get_or ns j 0 + m) 0 h)
    go false e = get_or-set_other ns j k (get_or ns j 0 + m) 0 (λ f. eqb-false j k e (sym f)) ∙ sym (add-zero (get_or ns k 0))

none_yet : (k : ℕ) → get_or no_tests.kinds k 0 ≡ 0
none_yet = all_at (λ n. n ≡ 0) no_tests.kinds 0 (refl, (refl, (refl, (refl, (refl, (refl, tt)))))) refl

kind_from : (k : ℕ) (t : Tally) (xs : List Test) → All Known xs → length t.kinds ≡ kind_count
    → get_or (verdict_from t xs).tally.kinds k 0 ≡ get_or t.kinds k 0 + of_kind k (made xs)
kind_from k t [] h six = omega arith
kind_from k t (x ∷ xs) h six =
    let one = count_more t.kinds x.kind k 1 (omega (arith, h.0)) in
    go x.passes one (kind_from k (counted x.kind 1 t) xs h.1 (length-set t.kinds x.kind (get_or t.kinds x.kind 0 + 1) ∙ six))
  where
    go : (b : Bool) → get_or (counted x.kind 1 t).kinds k 0 ≡ get_or t.kinds k 0 + cond (eqb x.kind k) 1 0
        → get_or (verdict_from (counted x.kind 1 t) xs).tally.kinds k 0 ≡ get_or (counted x.kind 1 t).kinds k 0 + of_kind k (made xs)
        → get_or (cond b (verdict_from (counted x.kind 1 t) xs) (found (violated x) (counted x.kind 1 t))).tally.kinds k 0
        ≡ get_or t.kinds k 0 + (cond (eqb x.kind k) 1 0 + of_kind k (cond b (made xs) []))
    go true one ih = omega arith
    go false one ih = omega arith

-- ---- the numbers of a test

-- a test's kind is known, and where it fails its numbers are a violation's
abbrev Fair : Test → Type 0
Fair x = (x.kind ≤ connection) × (x.passes ≡ false → Numbered x.kind x.inequality x.shortfall)

row_fair : (n : ℕ) (b : Bool) → Fair (row_test n b)
row_fair n b = (omega arith, λ e. record { choice = λ z. (refl, refl); constraint = λ no. absurd (no refl); two = omega arith; known = omega arith })

rows_fair : (n : ℕ) (draft : List (List Configuration)) (s : List Configuration) → All Fair (row_tests n draft s)
rows_fair n [] [] = tt
rows_fair n [] (c ∷ s) = (row_fair n false, tt)
rows_fair n (o ∷ os) [] = (row_fair n false, tt)
rows_fair n (o ∷ os) (c ∷ s) = (row_fair n (offers o c), rows_fair (suc n) os s)

-- the table of kinds: no rule has more than two inequalities
abbrev AtMostTwo : Rule → Type 0
AtMostTwo rule = (low high type : ℕ) (one two : Configuration) → length (rule low high type one two) ≤ 2

at_most_two : (k : ℕ) → AtMostTwo (rule_of k)
unfolding rule_of
at_most_two = all_at AtMostTwo rules no_rule (omega arith, (omega arith, (omega arith, (omega arith, (omega arith, (omega arith, tt)))))) (omega arith)

pub two_each : (s : List Configuration) (c : Constraint) → length (inequalities s c) ≤ 2
two_each s c = at_most_two c.kind c.low c.high c.connection (choice_at s c.first) (choice_at s c.second)

known_fair : (k n i : ℕ) (qs : List Inequality) → (1 ≤ k) × (k ≤ connection) → 1 ≤ i → i + length qs ≤ 3 → All Fair (inequality_tests k n i qs)
known_fair k n i [] known one two = tt
known_fair k n i (q ∷ qs) known one two = (
  (
    known.1,
    λ e. record {
      choice = λ z. omega arith;
      constraint = λ other. (one, omega (arith, leb-false q.left q.right e));
      two = omega arith;
      known = known.1;
    },
  ),
  known_fair k n (suc i) qs known (omega arith) (omega arith),
)

records_fair : (j n : ℕ) (s : List Configuration) (cs : List Constraint) → All OfKind cs → All Fair (record_tests j n s cs)
records_fair j n s [] kinds = tt
records_fair j n s (c ∷ cs) kinds =
    let p = position_after j n c.kind in
    all_append Fair (inequality_tests c.kind p 1 (inequalities s c)) (record_tests c.kind (suc p) s cs)
    (known_fair c.kind p 1 (inequalities s c) (kinds.0.from_first_kind, kinds.0.to_last_kind) (omega arith) (omega (arith, two_each s c)))
    (records_fair c.kind (suc p) s cs kinds.1)

tests_fair : (draft : List (List Configuration)) (cs : List Constraint) (s : List Configuration) → All OfKind cs → All Fair (tests draft cs s)
unfolding tests
tests_fair draft cs s kinds = all_append Fair (row_tests 0 draft s) (record_tests not_offered 0 s cs) (rows_fair 0 draft s) (records_fair not_offered 0 s cs kinds)

-- ---- at most legs plus twice the constraints

made_le : (xs : List Test) → length (made xs) ≤ length xs
made_le [] = omega arith
made_le (x ∷ xs) = go (made_le xs) x.passes
  where
    go : length (made xs) ≤ length xs → (b : Bool) → suc (length (cond b (made xs) [])) ≤ suc (length xs)
    go ih true = omega arith
    go ih false = omega arith

record_count : (k n i : ℕ) (qs : List Inequality) → length (inequality_tests k n i qs) ≡ length qs
record_count k n i [] = refl
record_count k n i (q ∷ qs) = ap suc (record_count k n (suc i) qs)

records_count : (j n : ℕ) (s : List Configuration) (cs : List Constraint) → length (record_tests j n s cs) ≤ 2 * length cs
records_count j n s [] = omega arith
records_count j n s (c ∷ cs) =
    let p = position_after j n c.kind in
    omega (
      arith,
      length-append (inequality_tests c.kind p 1 (inequalities s c)) (record_tests c.kind (suc p) s cs),
      record_count c.kind p 1 (inequalities s c),
      two_each s c,
      records_count c.kind (suc p) s cs,
    )

rows_count : (n : ℕ) (draft : List (List Configuration)) (s : List Configuration) → length draft ≡ length s → length (row_tests n draft s) ≡ length s
rows_count n [] [] e = refl
rows_count n [] (c ∷ s) e = omega arith
rows_count n (o ∷ os) [] e = omega arith
rows_count n (o ∷ os) (c ∷ s) e = let l : length os ≡ length s = omega arith in ap suc (rows_count (suc n) os s l)

-- ---- of the tests of document 01

module _ (draft : List (List Configuration)) (cs : List Constraint) (s : List Configuration) where
  -- a violation: it is the first failing test that the verdict names
  pub names_the_first : (x : Test) → ((verdict draft cs s).finding ≡ violated x) ↔ FirstFailing (tests draft cs s) x
  names_the_first x =
      let is = verdict_finding draft cs s in (
        λ e. first_failing_lem (tests draft cs s) x (sym is ∙ e),
        λ f. is ∙ ap first_failing f.whole ∙ (failing_after f.passed x f.rest f.before f.fails).0,
      )

  -- of records of the five kinds: 0 for kind 0; else inequality 1 or 2, and a shortfall of at least 1
  pub shortfalls : All OfKind cs → (x : Test) → (verdict draft cs s).finding ≡ violated x → Numbered x.kind x.inequality x.shortfall
  shortfalls kinds x e =
      let f = (names_the_first x).0 e in
      (all_second Fair f.passed (x ∷ f.rest) (subst (All Fair) f.whole (tests_fair draft cs s kinds))).0.1 f.fails

  -- the tally counts the tests that were made, in all and of each kind
  pub total_made : (verdict draft cs s).tally.total ≡ length (made (tests draft cs s))
  unfolding verdict
  total_made = omega (arith, total_from no_tests (tests draft cs s))

  known : All OfKind cs → All Known (tests draft cs s)
  known kinds = go (tests draft cs s) (tests_fair draft cs s kinds)
    where
      go : (xs : List Test) → All Fair xs → All Known xs
      go [] h = tt
      go (x ∷ xs) h = (omega (arith, h.0.0), go xs h.1)

  pub kind_made : All OfKind cs → (k : ℕ) → get_or (verdict draft cs s).tally.kinds k 0 ≡ of_kind k (made (tests draft cs s))
  unfolding verdict
  kind_made kinds k = omega (arith, none_yet k, kind_from k no_tests (tests draft cs s) (known kinds) refl)

  -- six counts that add up to it
  pub adds_up : All OfKind cs → AddsUp (verdict draft cs s).tally
  unfolding verdict
  adds_up kinds = adds_from no_tests (tests draft cs s) (known kinds) (record { six = refl; sum = refl })

  -- where none fails, all of them are made
  pub total_accepted : (verdict draft cs s).finding ≡ accepted → (verdict draft cs s).tally.total ≡ length (tests draft cs s)
  total_accepted e = total_made ∙ ap length (all_made (tests draft cs s) ((passing (tests draft cs s)).0 (sym (verdict_finding draft cs s) ∙ e)))

  -- else the total is the position of the first that fails, counted from 1
  pub total_position : (x : Test) (f : FirstFailing (tests draft cs s) x) → (verdict draft cs s).tally.total ≡ length f.passed + 1
  total_position x f =
      total_made
      ∙ ap (λ (xs : List Test). length (made xs)) f.whole
      ∙ ap length (failing_after f.passed x f.rest f.before f.fails).1
      ∙ length-append f.passed (x ∷ [])

  -- at most legs plus twice the constraints
  pub total_bound : length draft ≡ length s → (verdict draft cs s).tally.total ≤ length s + 2 * length cs
  unfolding tests
  total_bound e =
      omega (
        arith,
        total_made,
        made_le (tests draft cs s),
        length-append (row_tests 0 draft s) (record_tests not_offered 0 s cs),
        rows_count 0 draft s e,
        records_count not_offered 0 s cs,
      )
