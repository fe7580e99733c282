-- One step of the walk over the constraint table. Assumes nothing.
use Prim.Native.Nat.{ℕ, suc, ◌+◌, ◌≤◌, ◌<◌}
use native.Mathlib.Omega.{arith}
use native.Mathlib.Numerals.{add-one}
use mathlib.Core.Path.{◌≡◌, refl, sym, ap, ap₂, ◌∙◌}
use mathlib.Core.Bool.{Bool, true, false, cond}
use mathlib.Core.List.{List, [], ◌∷◌, ◌++◌}
use lib.Dec.{leb, eqb}
use lib.ListN.{drop}
use Rattle.rules.specs.Energy.{tabulate}
use Rattle.rules.specs.Kinds.{Inequality}
use Rattle.rules.specs.Tally.{counted}
use Rattle.rules.specs.Verdict.{inequalities, Test, test, inequality_tests, position_after, record_tests, violated, Verdict, found, verdict_from, answer_of, ruling}
use Rattle.rules.specs.declared.sizes.Configuration.{Configuration}
use Rattle.rules.specs.declared.sizes.Constraint.{Constraint}
use Rattle.rules.specs.declared.answers.Tally.{Tally}
use Rattle.rules.specs.declared.answers.Answer.{Answer}
use Rattle.rules.specs.declared.answers.Answer.TheVariants.{Accepted}
use Rattle.tables_views.proofs.Tabulated.{tabulate_from, tabulate-past}
use Rattle.verdict.specs.Found.{Finding, fails, shortfall_of, finding_from, finding_of, tests_in}
use Rattle.std.specs.Prelude.{Ok, Err}
use Rattle.verdict.specs.declared.records.Failing.{Failing}
use Rattle.verdict.proofs.Tallies.{counted-twice, counted_none}

-- what a finding leaves of a record of kind k at position n, after the tests that a tally counts: on with the rest, or the end
abbrev after : (k n : ℕ) → Tally → (rest : Tally → Verdict) → Finding → Verdict
after k n t rest (Ok i) = rest (counted k i t)
after k n t rest (Err f) = found (violated (test k n f.inequality f.short false)) (counted k f.inequality t)

-- i inequalities were tested before
found-names : (k n i : ℕ) (t : Tally) (qs : List Inequality) (more : List Test)
    → verdict_from (counted k i t) (inequality_tests k n (suc i) qs ++ more) ≡ after k n t (λ u. verdict_from u more) (finding_from i qs)
found-names k n i t [] more = refl
found-names k n i t (q ∷ qs) more = go (leb q.left q.right) (found-names k n (suc i) t qs more)
  where
    twice : counted k 1 (counted k i t) ≡ counted k (suc i) t
    twice = counted-twice k i 1 t ∙ ap (λ j. counted k j t) (add-one i)

    go : (b : Bool) → verdict_from (counted k (suc i) t) (inequality_tests k n (suc (suc i)) qs ++ more) ≡ after k n t (λ u. verdict_from u more) (finding_from (suc i) qs)
        → cond b (verdict_from (counted k 1 (counted k i t)) (inequality_tests k n (suc (suc i)) qs ++ more))
        (found (violated (test k n (suc i) (shortfall_of q) b)) (counted k 1 (counted k i t)))
        ≡ after k n t (λ u. verdict_from u more) (cond b (finding_from (suc i) qs) (fails (suc i) (shortfall_of q)))
    go true e = ap (λ (u : Tally). verdict_from u (inequality_tests k n (suc (suc i)) qs ++ more)) twice ∙ e
    go false e = ap (λ (u : Tally). found (violated (test k n (suc i) (shortfall_of q) false)) u) twice

position_le : (j n k : ℕ) → position_after j n k ≤ n
position_le j n k = go (eqb j k)
  where
    go : (b : Bool) → cond b n 0 ≤ n
    go true = omega arith
    go false = omega arith

-- a position is at most the number of records before it
pub position_within : (j n k i q : ℕ) → n ≤ i → q ≡ position_after j n k → q + 1 ≤ i + 1
position_within j n k i q h e = omega (arith, position_le j n k)

-- ---- m records, from record i on, after p records of kind j and the tests that a tally counts

module _ (m : ℕ) (at : ℕ → Constraint) (s : List Configuration) where
  abbrev pub records_left : Tally → (j p i : ℕ) → Verdict
  records_left t j p i = verdict_from t (record_tests j p s (drop i (tabulate m at)))

  -- v is the verdict of all records
  module _ (v : Verdict) (t : Tally) (j p i : ℕ) (left : v ≡ records_left t j p i) where
    pub all_passed : (file : ℕ) (a : Answer) → a ≡ Accepted → m ≤ i → record { answer = a; tally = t } ≡ ruling file v
    all_passed file a ea h =
        ap (λ (x : Answer). record { answer = x; tally = t }) ea
        ∙ sym (ap (ruling file) (left ∙ ap (λ cs. verdict_from t (record_tests j p s cs)) (tabulate-past m at i h)))

    -- c is the record that was read, q its position, x what was found of it, k how many tests that is, u the tally with them
    module _ (h : i < m) (c : Constraint) (ec : c ≡ at i) (q : ℕ) (eq : q ≡ position_after j p c.kind)
        (x : Finding) (ex : x ≡ finding_of (inequalities s c)) (k : ℕ) (ek : k ≡ tests_in x) (u : Tally) (eu : u ≡ counted c.kind k t) where
      abbrev rest : Tally → Verdict
      rest w = records_left w c.kind (suc q) (suc i)

      tallied : (y : Finding) → x ≡ y → u ≡ counted c.kind (tests_in y) t
      tallied y e = eu ∙ ap (λ a. counted c.kind a t) (ek ∙ ap tests_in e)

      next_record : v ≡ after c.kind q t rest x
      next_record =
          left
          ∙ ap (λ cs. verdict_from t (record_tests j p s cs)) (tabulate_from m at i h)
          ∙ ap (λ (d : Constraint). verdict_from t (record_tests j p s (d ∷ drop (suc i) (tabulate m at)))) (sym ec)
          ∙ ap (λ r. verdict_from t (inequality_tests c.kind r 1 (inequalities s c) ++ record_tests c.kind (suc r) s (drop (suc i) (tabulate m at)))) (sym eq)
          ∙ ap (λ (w : Tally). verdict_from w (inequality_tests c.kind q 1 (inequalities s c) ++ record_tests c.kind (suc q) s (drop (suc i) (tabulate m at))))
          (sym (counted_none c.kind t))
          ∙ found-names c.kind q 0 t (inequalities s c) (record_tests c.kind (suc q) s (drop (suc i) (tabulate m at)))
          ∙ ap (after c.kind q t rest) (sym ex)

      pub record_passes : (y : ℕ) → x ≡ Ok y → v ≡ records_left u c.kind (q + 1) (i + 1)
      record_passes y e =
          next_record
          ∙ ap (after c.kind q t rest) e
          ∙ ap rest (sym (tallied (Ok y) e))
          ∙ ap₂ (records_left u c.kind) (sym (add-one q)) (sym (add-one i))

      -- r is the answer that was made of it
      pub record_fails : (file : ℕ) (f : Failing) → x ≡ Err f
          → (r : Answer) → r ≡ answer_of file (violated (test c.kind q f.inequality f.short false)) → record { answer = r; tally = u } ≡ ruling file v
      record_fails file f e r er =
          ap₂ (λ (a : Answer) (w : Tally). record { answer = a; tally = w }) er (tallied (Err f) e)
          ∙ sym (ap (ruling file) (next_record ∙ ap (after c.kind q t rest) e))
