-- In tables that keep the limits a shortfall is at most the greatest H and the greatest seconds of a record, and a record's tests can be counted. Assumes nothing.
use Prim.Native.Nat.{ℕ, zero, suc, ◌+◌, ◌*◌, ◌≤◌, ◌<◌}
use native.Mathlib.Omega.{arith}
use mathlib.Core.Path.{◌≡◌, sym, ap, ◌∙◌, subst}
use mathlib.Core.Bool.{Bool, true, false, cond}
use mathlib.Core.List.{List, [], ◌∷◌}
use lib.Dec.{leb, eqb}
use lib.ListN.{length}
use mir.Syntax.{w32}
use mir.Val.{Fits}
use Rattle.rules.specs.Limits.{most_legs, most_constraints, most_seconds}
use Rattle.rules.specs.Constraints.{no_entry}
use Rattle.rules.specs.Energy.{tabulate}
use Rattle.rules.specs.Kinds.{Inequality, ◌≤?◌, by_arrival, by_departure, departure, arrival, about, connection_rule, rule_of}
use Rattle.rules.specs.Tally.{counted, Countable}
use Rattle.rules.specs.Verdict.{All, no_choice, choice_at, inequalities, position_after}
use Rattle.rules.specs.declared.sizes.Configuration.{Configuration}
use Rattle.rules.specs.declared.sizes.Constraint.{Constraint}
use Rattle.rules.specs.declared.answers.Tally.{Tally}
use Rattle.rules_theorems.proofs.All.{all_at}
use Rattle.rules_theorems.proofs.Tabulate.{tabulate-at, tabulate-length}
use Rattle.rules_theorems.proofs.Tests.{two_each}
use Rattle.verdict.specs.Found.{Finding, fails, shortfall_of, finding_from, finding_of, tests_in}
use Rattle.verdict.specs.Within.{Timely, Brief, Within, Fair, most_shortfall, Failed}
use Rattle.std.specs.Prelude.{Err, Option, Some, None}
use Rattle.verdict.specs.declared.records.Failing.{Failing}
use Rattle.verdict.proofs.Tallies.{record_countable, fair_record}
use Rattle.verdict.proofs.RecordSteps.{position_within}

abbrev Small : Inequality → Type 0
Small q = q.left ≤ most_shortfall

-- a shortfall is at most its left side
found-small : (i : ℕ) (qs : List Inequality) → All Small qs → (f : Failing) → finding_from i qs ≡ Err f → f.short ≤ most_shortfall
found-small i [] small f g = (cc)
found-small i (q ∷ qs) small f g = go (leb q.left q.right) (found-small (suc i) qs small.1 f) g
  where
    go : (b : Bool) → (finding_from (suc i) qs ≡ Err f → f.short ≤ most_shortfall)
        → cond b (finding_from (suc i) qs) (fails (suc i) (shortfall_of q)) ≡ Err f → f.short ≤ most_shortfall
    go true more g = more g
    go false more g = let same : record { inequality = suc i; short = shortfall_of q } ≡ f = cc in omega (arith, ap (λ (x : Failing). x.short) same, small.0)

module _ (low high type : ℕ) (one two : Configuration) (lt : low ≤ most_seconds) (ft : Timely one) (st : Timely two) where
  connection-small : All Small (connection_rule low high type one two)
  connection-small = go (eqb type by_arrival) (eqb type by_departure)
    where
      go : (a d : Bool) → let x : (Option ℕ) = cond a (Some (arrival one)) (cond d (Some (departure one)) None) in
          All Small (about x (λ t. t + low ≤? departure two) ∷ about x (λ t. departure two ≤? t + high) ∷ [])
      go true d = (omega arith, (omega arith, tt))
      go false true = (omega arith, (omega arith, tt))
      go false false = (omega arith, (omega arith, tt))

  -- each left side of each kind
  rule_small : (k : ℕ) → All Small (rule_of k low high type one two)
  unfolding rule_of
  rule_small zero = (omega arith, tt)
  rule_small (suc zero) = (omega arith, (omega arith, tt))
  rule_small (suc (suc zero)) = (omega arith, tt)
  rule_small (suc (suc (suc zero))) = (omega arith, tt)
  rule_small (suc (suc (suc (suc zero)))) = (omega arith, tt)
  rule_small (suc (suc (suc (suc (suc zero))))) = connection-small
  rule_small (suc (suc (suc (suc (suc (suc k)))))) = (omega arith, tt)

-- rows are at most as many as legs may be
pub within_rows : (cs : List Constraint) (n : ℕ) (at : ℕ → Configuration) → Within cs (tabulate n at) → n ≤ most_legs
within_rows cs n at within = subst (λ k. k ≤ most_legs) (tabulate-length n at) within.rows

-- a position after record i fits
pub position_fits : (m : ℕ) (at : ℕ → Constraint) (s : List Configuration) → Within (tabulate m at) s
    → (i j n k q : ℕ) → i < m → n ≤ i → q ≡ position_after j n k → Fits w32 (q + 1)
position_fits m at s within i j n k q h l e =
    record { fits = omega (arith, position_within j n k i q l e, within.records, tabulate-length m at) }

-- record i, as it was read, keeps them too
brief_at : (m : ℕ) (at : ℕ → Constraint) (s : List Configuration) → Within (tabulate m at) s → (i : ℕ) → i < m → (c : Constraint) → c ≡ at i → Brief c
brief_at m at s within i h c ec = subst Brief (tabulate-at m at (no_entry 0) i h ∙ sym ec) (all_at Brief (tabulate m at) (no_entry 0) within.brief (omega arith) i)

-- what `violated` asks for: c is the record that was read, v what was found of it
pub failed : (m : ℕ) (at : ℕ → Constraint) (s : List Configuration) → Within (tabulate m at) s → (i : ℕ) → i < m
    → (c : Constraint) → c ≡ at i → (v : Finding) → v ≡ finding_of (inequalities s c) → (f : Failing) → v ≡ Err f → Failed c.kind f.short
failed m at s within i h c ec v ev f g =
    let brief = brief_at m at s within i h c ec in
    let first : Timely (choice_at s c.first) = all_at Timely s no_choice within.timely (omega arith) c.first in
    let second : Timely (choice_at s c.second) = all_at Timely s no_choice within.timely (omega arith) c.second in
    record {
      known = brief.0;
      small =
          found-small 0 (inequalities s c)
          (rule_small c.low c.high c.connection (choice_at s c.first) (choice_at s c.second) brief.1 first second c.kind) f (sym ev ∙ g);
    }

-- ---- a record has at most two tests

tests_few : (i : ℕ) (qs : List Inequality) → tests_in (finding_from i qs) ≤ i + length qs
tests_few i [] = omega arith
tests_few i (q ∷ qs) = go (leb q.left q.right) (tests_few (suc i) qs)
  where
    go : (b : Bool) → tests_in (finding_from (suc i) qs) ≤ suc i + length qs
        → tests_in (cond b (finding_from (suc i) qs) (fails (suc i) (shortfall_of q))) ≤ i + suc (length qs)
    go true more = omega arith
    go false more = omega arith

two_tests : (s : List Configuration) (c : Constraint) (x : Finding) → x ≡ finding_of (inequalities s c) → tests_in x ≤ 2
two_tests s c x e = rw e (omega (arith, tests_few 0 (inequalities s c), two_each s c))

-- what `with` asks for: c is the record that was read, x what was found of it, k how many tests that is
pub records_countable : (m : ℕ) (at : ℕ → Constraint) (s : List Configuration) → Within (tabulate m at) s
    → (i : ℕ) → i < m → (c : Constraint) → c ≡ at i → (x : Finding) → x ≡ finding_of (inequalities s c)
    → (k : ℕ) → k ≡ tests_in x → (t : Tally) → Fair (most_legs + 2 * i) t → Countable c.kind k t
records_countable m at s within i h c ec x ex k ek t f =
    record_countable most_legs i m c.kind k t f h (subst (λ n. n ≤ most_constraints) (tabulate-length m at) within.records) (omega arith)
    (brief_at m at s within i h c ec).0 (omega (arith, ek, two_tests s c x ex))

-- u is the tally with them
pub records_fair : (s : List Configuration) (i : ℕ) (t : Tally) → Fair (most_legs + 2 * i) t → (c : Constraint) (x : Finding) → x ≡ finding_of (inequalities s c)
    → (k : ℕ) → k ≡ tests_in x → (u : Tally) → u ≡ counted c.kind k t → Fair (most_legs + 2 * (i + 1)) u
records_fair s i t f c x ex k ek u eu = fair_record most_legs i c.kind k t u f eu (omega (arith, ek, two_tests s c x ex))
