-- A tally that grows: no count passes the total, both stay within 32 bits, and two additions of one kind are one. Assumes nothing.
use Prim.Native.Nat.{ℕ, zero, suc, ◌+◌, ◌*◌, ◌≤◌, ◌<◌, ◌^◌}
use native.Mathlib.Omega.{arith}
use mathlib.Core.Path.{◌≡◌, refl, ap, ap₂}
use mathlib.Core.List.{List, [], ◌∷◌}
use lib.ListN.{get_or, set}
use Rattle.rules.specs.Limits.{most_legs, most_constraints}
use Rattle.rules.specs.Kinds.{not_offered}
use Rattle.rules.specs.Tally.{kind_count, no_tests, counted, Countable}
use Rattle.rules.specs.declared.answers.Tally.{Tally}
use Rattle.rules_theorems.proofs.All.{all_at}
use Rattle.verdict.specs.Within.{Fair}

le_more : (x m : ℕ) → x ≤ x + m
le_more x m = omega arith

le_same : (x : ℕ) → x ≤ x
le_same x = omega arith

more_le : (ns : List ℕ) (k m j : ℕ) → get_or (set ns k (get_or ns k 0 + m)) j 0 ≤ get_or ns j 0 + m
more_le [] k m j = omega arith
more_le (n ∷ ns) zero m zero = le_same (n + m)
more_le (n ∷ ns) zero m (suc j) = le_more (get_or ns j 0) m
more_le (n ∷ ns) (suc k) m zero = le_more n m
more_le (n ∷ ns) (suc k) m (suc j) = more_le ns k m j

pub fair_none : Fair 0 no_tests
fair_none =
    record {
      few = omega arith;
      each = all_at (λ n. n ≤ 0) no_tests.kinds 0 (le_same 0, (le_same 0, (le_same 0, (le_same 0, (le_same 0, (le_same 0, tt)))))) (le_same 0);
    }

pub fair_more : (most k m : ℕ) (t u : Tally) → Fair most t → u ≡ counted k m t → Fair (most + m) u
fair_more most k m t u f e =
    rw e (record { few = omega (arith, f.few); each = λ j. omega (arith, more_le t.kinds k m j, f.each j) })

pub fair_le : (most more : ℕ) (t : Tally) → Fair most t → most ≤ more → Fair more t
fair_le most more t f h = record { few = omega (arith, f.few); each = f.each }

pub countable : (most k m : ℕ) (t : Tally) → Fair most t → k < kind_count → most + m < 2 ^ 32 → Countable k m t
countable most k m t f h l =
    record { known = h; count_fits = omega (arith, f.few, f.each k); total_fits = omega (arith, f.few) }

-- ---- two additions of one kind

again : (ns : List ℕ) (k a b : ℕ)
    → set (set ns k (get_or ns k 0 + a)) k (get_or (set ns k (get_or ns k 0 + a)) k 0 + b) ≡ set ns k (get_or ns k 0 + (a + b))
again [] k a b = refl
again (n ∷ ns) zero a b = ap (λ x. x ∷ ns) (omega arith)
again (n ∷ ns) (suc k) a b = ap (λ (l : List ℕ). n ∷ l) (again ns k a b)

pub counted-twice : (k a b : ℕ) (t : Tally) → counted k b (counted k a t) ≡ counted k (a + b) t
counted-twice k a b t =
    let sum : t.total + a + b ≡ t.total + (a + b) = omega arith in
    ap₂ (λ (ns : List ℕ) (n : ℕ). record { kinds = ns; total = n }) (again t.kinds k a b) sum

-- none more of a kind is none more
none_more : (ns : List ℕ) (k : ℕ) → set ns k (get_or ns k 0 + 0) ≡ ns
none_more [] k = refl
none_more (n ∷ ns) zero = ap (λ x. x ∷ ns) (omega arith)
none_more (n ∷ ns) (suc k) = ap (λ (l : List ℕ). n ∷ l) (none_more ns k)

pub counted_none : (k : ℕ) (t : Tally) → counted k 0 t ≡ t
counted_none k t =
    let same : t.total + 0 ≡ t.total = omega arith in
    ap₂ (λ (ns : List ℕ) (n : ℕ). record { kinds = ns; total = n }) (none_more t.kinds k) same

-- ---- rows, in the terms of the code: t before row i, u with it

pub row_countable : (n i : ℕ) (t : Tally) → Fair i t → i < n → n ≤ most_legs → Countable not_offered 1 t
row_countable n i t f h l = countable i not_offered 1 t f (omega arith) (omega arith)

pub fair_row : (i : ℕ) (t u : Tally) → Fair i t → u ≡ counted not_offered 1 t → Fair (i + 1) u
fair_row i t u f e = fair_more i not_offered 1 t u f e

pub fair_rows : (n i : ℕ) (t : Tally) → Fair i t → i ≤ n → Fair n t
fair_rows n i t f h = fair_le i n t f h

pub fair_failed : (n i : ℕ) (t u : Tally) → Fair i t → u ≡ counted not_offered 1 t → i < n → Fair n u
fair_failed n i t u f e h = fair_le (i + 1) n u (fair_more i not_offered 1 t u f e) (omega arith)

-- ---- records: m of them after n rows

pub record_countable : (most i m k x : ℕ) (t : Tally) → Fair (most + 2 * i) t → i < m → m ≤ most_constraints → most ≤ most_legs → k < kind_count → x ≤ 2
    → Countable k x t
record_countable most i m k x t f h l q known few = countable (most + 2 * i) k x t f known (omega arith)

pub fair_record : (most i k x : ℕ) (t u : Tally) → Fair (most + 2 * i) t → u ≡ counted k x t → x ≤ 2 → Fair (most + 2 * (i + 1)) u
fair_record most i k x t u f e few = fair_le (most + 2 * i + x) (most + 2 * (i + 1)) u (fair_more (most + 2 * i) k x t u f e) (omega arith)

pub fair_start : (most : ℕ) (t : Tally) → Fair most t → Fair (most + 2 * 0) t
fair_start most t f = fair_le most (most + 2 * 0) t f (omega arith)
