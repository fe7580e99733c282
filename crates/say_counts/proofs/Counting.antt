-- Counting off the tables: the entries end at the first fill number; the records of smaller kinds stand in front. Assumes nothing.
use Prim.Native.Nat.{ℕ, zero, suc, ◌+◌, ◌-◌, ◌/◌, ◌^◌, ◌≤◌, ◌<◌}
use native.Mathlib.Omega.{arith}
use native.Mathlib.Numerals.{add-one}
use mathlib.Core.Path.{◌≡◌, refl, ap, sym, ◌∙◌}
use mathlib.Core.List.{List, [], ◌∷◌, ◌++◌}
use native.Mathlib.Nat.{sub-zero, mul-div_cancel}
use lib.ListN.{length, drop, replicate}
use lib.Dec.{ltb}
use borrow.Author.Tests.{ne_eqb, lt-ltb, le-ltb}
use Rattle.rules.specs.Limits.{constraint_width, unsigned_fill}
use Rattle.rules.specs.Lists.{flat, over}
use Rattle.rules.specs.declared.sizes.Constraint.{Constraint}
use Rattle.rules.proofs.Lists.{lead_within, tabulate-length, flat-length}
use Rattle.rules_theorems.specs.Demands.{Unfilled}
use Rattle.text_read.specs.Places.{is_other, up_to}
use Rattle.tables_views.specs.View.{constraint_at, constraints_in}
use Rattle.tables_views.proofs.Tabulated.{tabulate_from, tabulate-past}
use Rattle.say_counts.specs.Counts.{kinds_below, record_at}

-- ---- tables that were lent filled

up_to_fill : (w : List ℕ) (n : ℕ) → Unfilled w → up_to unsigned_fill (w ++ replicate n unsigned_fill) ≡ length w
up_to_fill [] zero h = refl
up_to_fill [] (suc n) h = refl
up_to_fill (x ∷ w) n h = rw (ne_eqb x unsigned_fill (λ e. omega (arith, h.0))) (ap suc (up_to_fill w n h.1))

drop-same : {A : Type 0} (k n : ℕ) (a : A) → drop k (replicate n a) ≡ replicate (n - k) a
drop-same zero n a = ap (λ (m : ℕ). replicate m a) (sym (sub-zero n))
drop-same (suc k) zero a = ap (λ (m : ℕ). replicate m a) (let e : 0 ≡ 0 - suc k = omega arith in e)
drop-same (suc k) (suc n) a = drop-same k n a ∙ ap (λ (m : ℕ). replicate m a) (let e : n - k ≡ suc n - suc k = omega arith in e)

-- a table that was lent filled has its numbers up to the first fill number
pub numbers-read : (w : List ℕ) (n : ℕ) → Unfilled w → up_to unsigned_fill (over w (replicate n unsigned_fill)) ≡ length w
unfolding over
numbers-read w n h = rw (drop-same (length w) n unsigned_fill) (up_to_fill w (n - length w) h)

module _ {A : Type 0} (numbers : A → List ℕ) (width : ℕ) (wide : (x : A) → length (numbers x) ≡ width) where
  -- what `entries` answers is how many were read (`no_field_is_fill` gives the premise for each table)
  pub entries-read : (xs : List A) (n : ℕ) → 0 < width → Unfilled (flat numbers xs)
      → up_to unsigned_fill (over (flat numbers xs) (replicate n unsigned_fill)) / width ≡ length xs
  entries-read xs n h u = rw (numbers-read (flat numbers xs) n u, flat-length numbers width wide xs) (mul-div_cancel (length xs) h)

-- ---- the records of smaller kinds

module _ (kind m : ℕ) (t : List ℕ) where
  -- those from record i on
  abbrev pub below_from : ℕ → ℕ
  below_from i = length (kinds_below kind (drop i (constraints_in m t)))

  pub below_stop : (i : ℕ) {c : Constraint} {r : ℕ} → i + below_from i ≡ r → i < m → c ≡ constraint_at t i → kind ≤ c.kind → i ≡ r
  below_stop i e h q l =
      let none : below_from i ≡ 0 = rw (tabulate_from m (constraint_at t) i h, le-ltb _ kind (rw q at l)) in
      omega arith

  pub below_more : (i : ℕ) {c : Constraint} {r : ℕ} → i + below_from i ≡ r → i < m → c ≡ constraint_at t i → c.kind < kind → i + 1 + below_from (i + 1) ≡ r
  below_more i e h q l =
      let one : below_from i ≡ suc (below_from (suc i)) = rw (tabulate_from m (constraint_at t) i h, lt-ltb _ kind (rw q at l)) in
      rw (add-one i) (omega arith)

  pub below_end : (i : ℕ) {r : ℕ} → i + below_from i ≡ r → m ≤ i → i ≡ r
  below_end i e h =
      let none : below_from i ≡ 0 = rw (tabulate-past m (constraint_at t) i h) in
      omega arith

-- ---- the record at a position

module _ (t : List ℕ) (kind position : ℕ) {m before : ℕ} (counted : m ≡ up_to unsigned_fill t / constraint_width)
    (found : before ≡ length (kinds_below kind (constraints_in m t))) where
  pub place_fits : length t < 2 ^ 64 → position < 2 ^ 32 → before + position < 2 ^ 64
  place_fits h k =
      let in-front = lead_within (λ c. ltb c.kind kind) (constraints_in m t) in
      let all = tabulate-length m (constraint_at t) in
      omega (arith, lead_within (is_other unsigned_fill) t)

  pub record_found : {r : Constraint} → r ≡ constraint_at t (before + position) → r ≡ record_at t kind position
  record_found e = e ∙ rw (found, counted)
