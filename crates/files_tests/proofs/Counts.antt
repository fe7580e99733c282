-- A profile looked up, and the entries of a list one after the other. Assumes nothing.
use Prim.Native.Nat.{ℕ, zero, suc, ◌+◌, ◌*◌, ◌≤◌, ◌<◌}
use mathlib.Core.Path.{◌≡◌, refl, ap, sym, ◌∙◌}
use mathlib.Core.Bool.{Bool, true, false, not, cond, ◌&&◌, ◌||◌}
use mathlib.Core.List.{List, [], ◌∷◌, ◌++◌}
use native.Mathlib.Omega.{arith}
use native.Mathlib.Numerals.{add-one}
use native.Mathlib.Nat.{not-suc-le-zero}
use lib.Dec.{eqb}
use lib.ListN.{length}
use Rattle.std.specs.Prelude.{Option, Some, None, is_some}
use borrow.Author.Tests.{not-true, not-false}
use Rattle.rules.specs.Limits.{profile_width}
use Rattle.rules.specs.Lists.{every, place_from}
use Rattle.rules.specs.Answers.{not_there, wrong_samples}
use Rattle.rules.specs.Energy.{tabulate}
use Rattle.rules.specs.Timetable.{configuration}
use Rattle.rules.specs.declared.sizes.Configuration.{Configuration}
use Rattle.rules.proofs.Lists.{every_more, tabulate-more}
use Rattle.tables_ids.specs.Column.{column, place_of, Records, Rising}
use Rattle.tables_ids.proofs.Column.{column-length}
use Rattle.tables_views.specs.View.{profile_at, configuration_at}
use Rattle.files_tests.specs.declared.lists.Seen.{Seen}
use Rattle.files_tests.specs.declared.lists.Entry.{Entry}
use Rattle.files_tests.specs.Counts.{count_at, list_at, lasts_for, list_fault, Sighted, SightedBy, Sees}

-- an entry that is one of the table's
pub entry_in : {profiles : List ℕ} {m i : ℕ} → Records profile_width m profiles → i < m → (i + 1) * profile_width ≤ length profiles
entry_in r h = omega (arith, r.whole)

-- ---- a profile looked up

place_within : {A : Type 0} (test : A → Bool) (xs : List A) (n i : ℕ) → place_from n test xs ≡ Some i → i < n + length xs
place_within test [] n i e = let z : ◌≡◌ {A = ℕ} 0 1 = cc in absurd (omega arith)
place_within test (x ∷ xs) n i e = go (test x) (place_within test xs (suc n) i) e
  where
    go : (t : Bool) → (place_from (suc n) test xs ≡ Some i → i < suc n + length xs) → cond t (Some n) (place_from (suc n) test xs) ≡ Some i → i < n + suc (length xs)
    go true rest q = let same : n ≡ i = cc in omega arith
    go false rest q = omega (arith, rest q)

module _ {profiles : List ℕ} {m rising : ℕ} (id : ℕ) {f : Option ℕ} (r : Rising profile_width m rising profiles) (e : f ≡ place_of id (column profile_width m profiles)) where
  pub found_in : {i : ℕ} → f ≡ Some i → (i + 1) * profile_width ≤ length profiles
  found_in {i} q =
      let below : i < 0 + length (column profile_width m profiles) =
      place_within (λ x. eqb x id) (column profile_width m profiles) 0 i (sym e ∙ q) in
      entry_in r.records (omega (arith, column-length profile_width m profiles))

  pub count_found_lem : {i n : ℕ} → f ≡ Some i → n ≡ (profile_at profiles i).count → Some n ≡ (count_at profiles m id)
  count_found_lem q h = rw (← e, q, h)

  pub count_missing : f ≡ None → None ≡ (count_at profiles m id)
  count_missing q = rw (← e, q)

-- ---- an entry more of a list

module _ (count : ℕ → Option ℕ) (seen : Seen) (entry : Entry) where
  abbrev known : Configuration → Bool
  known c = is_some (count c.profile)

  abbrev lasting : Configuration → Bool
  lasting c = lasts_for c.travel (count c.profile)

  abbrev of_entry : ℕ → Configuration
  of_entry departure = configuration departure entry.travel entry.profile

  module _ {x : Option ℕ} (e : x ≡ (count entry.profile)) where
    pub sees_more : {n : ℕ} {wrong : Bool} → x ≡ Some n → wrong ≡ seen.wrong || not (eqb n entry.travel) → Sees count seen entry (Some (record { before = Some entry; wrong = wrong }))
    sees_more {n} {wrong} q h list departure s =
        let c : Configuration = of_entry departure in
        let there : count entry.profile ≡ Some n = sym (sym q ∙ e) in
        record {
          there = every_more known list c ∙ rw (there, s.there);
          wrong = h ∙ rw (every_more lasting list c, there, s.wrong) (either (every lasting list) (eqb n entry.travel));
          last = rw there (refl, λ w. go seen.wrong (eqb n entry.travel) (sym h ∙ w));
        }
      where
        either : (a b : Bool) → not a || not b ≡ not (a && b)
        either true b = refl
        either false b = refl

        go : (a b : Bool) → a || not b ≡ false → b ≡ true
        go false true w = refl
        go false false w = (cc)
        go true b w = (cc)

    pub sees_gone : x ≡ None → Sees count seen entry None
    sees_gone q list departure s = rw (sym (sym q ∙ e))

  pub sees_again : seen.before ≡ Some entry → Sees count seen entry (Some seen)
  sees_again any list departure s =
      let last : (is_some (count entry.profile) ≡ true) × (seen.wrong ≡ false → lasts_for entry.travel (count entry.profile) ≡ true) = rw any at s.last in
      record {
        there = every_more known list (of_entry departure) ∙ rw (s.there, last.0);
        wrong = go seen.wrong refl last.1;
        last = s.last;
      }
    where
      go : (w : Bool) → seen.wrong ≡ w → (seen.wrong ≡ false → lasts_for entry.travel (count entry.profile) ≡ true) → seen.wrong ≡ not (every lasting (list ++ of_entry departure ∷ []))
      go true w l =
          let e : every lasting list ≡ false = not-true _ (sym s.wrong ∙ w) in
          let q : every lasting (list ++ of_entry departure ∷ []) ≡ false = every_more lasting list (of_entry departure) ∙ rw e in
          w ∙ ap not (sym q)
      go false w l =
          let e : every lasting list ≡ true = not-false _ (sym s.wrong ∙ w) in
          let q : every lasting (list ++ of_entry departure ∷ []) ≡ true = every_more lasting list (of_entry departure) ∙ rw (e, l w) in
          w ∙ ap not (sym q)

-- ---- a list

every_off : {A : Type 0} (p : A → Bool) (n : ℕ) (f : ℕ → A) (k : ℕ) → k < n → p (f k) ≡ false → every p (tabulate n f) ≡ false
every_off p zero f k h e = absurd (not-suc-le-zero h)
every_off p (suc n) f zero h e = rw e
every_off p (suc n) f (suc k) h e = go (p (f 0)) (every_off p n (λ i. f (suc i)) k (omega arith) e)
  where
    go : (t : Bool) → every p (tabulate n (λ i. f (suc i))) ≡ false → t && every p (tabulate n (λ i. f (suc i))) ≡ false
    go true q = q
    go false q = refl

abbrev pub listed : (table : List ℕ) (first count : ℕ) → List Configuration
listed table first count = list_at (configuration_at table) first count

-- the loop's invariant at entry k
pub record Seeing (table : List ℕ) (first : ℕ) (lookup : ℕ → Option ℕ) (seen : Seen) (k : ℕ) : Type 0 where
  pub sighted : Sighted lookup (listed table first k) seen

module _ {table : List ℕ} {first : ℕ} {lookup : ℕ → Option ℕ} where
  pub seeing_none : Seeing table first lookup (record { before = None; wrong = false }) 0
  seeing_none = record { sighted = record { there = refl; wrong = refl; last = tt } }

  module _ {seen : Seen} {k : ℕ} (s : Seeing table first lookup seen k) where
    pub seeing_on : {c : Configuration} {x : Option Seen} {next : Seen} → c ≡ configuration_at table (first + k) → Sees lookup seen (record { travel = c.travel; profile = c.profile }) x → x ≡ Some next
        → Seeing table first lookup next (k + 1)
    seeing_on {c} {x} {next} e sees q =
        let one : SightedBy lookup (listed table first k) (configuration c.departure c.travel c.profile) (Some next) = rw q at (sees (listed table first k) c.departure s.sighted) in
        record { sighted = rw (add-one, tabulate-more k (λ j. configuration_at table (first + j)), ← e) one }

    pub seeing_gone : {count : ℕ} {c : Configuration} {x : Option Seen} → k < count → c ≡ configuration_at table (first + k) → Sees lookup seen (record { travel = c.travel; profile = c.profile }) x → x ≡ None
        → Some not_there ≡ (list_fault lookup (listed table first count))
    seeing_gone {count} {c} {x} h e sees q =
        let gone : is_some (lookup c.profile) ≡ false = rw q at (sees (listed table first k) c.departure s.sighted) in
        let off : every (λ d. is_some (lookup d.profile)) (listed table first count) ≡ false =
        every_off (λ d. is_some (lookup d.profile)) count (λ j. configuration_at table (first + j)) k h (rw e at gone) in
        rw off

    all : {count : ℕ} → count ≤ k → k ≤ count → Sighted lookup (listed table first count) seen
    all {count} h l = let n : k ≡ count = omega arith in rw n at s.sighted

    pub seeing_wrong : {count : ℕ} → count ≤ k → k ≤ count → seen.wrong ≡ true → Some wrong_samples ≡ (list_fault lookup (listed table first count))
    seeing_wrong {count} h l w =
        let q : every (λ c. lasts_for c.travel (lookup c.profile)) (listed table first count) ≡ false = not-true _ (sym (all h l).wrong ∙ w) in
        rw ((all h l).there, q)

    pub seeing_all : {count : ℕ} → count ≤ k → k ≤ count → seen.wrong ≡ false → None ≡ (list_fault lookup (listed table first count))
    seeing_all {count} h l w =
        let q : every (λ c. lasts_for c.travel (lookup c.profile)) (listed table first count) ≡ true = not-false _ (sym (all h l).wrong ∙ w) in
        rw ((all h l).there, q)

pub ruleset counts =
    (entry_in, found_in, count_found_lem, count_missing, sees_more, sees_gone, sees_again, seeing_none, seeing_on, seeing_gone, seeing_wrong, seeing_all)
