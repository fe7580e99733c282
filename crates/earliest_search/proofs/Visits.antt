-- The turn of a record over the search's tables: kept, its row raised, or never kept. Assumes nothing.
use Prim.Native.Nat.{ℕ, zero, suc, ◌+◌, ◌%◌, ◌≤◌, ◌<◌, ◌^◌}
use native.Mathlib.Omega.{arith}
use mathlib.Core.Path.{◌≡◌, sym, ap, ap₂, ◌∙◌, subst}
use mathlib.Core.Logic.{⊎_elim}
use mathlib.Core.Bool.{Bool, true, false}
use mathlib.Core.List.{List, [], ◌∷◌}
use lib.Dec.{T}
use lib.ListN.{length, get_or, set}
use Rattle.rules.specs.Limits.{most_listed}
use Rattle.rules.specs.Energy.{tabulate}
use Rattle.rules.specs.Timetable.{same, offers}
use Rattle.rules.specs.Verdict.{All, Kept, Offered, choice_at, no_choice, inequalities, Acceptable}
use Rattle.rules.specs.Merge.{SameTravel}
use Rattle.rules.specs.Earliest.{timed_of, soonest, Late, held_back}
use Rattle.rules.specs.declared.sizes.Configuration.{Configuration}
use Rattle.rules.specs.declared.sizes.Constraint.{Constraint}
use Rattle.rules.proofs.Lists.{tabulate-length, tabulate-at}
use Rattle.rules_theorems.proofs.Tables.{same_eq}
use Rattle.tables_views.specs.View.{configuration_at, constraint_at, leg_at, list_in, constraints_in}
use Rattle.std.specs.Prelude.{Option, Some, None, Ok, Err}
use Rattle.verdict.specs.Found.{Finding, finding_of}
use Rattle.verdict.specs.Within.{Timely, Within, most_shortfall}
use Rattle.verdict.specs.declared.records.Failing.{Failing}
use Rattle.verdict.proofs.KindRows.{by_choices}
use Rattle.verdict.proofs.Fits.{failed}
use Rattle.earliest_theorems.specs.Search.{Picked, Lates}
use Rattle.earliest_theorems.proofs.Soonest.{or_cases, picked}
use Rattle.earliest_theorems.proofs.Late.{late_record}
use Rattle.earliest_theorems.proofs.Search.{offered-at, step_none, step_some}
use Rattle.earliest_theorems.proofs.Proposed.{timed_in_lem}
use Rattle.earliest_offer.specs.Offer.{packed, chosen_at, next_of, Raisable, Stored, Raised}
use Rattle.earliest_offer.proofs.Packed.{unpacked, view-set}
use Rattle.earliest_search.specs.Searching.{nominal_at, timed_at, timed_in, chosen_in, Moved, Searching, Turning, found_by, LateAt, Onward, Turned}
use Rattle.earliest_search.specs.declared.rounds.Late as code
use Rattle.earliest_search.specs.declared.rounds.Turn.TheVariants as turn
use Rattle.earliest_search.proofs.Findings.{late_of, late_found}
use Rattle.earliest_search.proofs.Moving.{tabulate-every, every_tabulated, moved_set, timed_in_stays, based_stays}

pub kept_not-raised : turn.Kept ≡ turn.Raised → ⊥
kept_not-raised e = let z : ◌≡◌ {A = ℕ} 0 1 = cc in omega arith

pub kept_not_never : turn.Kept ≡ turn.Never → ⊥
kept_not_never e = let z : ◌≡◌ {A = ℕ} 0 1 = cc in omega arith

pub raised-not_never : turn.Raised ≡ turn.Never → ⊥
raised-not_never e = let z : ◌≡◌ {A = ℕ} 0 1 = cc in omega arith

pub offers_all : (P : Configuration → Type 0) (os : List Configuration) (c : Configuration) → All P os → T (offers os c) → P c
offers_all P [] c h k = absurd k
offers_all P (o ∷ os) c h k = ⊎_elim (λ s. subst P (sym (same_eq c o s)) h.0) (λ i. offers_all P os c h.1 i) (or_cases (same c o) (offers os c) k)

-- offers of one travel time a row
alike_timed : (n : ℕ) (t : ℕ → ℕ) (f : ℕ → List Configuration) (x s : List Configuration) → Offered (tabulate n (λ i. timed_of (t i) (f i))) x
    → Offered (tabulate n (λ i. timed_of (t i) (f i))) s → SameTravel x s
alike_timed zero t f [] [] h k = tt
alike_timed zero t f [] (b ∷ s) h k = absurd k
alike_timed zero t f (a ∷ x) s h k = absurd h
alike_timed (suc n) t f [] s h k = absurd h
alike_timed (suc n) t f (a ∷ x) [] h k = absurd k
alike_timed (suc n) t f (a ∷ x) (b ∷ s) h k =
    (sym ((timed_in_lem (t 0) a (f 0)).0 h.0).1 ∙ ((timed_in_lem (t 0) b (f 0)).0 k.0).1, alike_timed n (λ i. t (suc i)) (λ i. f (suc i)) x s h.1 k.1)

module _ (n m : ℕ) (legs configurations constraints : List ℕ) (w : Searching n m legs configurations constraints) where
  abbrev os : List (List Configuration)
  os = timed_in n legs configurations

  abbrev cs : List Constraint
  cs = constraints_in m constraints

  abbrev x : List Configuration
  x = chosen_in n legs configurations

  pub choice_is : (r : ℕ) → r < n → choice_at x r ≡ chosen_at legs configurations r
  choice_is r h = tabulate-at n (chosen_at legs configurations) no_choice r h

  long : length x ≡ n
  long = tabulate-length n (chosen_at legs configurations)

  offered-row : (r : ℕ) → r < n → T (offers (timed_at legs configurations r) (chosen_at legs configurations r))
  offered-row r h =
      subst (λ o. T (offers o (chosen_at legs configurations r))) (tabulate-at n (timed_at legs configurations) [] r h)
      (subst (λ c. T (offers (get_or os r []) c)) (choice_is r h) (offered-at os x r (rw long h) w.low.offered))

  listed-row : (r : ℕ) → r < n → T (offers (list_in legs configurations r) (chosen_at legs configurations r)) × ((nominal_at legs configurations r).travel ≡ (chosen_at legs configurations r).travel)
  listed-row r h = (timed_in_lem (nominal_at legs configurations r).travel (chosen_at legs configurations r) (list_in legs configurations r)).0 (offered-row r h)

  timely_row : (r : ℕ) → r < n → Timely (chosen_at legs configurations r)
  timely_row r h = offers_all Timely (list_in legs configurations r) (chosen_at legs configurations r) (w.based.timely r h) (listed-row r h).0

  within : Within cs x
  within =
      record {
        rows = rw long w.based.rows;
        records = rw (tabulate-length m (constraint_at constraints)) w.based.records;
        timely = tabulate-every Timely n (chosen_at legs configurations) timely_row;
        brief = w.based.brief;
      }

  alike : (a b : List Configuration) → Offered os a → Offered os b → SameTravel a b
  alike = alike_timed n (λ i. (nominal_at legs configurations i).travel) (list_in legs configurations)

  named : All (λ (c : Constraint). (c.first < length os) × (c.second < length os)) cs
  named = subst (λ k. All (λ (c : Constraint). (c.first < k) × (c.second < k)) cs) (sym (tabulate-length n (timed_at legs configurations))) w.based.named

  -- a row that is raised: what the leaf seeks is the row's next offer of the search
  next_is : (r by : ℕ) → r < n → soonest ((choice_at x r).departure + by) (get_or os r []) ≡ next_of legs configurations r by
  next_is r by h =
      ap₂ (λ (c : Configuration) (o : List Configuration). soonest (c.departure + by) o) (choice_is r h) (tabulate-at n (timed_at legs configurations) [] r h)
      ∙ ap (λ (t : ℕ). soonest ((chosen_at legs configurations r).departure + by) (timed_of t (list_in legs configurations r))) (listed-row r h).1

module _ (n m i : ℕ) (legs configurations constraints : List ℕ) (t : Turning n m i legs configurations constraints)
    (c : Constraint) (ec : c ≡ constraint_at constraints i) (v : Finding)
    (ev : v ≡ found_by c (chosen_at legs configurations c.first) (chosen_at legs configurations c.second)) where
  abbrev w : Searching n m legs configurations constraints
  w = t.searching

  abbrev xs : List Configuration
  xs = chosen_in n legs configurations

  rows : (c.first < n) × (c.second < n)
  rows =
      subst (λ (d : Constraint). (d.first < n) × (d.second < n)) (sym ec)
      (every_tabulated (λ (d : Constraint). (d.first < n) × (d.second < n)) m (constraint_at constraints) w.based.named i t.within)

  found_is : v ≡ finding_of (inequalities xs c)
  found_is =
      by_choices xs c (chosen_at legs configurations c.first) (chosen_at legs configurations c.second)
      (sym (choice_is n m legs configurations constraints w c.first rows.0)) (sym (choice_is n m legs configurations constraints w c.second rows.1)) v ev

  lates : Lates xs (λ s. Kept s c) (Kept xs c) (late_of c v)
  lates =
      subst (Lates xs (λ s. Kept s c) (Kept xs c)) (late_found c 0 (inequalities xs c) ∙ ap (late_of c) (sym found_is))
      (late_record xs c (rw (tabulate-length n (chosen_at legs configurations)) rows.0) (rw (tabulate-length n (chosen_at legs configurations)) rows.1))

  -- the record itself
  abbrev here : Constraint
  here = constraint_at constraints i

  pub late_kept : (y : ℕ) → v ≡ Ok y → LateAt n m i legs configurations constraints None
  late_kept y e =
      record {
        kept = λ q. subst (λ (d : Constraint). Kept xs d) ec (subst (λ (o : Finding). Lates xs (λ s. Kept s c) (Kept xs c) (late_of c o)) e lates);
        raises = λ l q. (cc);
        late = λ l q. (cc);
      }

  module _ (f : Failing) (e : v ≡ Err f) where
    is_late : Lates xs (λ s. Kept s c) (Kept xs c) (Some (record { row = held_back c f.inequality; by = f.short }))
    is_late = subst (λ (o : Finding). Lates xs (λ s. Kept s c) (Kept xs c) (late_of c o)) e lates

    row_in : held_back c f.inequality < n
    row_in = rw (← tabulate-length n (chosen_at legs configurations)) is_late.0

    short_small : f.short ≤ most_shortfall
    short_small =
        (failed m (constraint_at constraints) xs (within n m legs configurations constraints w) i t.within c ec v found_is f e).small

    pub short_fits : f.short < 2 ^ 32
    short_fits = let h : f.short ≤ most_shortfall = short_small in omega arith

    abbrev found_late : (row : ℕ) → code.Late
    found_late row = record { row = row; by = f.short }

    pub late_fails : (row : ℕ) → row ≡ held_back c f.inequality → LateAt n m i legs configurations constraints (Some (record { row = row; by = f.short }))
    late_fails row er =
        let h : row < n = rw er row_in in
        let small : f.short ≤ most_shortfall = short_small in
        record {
          kept = λ q. (cc);
          raises = λ l q.
              let one : found_late row ≡ l = cc in
              rw (← one)
              (record {
                there = omega (arith, w.based.wide);
                few = w.based.few row h;
                early = omega (arith, timely_row n m legs configurations constraints w row h);
              });
          late = λ l q.
              let one : found_late row ≡ l = cc in
              rw (← one)
              (subst (λ (d : Constraint). Lates xs (λ s. Kept s d) (Kept xs d) (Some (record { row = row; by = f.short }))) ec
              (subst (λ (r : ℕ). Lates xs (λ s. Kept s c) (Kept xs c) (Some (record { row = r; by = f.short }))) (sym er) is_late));
        }

module _ (n m i : ℕ) (legs configurations constraints : List ℕ) (t : Turning n m i legs configurations constraints)
    (o : Option code.Late) (la : LateAt n m i legs configurations constraints o) where
  abbrev ws : Searching n m legs configurations constraints
  ws = t.searching

  abbrev xt : List Configuration
  xt = chosen_in n legs configurations

  module _ (r : code.Late) (is : o ≡ Some r) where
    pub visit_raises : Raisable legs configurations r.row r.by
    visit_raises = la.raises r is

    abbrev late : Late
    late = record { row = r.row; by = r.by }

    is_late_here : Lates xt (λ s. Kept s (constraint_at constraints i)) (Kept xt (constraint_at constraints i)) (Some late)
    is_late_here = la.late r is

    row_here : r.row < n
    row_here = rw (← tabulate-length n (chosen_at legs configurations)) is_late_here.0

    keeps : (s : List Configuration) → Acceptable (timed_in n legs configurations) (constraints_in m constraints) s → Kept s (constraint_at constraints i)
    keeps s a = every_tabulated (Kept s) m (constraint_at constraints) a.kept i t.within

    module _ (b : Bool) (legs' : List ℕ) (z : Raised legs configurations r.row r.by b legs') where
      picks : (p : Option Configuration) → next_of legs configurations r.row r.by ≡ p
          → Picked ((choice_at xt r.row).departure + r.by) (get_or (timed_in n legs configurations) r.row []) p
      picks p q =
          subst (Picked ((choice_at xt r.row).departure + r.by) (get_or (timed_in n legs configurations) r.row []))
          (next_is n m legs configurations constraints ws r.row r.by row_here ∙ q)
          (picked ((choice_at xt r.row).departure + r.by) (get_or (timed_in n legs configurations) r.row []))

      pub visit_never : b ≡ false → Turned n m i legs configurations constraints turn.Never legs'
      visit_never q =
          record {
            kept = λ f. absurd (kept_not_never (sym f));
            raised = λ f. absurd (raised-not_never (sym f));
            never = λ f.
                step_none (timed_in n legs configurations) (constraints_in m constraints) (alike n m legs configurations constraints ws) (named n m legs configurations constraints ws)
                (λ s. Kept s (constraint_at constraints i)) (Kept xt (constraint_at constraints i)) keeps xt late ws.low is_late_here (picks None (z.none_left q).0);
          }

      onward : Stored legs configurations r.row r.by legs' → Onward n m legs configurations constraints legs'
      onward s =
          let full : ℕ = packed ((leg_at legs r.row).nominal % most_listed) s.place in
          let u = unpacked ((leg_at legs r.row).nominal % most_listed) s.place (omega arith) in
          let mv : Moved n legs legs' = rw s.stores (moved_set n legs r.row full ws.based.wide row_here u.1) in
          let view : chosen_in n legs' configurations ≡ set xt r.row (configuration_at configurations ((leg_at legs r.row).first + s.place)) =
          ap (λ (l : List ℕ). chosen_in n l configurations) s.stores
          ∙ view-set n legs configurations r.row full row_here ws.based.wide
          ∙ ap (λ (p : ℕ). set xt r.row (configuration_at configurations ((leg_at legs r.row).first + p))) u.0 in
          let stays : timed_in n legs' configurations ≡ timed_in n legs configurations = timed_in_stays n legs legs' mv configurations in
          let step =
          step_some (timed_in n legs configurations) (constraints_in m constraints) (alike n m legs configurations constraints ws) (named n m legs configurations constraints ws)
          (λ s. Kept s (constraint_at constraints i)) (Kept xt (constraint_at constraints i)) keeps xt late ws.low is_late_here
          (configuration_at configurations ((leg_at legs r.row).first + s.place)) (picks _ s.next) in
          record {
            searching = record { based = based_stays n legs legs' mv m configurations constraints ws.based; low = rw (stays, view) step.0 };
            moved = mv;
            fewer = rw (stays, view) step.1;
          }

      pub visit_raised : b ≡ true → Turned n m i legs configurations constraints turn.Raised legs'
      visit_raised q =
          record {
            kept = λ f. absurd (kept_not-raised (sym f));
            raised = λ f. onward (z.one_left q);
            never = λ f. absurd (raised-not_never f);
          }
