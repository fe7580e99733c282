-- Both passes together, as the entry has them. Assumes nothing.
use Rattle.std.specs.Prelude.{Result, Ok, Err, Some, None}
use Prim.Native.Nat.{ℕ, ◌*◌, ◌/◌, ◌≤◌, ◌<◌, ◌^◌, min}
use mathlib.Core.Path.{◌≡◌, refl, sym, ap, ap₂, subst, ◌∙◌}
use mathlib.Core.List.{List, [], ◌∷◌, ◌++◌, map}
use native.Mathlib.Omega.{arith}
use lib.ListN.{length, get_or, drop, replicate, length-map, length-replicate, get_or-replicate, get_or-append}
use lib.IntN.{ℤ, pos}
use mir.Syntax.{w32}
use mir.Val.{bits}
use borrow.Author.Tests.{le-leb, lt-leb}
use Rattle.rules.specs.Limits.{most_text, most_events, node_width}
use Rattle.rules.specs.Lists.{over}
use Rattle.rules.specs.Answers.{refused, good, refusal, broken_rule, too_long, bad_header, duties_file}
use Rattle.rules.specs.Bytes.{line_feed, split_on}
use Rattle.rules.specs.Rows.{place_of_row, csv_of}
use Rattle.rules.specs.Duties.{duties_names, duties_header, Event, row_of, nodes_of, broken, balance_from, balances, node_room, events_of, not_accepted, duties_judged, duties_from, DutiesChecked, duties_checked}
use Rattle.rules.specs.declared.answers.Refusal.{Refusal}
use Rattle.rules.specs.declared.answers.BrokenRule.{BrokenRule}
use Rattle.rules.specs.declared.answers.Told.{Told}
use Rattle.rules.specs.declared.answers.Told.TheVariants.{Accepted, Broken, Refused}
use Rattle.rules.proofs.Lists.{over-length}
use Rattle.csv_marks.specs.declared.Mark.TheVariants.{Bare}
use Rattle.csv_header.specs.declared.Headed.{Headed}
use Rattle.csv_header.specs.Heading.{compared_from, end_in}
use Rattle.csv_header.proofs.FirstLine as FirstLine
use Rattle.csv_header.proofs.Below.{headless, headed-rows, below_within, below_rows}
use Rattle.duties_nodes.specs.Nodes.{view}
use Rattle.duties_nodes.proofs.Walking.{names_long}
use Rattle.duties.specs.declared.pass.Pass.{Pass}
use Rattle.duties.specs.declared.pass.Fault.{Fault}
use Rattle.duties.specs.declared.judge.Breach.{Breach}
use Rattle.duties.specs.Steps.{left_at, AllRead, Passes, all_read, at_fault}
use Rattle.duties.specs.Turns.{rest_at, Starts, Judges, all_kept, one_broken}
use Rattle.duties.specs.Entry.{Whole, Judged, keeps, breaks, Passed, Tells, accepts, tells_broken, tells_refused}
use Rattle.duties.proofs.Resting.{rest_is}

-- ---- `head_end`

module _ (text : List ℕ) (r : Headed) where
  pub head_right : Ok r ≡ compared_from duties_header Bare 0 0 text → length duties_header ≤ r.head → r.next ≡ end_in duties_names (split_on line_feed text)
  head_right = FirstLine.head_right duties_names refl text r

  pub head_short : Ok r ≡ compared_from duties_header Bare 0 0 text → r.head < length duties_header → 0 ≡ end_in duties_names (split_on line_feed text)
  head_short = FirstLine.head_short duties_names refl text r

  pub head_wrong : Err r ≡ compared_from duties_header Bare 0 0 text → 0 ≡ end_in duties_names (split_on line_feed text)
  head_wrong = FirstLine.head_wrong duties_names refl text r

-- ---- a front that is written twice

drop_front : (v t : List ℤ) → drop (length v) (v ++ t) ≡ t
drop_front [] t = refl
drop_front (x ∷ v) t = drop_front v t

over-over : (w v t : List ℤ) → length w ≡ length v → over w (over v t) ≡ over w t
unfolding over
over-over w v t e = ap (λ (k : ℕ). w ++ drop k (v ++ drop (length v) t)) e ∙ ap (λ (x : List ℤ). w ++ x) (drop_front v (drop (length v) t) ∙ ap (λ (k : ℕ). drop k t) (sym e))

-- ---- `judge_all`

module _ (text table : List ℕ) (n : ℕ) (z : List ℤ) (from : ℕ) (g : Whole text table n z from) where
  module _ (u : List ℤ) (e : u ≡ over (replicate n (pos 0)) z) where
    zeros_at : (k : ℕ) → k < n → get_or u k (pos 0) ≡ pos 0
    unfolding over
    zeros_at k h =
        ap (λ (x : List ℤ). get_or x k (pos 0)) e
        ∙ get_or-append (replicate n (pos 0)) (drop (length (replicate n (pos 0))) z) (pos 0) k (omega (arith, length-replicate n (pos 0)))
        ∙ get_or-replicate n k (pos 0) (pos 0) h

    long_u : length u ≡ length z
    long_u = ap length e ∙ over-length (replicate n (pos 0)) z (omega (arith, length-replicate n (pos 0), g.places))

    pub whole_starts : (d : List ℕ) → most_events * node_width ≡ length d → Starts text table n d u from
    whole_starts d l =
        record {
          room = g.room;
          left = g.left;
          few = g.few;
          short = g.short;
          within = g.within;
          rows_at = g.rows_at;
          nodes = g.nodes;
          places = omega (arith, g.places, long_u);
          zeros = zeros_at;
          duties = omega arith;
        }

    module _ (f : Result Unit Breach) (z' : List ℤ) (j : Judges text table n u from f z') where
      pub judged_kept : f ≡ Ok tt → (m : ℕ) → m ≡ n → Judged text table n z from (Accepted m) z'
      judged_kept q m s = subst (λ (x : ℕ). Judged text table n z from (Accepted x) z') (sym s) (go (rw q at j))
        where
          go : Judges text table n u from (Ok tt) z' → Judged text table n z from (Accepted n) z'
          go (all_kept a b) =
              let same : length (map (balance_from None (rest_at text from)) (view text table n)) ≡ length (replicate n (pos 0)) =
              length-map (view text table n) (balance_from None (rest_at text from)) ∙ names_long text table 0 n ∙ sym (length-replicate n (pos 0)) in
              keeps a
              (b
              ∙ ap (over (map (balance_from None (rest_at text from)) (view text table n))) e
              ∙ over-over (map (balance_from None (rest_at text from)) (view text table n)) (replicate n (pos 0)) z same)

      module _ (b : Breach) (q : f ≡ Err b) where
        found : (b.row ≤ most_events) × (b.place ≤ most_text) × (broken (rest_at text from) ≡ Some (record { row = b.row; number = b.rule })) × (b.place ≡ place_of_row text b.row)
        found = go (rw q at j)
          where
            go : Judges text table n u from (Err b) z'
                → (b.row ≤ most_events) × (b.place ≤ most_text) × (broken (rest_at text from) ≡ Some (record { row = b.row; number = b.rule })) × (b.place ≡ place_of_row text b.row)
            go (one_broken most far first there) = (most, far, first, there)

        -- both fit the answer
        pub judged_row : b.row < 2 ^ bits w32
        judged_row = omega (arith, found.0)

        pub judged_place : b.place < 2 ^ bits w32
        judged_place = omega (arith, found.1)

        pub judged_broken : (r : BrokenRule) → r ≡ broken_rule b.row b.rule b.place → Judged text table n z from (Broken r) z'
        judged_broken r s = subst (λ (x : BrokenRule). Judged text table n z from (Broken x) z') (sym s) (breaks found.2 found.3)

-- ---- `read_all`

module _ (room : ℕ) (text t₀ : List ℕ) (z : List ℤ) (from : ℕ) (g : Passed room text t₀ z from) where
  checked_from_lem : duties_checked text t₀ z ≡ duties_from text t₀ z (left_at room text from [])
  unfolding duties_checked
  checked_from_lem = ap (λ (x : ℕ). duties_from text t₀ z (events_of x text)) (sym g.room_is) ∙ ap (duties_from text t₀ z) g.rows

  module _ (answer : Result Pass Fault) (t : List ℕ) (h : Passes room text from t₀ answer t) where
    module _ (p : Pass) (q : answer ≡ Ok p) where
      abbrev n : ℕ
      n = p.nodes

      all : (es : List Event) × AllRead room text from t₀ es p.rows n t
      all = go (rw q at h)
        where
          go : Passes room text from t₀ (Ok p) t → (es : List Event) × AllRead room text from t₀ es p.rows p.nodes t
          go (all_read es a) = (es, a)

      read : AllRead room text from t₀ all.0 p.rows n t
      read = all.1

      events : all.0 ≡ rest_at text from
      events = rest_is room text from [] all.0 read.left

      pub read_whole : Whole text t n z from
      read_whole =
          record {
            room = room;
            left = read.left ∙ ap good events;
            few = omega (arith, read.count, read.few, ap length events);
            short = g.begins.short;
            within = g.begins.within;
            rows_at = g.begins.rows_at;
            nodes = omega (arith, read.fits, read.long, g.begins.room_fits);
            places = omega (arith, read.fits, g.room_is);
            most = read.most;
          }

      checked_good : duties_checked text t₀ z ≡ duties_judged text t₀ z all.0 (broken all.0)
      checked_good = checked_from_lem ∙ ap (duties_from text t₀ z) read.left

      pub read_told : (a : Told) (z' : List ℤ) → Judged text t n z from a z' → Tells text t₀ z a t z'
      read_told a z' (keeps k b) =
          let count : length (nodes_of all.0) ≡ n = ap length (sym read.seen) ∙ names_long text t 0 n in
          let sums : over (balances all.0) z ≡ z' =
          ap₂ (λ (x : List Event) (y : List (List ℕ)). over (map (balance_from None x) y) z) events (sym read.seen) ∙ sym b in
          accepts
          (checked_good
          ∙ ap (duties_judged text t₀ z all.0) (ap broken events ∙ k)
          ∙ told count (sym read.table) sums)
        where
          told : {m : ℕ} {u : List ℕ} {v : List ℤ} → m ≡ n → u ≡ t → v ≡ z'
              → ◌≡◌ {A = DutiesChecked} (record { answer = Accepted m; nodes = u; balance = v }) (record { answer = Accepted n; nodes = t; balance = z' })
          told e f w = λ i. record { answer = Accepted (e i); nodes = f i; balance = w i }
      read_told a z' (breaks {row} {rule} {place} k e) =
          tells_broken
          (checked_good
          ∙ ap (duties_judged text t₀ z all.0) (ap broken events ∙ k)
          ∙ ap (λ (x : ℕ). not_accepted text t₀ z (Broken (broken_rule row rule x))) (sym e))

    module _ (f : Fault) (q : answer ≡ Err f) where
      fault : (f.place ≤ most_text) × (left_at room text from [] ≡ refused (refusal f.number duties_file f.place))
      fault = go (rw q at h)
        where
          go : Passes room text from t₀ (Err f) t → (f.place ≤ most_text) × (left_at room text from [] ≡ refused (refusal f.number duties_file f.place))
          go (at_fault far there) = (far, there)

      pub read_place : f.place < 2 ^ bits w32
      read_place = omega (arith, fault.0)

      pub read_refused : (r : Refusal) → r ≡ refusal f.number duties_file f.place → (z' : List ℤ) → Tells text t₀ z (Refused r) t z'
      read_refused r e z' = tells_refused (checked_from_lem ∙ ap (duties_from text t₀ z) fault.1 ∙ ap (λ (x : Refusal). not_accepted text t₀ z (Refused x)) (sym e))

-- ---- `tell`

module _ (text t : List ℕ) (z : List ℤ) where
  pub tell_long : most_text < length text → (r : Refusal) → r ≡ refusal too_long duties_file 0 → Tells text t z (Refused r) t z
  unfolding duties_checked events_of csv_of
  tell_long h r e = tells_refused {r = r} (rw (lt-leb (length text) most_text h) (ap (λ (x : Refusal). not_accepted text t z (Refused x)) (sym e)))

  module _ (short : length text ≤ most_text) (from : ℕ) (ends : from ≡ end_in duties_names (split_on line_feed text)) where
    pub tell_headless : from ≡ 0 → (r : Refusal) → r ≡ refusal bad_header duties_file 0 → Tells text t z (Refused r) t z
    unfolding duties_checked events_of csv_of
    tell_headless y r e =
        tells_refused {r = r}
        (rw (le-leb (length text) most_text short)
        (ap (duties_from text t z) (headless duties_names text from ends duties_file (row_of (node_room text t z)) y)
        ∙ ap (λ (x : Refusal). not_accepted text t z (Refused x)) (sym e)))

    pub tell_passed : (from ≡ 0 → ⊥) → (room : ℕ) → room ≡ min (length t / node_width) (length z) → Passed room text t z from
    unfolding events_of csv_of
    tell_passed n room e =
        record {
          begins =
              record {
                short = short;
                within = below_within duties_names text from ends n;
                rows_at = below_rows duties_names text from ends n;
                room_fits = omega arith;
              };
          room_is = e;
          rows = rw (le-leb (length text) most_text short) (headed-rows duties_names text from ends n duties_file (row_of room));
        }
