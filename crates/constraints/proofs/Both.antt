-- The two walks together: the answer of the whole reading, and both tables. Assumes nothing.
use Prim.Native.Nat.{ℕ, ◌*◌, ◌/◌, ◌≤◌, ◌<◌}
use mathlib.Core.Path.{◌≡◌, refl, ap, sym, subst, ◌∙◌}
use mathlib.Core.Bool.{true, false}
use mathlib.Core.List.{List, [], ◌∷◌}
use native.Mathlib.Omega.{arith}
use native.Mathlib.Nat.{div-mul-le_self}
use lib.ListN.{length, get_or, drop}
use lib.Seq.{drop-append_seam}
use borrow.Author.Tests.{le-leb, lt-leb}
use Rattle.rules.specs.Limits.{most_text, most_legs, most_constraints, leg_width, constraint_width, track_width}
use Rattle.rules.specs.Lists.{flat, over}
use Rattle.rules.specs.Tokens.{tokens_of}
use Rattle.rules.specs.Kinds.{headway, single_track, dwell, turnaround}
use Rattle.rules.specs.Answers.{refusal, too_long, constraints_file, Reading, refused, good}
use Rattle.rules.specs.Constraints.{Document, empty, start, run, constraints_of, ordered, constraint_numbers, track_numbers}
use Rattle.rules.specs.declared.sizes.Constraint.{Constraint}
use Rattle.rules.specs.declared.tokens.Rules.{Rules}
use Rattle.rules.specs.Verdict.{All}
use Rattle.rules_theorems.specs.LawfulDocument.{LawfulConstraint, LawfulDocument}
use Rattle.rules_theorems.proofs.All.{all_at}
use Rattle.rules_theorems.proofs.Ordered.{OfKind, ordered-length}
use Rattle.rules_theorems.proofs.Documents.{good_is_lawful}
use Rattle.tables_ids.specs.Column.{Records, Apart, Rising, column}
use Rattle.constraints_states.specs.declared.Counts.{Counts}
use Rattle.rules.proofs.Lists.{flat-length, over-length}
use Rattle.rules.specs.declared.answers.Fault.{Fault}
use Rattle.constraints_states.specs.Steps.{counts_of}
use Rattle.rules.specs.Answers.{fault_at}
use Rattle.std.proofs.Common.{Result, Ok, Err}
use Rattle.constraints_tables.specs.Places.{nexts, Upward, before_last, starts_of}
use Rattle.constraints_tables.proofs.Places.{constraint_long}
use Rattle.constraints_tables.proofs.InOrder.{upward_ordered}
use Rattle.constraints_tables.proofs.ByKind.{none, counted, all_counted, by_kind}
use Rattle.constraints.specs.Tables.{outcome, Filled, Walks, Able, reading, read_of, Tables, Reads}

kinds_known : (legs : List ℕ) (cs : List Constraint) → All (LawfulConstraint legs) cs → All OfKind cs
kinds_known legs [] h = tt
kinds_known legs (c ∷ cs) h =
    (record { from_first_kind = h.0.from_first_kind; to_last_kind = h.0.to_last_kind }, kinds_known legs cs h.1)

-- what is written last stays, where it is as long as what it is written over
over_again : (w v t : List ℕ) → length v ≡ length w → over v (over w t) ≡ over v t
unfolding over
over_again w v t e = rw (e, drop-append_seam w (drop (length w) t))

never : {A : Type 0} (r : Result Counts Fault) (f : Fault) (seen : Counts) → r ≡ Err f → r ≡ Ok seen → A
never r f seen p q = let z : ◌≡◌ {A = ℕ} 0 1 = cc in absurd (omega arith)

read_one : {x y : Document} → good x ≡ good y → x ≡ y
read_one q = cc

module _ (rules : Rules) (text legs : List ℕ) (n : ℕ) (c t : List ℕ) where
  -- ---- a text that is too long

  pub reads_long : (f : Fault) → f ≡ fault_at too_long 0 → most_text < length text → Reads (reading rules text legs n c t) c t (Err f) c t
  unfolding constraints_of
  reads_long f is h =
      let whole : reading rules text legs n c t ≡ refused (refusal too_long constraints_file 0) = rw (lt-leb (length text) most_text h) in
      record { answer = ap Err is ∙ sym (ap read_of whole); tables = λ d e. impossible (sym whole ∙ e) }
    where
      impossible : {A : Type 0} {d : Document} → refused (refusal too_long constraints_file 0) ≡ good d → A
      impossible q = let z : ◌≡◌ {A = ℕ} 0 1 = cc in absurd (omega arith)

  module _ (short : length text ≤ most_text) where
    same : reading rules text legs n c t ≡ outcome rules text legs n c t
    unfolding constraints_of
    same = rw (le-leb (length text) most_text short)

    -- ---- a document that was read

    module _ (d : Document) (whole : outcome rules text legs n c t ≡ good d) where
      lawful : LawfulDocument (column leg_width n legs) (length c / constraint_width) (length t / track_width) d
      lawful = good_is_lawful (column leg_width n legs) (length c / constraint_width) (length t / track_width) rules text d (same ∙ whole)

      known : All OfKind d.constraints
      known = kinds_known (column leg_width n legs) d.constraints lawful.tables.constraints_lawful.each

      room : length d.constraints * constraint_width ≤ length c
      room = omega (arith, lawful.tables.constraints_lawful.in_room, div-mul-le_self (length c) constraint_width)

      -- no more of four kinds than there may be in all
      few : (counts : List ℕ) → counts ≡ nexts none d.constraints
          → before_last counts ≤ most_constraints
      few counts e =
          rw e
          (omega (
            arith,
            counted none d.constraints headway (omega arith),
            counted none d.constraints single_track (omega arith),
            counted none d.constraints dwell (omega arith),
            counted none d.constraints turnaround (omega arith),
            all_counted d.constraints known,
            lawful.tables.constraints_lawful.in_limit,
          ))

      abbrev filed : List ℕ
      filed = flat constraint_numbers d.constraints

      size : (cs : List Constraint) → length (flat constraint_numbers cs) ≡ length cs * constraint_width
      size = flat-length constraint_numbers constraint_width constraint_long

      again : length d.constraints * constraint_width ≤ length (over filed c)
      again = omega (arith, room, over-length filed c (omega (arith, size d.constraints, room)))

      same_size : length (flat constraint_numbers (ordered d.constraints)) ≡ length filed
      same_size = size (ordered d.constraints) ∙ ap (λ (n : ℕ). n * constraint_width) (ordered-length d.constraints known) ∙ sym (size d.constraints)

      -- one walk is enough where they stand by kind
      once : (r : Result Counts Fault) (counts c₁ t₁ : List ℕ) → Filled none false d c t r counts c₁ t₁ → Upward (length d.constraints) c₁ → Tables d c t c₁ t₁
      once r counts c₁ t₁ f up =
          record {
            by_kind = f.table ∙ ap (λ (cs : List Constraint). over (flat constraint_numbers cs) c) (sym (upward_ordered d.constraints c c₁ known f.table up));
            by_file = f.tracks;
          }

      both : (r r₂ : Result Counts Fault) (counts c₁ t₁ next c₂ t₂ : List ℕ) → Filled none false d c t r counts c₁ t₁
          → Filled (starts_of counts) true d c₁ t₁ r₂ next c₂ t₂ → Tables d c t c₂ t₂
      both r r₂ counts c₁ t₁ next c₂ t₂ f g =
          record {
            by_kind = g.table ∙ rw (f.table, f.places) (by_kind d.constraints known (over filed c) again ∙ over_again filed (flat constraint_numbers (ordered d.constraints)) c same_size);
            by_file = g.tracks ∙ rw f.tracks (over_again (flat track_numbers d.tracks) (flat track_numbers d.tracks) t refl);
          }

    -- ---- the first walk

    module _ (r : Result Counts Fault) (counts c₁ t₁ : List ℕ) (w : Walks none false (outcome rules text legs n c t) c t r counts c₁ t₁) where
      pub reads_refused : (f : Fault) → r ≡ Err f → Reads (reading rules text legs n c t) c t (Err f) c₁ t₁
      unfolding Walks
      reads_refused f is = rw same (go (outcome rules text legs n c t) w)
        where
          go : (o : Reading Document) → Walks none false o c t r counts c₁ t₁ → Reads o c t (Err f) c₁ t₁
          go (refused x) q =
              record { answer = cc (q, is); tables = λ d e. let z : ◌≡◌ {A = ℕ} 0 1 = cc in absurd (omega arith) }
          go (good d) q = never r f (counts_of d) is q.answer

      module _ (seen : Counts) (is : r ≡ Ok seen) where
        pub few_counted : before_last counts ≤ most_constraints
        unfolding Walks
        few_counted = go (outcome rules text legs n c t) refl w
          where
            go : (o : Reading Document) → outcome rules text legs n c t ≡ o → Walks none false o c t r counts c₁ t₁
                → before_last counts ≤ most_constraints
            go (refused x) e q = never r (fault_at x.number x.place) seen q is
            go (good d) e q = few d e counts q.places

        -- ---- which is enough

        pub long_enough : length c₁ ≡ length c → Records constraint_width seen.constraints c₁
        unfolding Walks
        long_enough long-c = go (outcome rules text legs n c t) refl w
          where
            go : (o : Reading Document) → outcome rules text legs n c t ≡ o → Walks none false o c t r counts c₁ t₁ → Records constraint_width seen.constraints c₁
            go (refused x) e q = never r (fault_at x.number x.place) seen q is
            go (good d) e q =
                let seen-is : seen ≡ counts_of d = cc (q.answer, is) in
                record { one = omega arith; whole = rw seen-is (omega (arith, room d e)) }

        pub reads_once : Upward seen.constraints c₁ → Reads (reading rules text legs n c t) c t (Ok seen) c₁ t₁
        unfolding Walks
        reads_once up = rw same (go (outcome rules text legs n c t) refl w)
          where
            go : (o : Reading Document) → outcome rules text legs n c t ≡ o → Walks none false o c t r counts c₁ t₁
                → Reads o c t (Ok seen) c₁ t₁
            go (refused x) e p = never r (fault_at x.number x.place) seen p is
            go (good d) e p =
                let seen-is : seen ≡ counts_of d = cc (p.answer, is) in
                let up' : Upward (length d.constraints) c₁ = subst (λ (x : Counts). Upward x.constraints c₁) seen-is up in
                record {
                  answer = ap Ok seen-is;
                  tables = λ d' g. subst (λ (x : Document). Tables x c t c₁ t₁) (read_one g) (once d e r counts c₁ t₁ p up');
                }

        -- ---- and the second

        pub reads_whole : (starts : List ℕ) (r₂ : Result Counts Fault) (next c₂ t₂ : List ℕ) → starts ≡ starts_of counts → length c₁ ≡ length c → length t₁ ≡ length t
            → Walks starts true (outcome rules text legs n c₁ t₁) c₁ t₁ r₂ next c₂ t₂
            → Reads (reading rules text legs n c t) c t r₂ c₂ t₂
        unfolding Walks
        reads_whole starts r₂ next c₂ t₂ at long-c long-t second = rw same (go (outcome rules text legs n c t) refl w again)
          where
            again : Walks (starts_of counts) true (outcome rules text legs n c t) c₁ t₁ r₂ next c₂ t₂
            again =
                subst (λ (k : ℕ). Walks (starts_of counts) true (run (column leg_width n legs) (length c / constraint_width) (k / track_width) (start rules) empty (tokens_of text)) c₁ t₁ r₂ next c₂ t₂) long-t
                (subst (λ (k : ℕ). Walks (starts_of counts) true (run (column leg_width n legs) (k / constraint_width) (length t₁ / track_width) (start rules) empty (tokens_of text)) c₁ t₁ r₂ next c₂ t₂) long-c
                (subst (λ (l : List ℕ). Walks l true (outcome rules text legs n c₁ t₁) c₁ t₁ r₂ next c₂ t₂) at second))

            go : (o : Reading Document) → outcome rules text legs n c t ≡ o → Walks none false o c t r counts c₁ t₁
                → Walks (starts_of counts) true o c₁ t₁ r₂ next c₂ t₂ → Reads o c t r₂ c₂ t₂
            go (refused x) e p q = never r (fault_at x.number x.place) seen p is
            go (good d) e p q =
                record {
                  answer = q.answer;
                  tables = λ d' g. subst (λ (x : Document). Tables x c t c₂ t₂) (read_one g) (both d e r r₂ counts c₁ t₁ next c₂ t₂ p q);
                }

-- ---- what the walks need

-- no place is past the limit, where none of six is
low : (places : List ℕ) → All (λ n. n ≤ most_constraints) places → (k : ℕ) → get_or places k 0 ≤ most_constraints
low places h k = all_at (λ n. n ≤ most_constraints) places 0 h (omega arith) k

pub able_first : (text legs : List ℕ) (n rising : ℕ) → length text ≤ most_text → Apart leg_width n legs → n ≤ most_legs → Rising leg_width n rising legs → Able text legs n rising none
able_first text legs n rising short there few rises =
    record {
      short = short;
      legs_there = record { apart = there; rises = rises };
      few_legs = few;
      low = low none (omega arith, (omega arith, (omega arith, (omega arith, (omega arith, (omega arith, tt))))));
    }

pub able_second : (text legs : List ℕ) (n rising : ℕ) (counts starts : List ℕ) → length text ≤ most_text → Apart leg_width n legs → n ≤ most_legs → Rising leg_width n rising legs
    → before_last counts ≤ most_constraints → starts ≡ starts_of counts → Able text legs n rising starts
able_second text legs n rising counts starts short there few rises h e =
    record {
      short = short;
      legs_there = record { apart = there; rises = rises };
      few_legs = few;
      low = λ k. rw e (low (starts_of counts) (omega arith, (omega arith, (omega arith, (omega arith, (omega arith, (omega arith, tt)))))) k);
    }
