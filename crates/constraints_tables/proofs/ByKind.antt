-- Constraints that are written each at the next place of its kind stand by kind and then by file. Assumes nothing.
use Prim.Native.Nat.{ℕ, zero, suc, ◌+◌, ◌*◌, ◌≤◌, ◌<◌}
use mathlib.Core.Path.{◌≡◌, refl, ap, sym, subst, ◌∙◌}
use mathlib.Core.Bool.{Bool, true, false, cond}
use mathlib.Core.List.{List, [], ◌∷◌, ◌++◌, append_assoc}
use native.Mathlib.Omega.{arith}
use lib.Dec.{eqb}
use lib.ListN.{length, get_or, take, drop, replicate, take-append-drop, length-append, length-drop, length-set}
use lib.Seq.{sets, sets-eq, take-append_seam, drop-append-add, drop-append-le, drop-drop, length-take-le, get_or-set_same, get_or-set_other}
use borrow.Author.Tests.{ne_eqb, eqb-true, eqb-false}
use Rattle.rules.specs.Limits.{constraint_width}
use Rattle.rules.specs.Lists.{flat, over, sum_of}
use Rattle.rules.specs.Kinds.{headway, single_track, dwell, turnaround, connection}
use Rattle.rules.specs.Constraints.{of_kind, ordered, constraint_numbers}
use Rattle.rules.specs.declared.sizes.Constraint.{Constraint}
use Rattle.rules.specs.Verdict.{All}
use Rattle.rules_theorems.proofs.Ordered.{OfKind, ordered-length}
use Rattle.rules.proofs.Lists.{flat_append, flat-length}
use Rattle.constraints_tables.specs.Places.{bumped, nexts, writes, starts_of}
use Rattle.constraints_tables.proofs.Places.{constraint_long}

-- ---- a table in segments, one for each kind from a kind on: what is written, and what is free

record Segment : Type 0 where
  full : List ℕ
  free : List ℕ

abbrev joined : List Segment → List ℕ → List ℕ
joined [] rest = rest
joined (s ∷ ss) rest = s.full ++ (s.free ++ joined ss rest)

-- each has room for the constraints of its kind, and no more
abbrev Fits : (kind : ℕ) → List Segment → List Constraint → Type 0
Fits k [] cs = Unit {0}
Fits k (s ∷ ss) cs = (length s.free ≡ length (of_kind k cs) * constraint_width) × Fits (suc k) ss cs

-- the next place of each is where it is free
abbrev Places : (kind base : ℕ) → List Segment → (next : List ℕ) → Type 0
Places k base [] next = Unit {0}
Places k base (s ∷ ss) next =
    (get_or next k 0 * constraint_width ≡ base + length s.full) × Places (suc k) (base + length s.full + length s.free) ss next

-- one constraint more
abbrev put : (kind : ℕ) → List Segment → Constraint → List Segment
put k [] c = []
put k (s ∷ ss) c =
    cond (eqb c.kind k) (record { full = s.full ++ constraint_numbers c; free = drop constraint_width s.free } ∷ ss) (s ∷ put (suc k) ss c)

-- all constraints in their segments
abbrev done : (kind : ℕ) → List Segment → List Constraint → List ℕ → List ℕ
done k [] cs rest = rest
done k (s ∷ ss) cs rest = s.full ++ (flat constraint_numbers (of_kind k cs) ++ done (suc k) ss cs rest)

-- ---- one store

sets_in : (p f q v : List ℕ) → length v ≤ length f → sets (p ++ (f ++ q)) (length p) v ≡ p ++ (v ++ (drop (length v) f ++ q))
sets_in p f q v h =
    let long : length p + length v ≤ length (p ++ (f ++ q)) = omega (arith, length-append p (f ++ q), length-append f q) in
    sets-eq v (p ++ (f ++ q)) (length p) long
    ∙ rw (take-append_seam p (f ++ q), drop-append-add p (f ++ q) (length v), drop-append-le (length v) f q h)
    (append_assoc p v (drop (length v) f ++ q))

module _ (c : Constraint) (cs : List Constraint) where
  of_this : (k : ℕ) → eqb c.kind k ≡ true → of_kind k (c ∷ cs) ≡ c ∷ of_kind k cs
  of_this k e = rw e

  of_other : (k : ℕ) → eqb c.kind k ≡ false → of_kind k (c ∷ cs) ≡ of_kind k cs
  of_other k e = rw e

  below : (k : ℕ) → c.kind < k → eqb c.kind k ≡ false
  below k h = ne_eqb c.kind k (λ q. omega arith)

  -- a constraint of an earlier kind changes nothing
  fits_skip : (k : ℕ) (ss : List Segment) → c.kind < k → Fits k ss (c ∷ cs) → Fits k ss cs
  fits_skip k [] h f = tt
  fits_skip k (s ∷ ss) h f =
      (f.0 ∙ ap (λ (l : List Constraint). length l * constraint_width) (of_other k (below k h)), fits_skip (suc k) ss (omega arith) f.1)

  places_skip : (k base : ℕ) (ss : List Segment) (next : List ℕ) → c.kind < k → Places k base ss next → Places k base ss (bumped next c.kind)
  places_skip k base [] next h p = tt
  places_skip k base (s ∷ ss) next h p = (
    ap (λ (n : ℕ). n * constraint_width) (get_or-set_other next c.kind k (get_or next c.kind 0 + 1) 0 (λ q. omega arith)) ∙ p.0,
    places_skip (suc k) (base + length s.full + length s.free) ss next (omega arith) p.1,
  )

  done_skip : (k : ℕ) (ss : List Segment) (rest : List ℕ) → c.kind < k → done k ss (c ∷ cs) rest ≡ done k ss cs rest
  done_skip k [] rest h = refl
  done_skip k (s ∷ ss) rest h =
      rw (of_other k (below k h), done_skip (suc k) ss rest (omega arith))

  -- the room of the segment that it goes to
  room_here : (k : ℕ) (s : Segment) → eqb c.kind k ≡ true → length s.free ≡ length (of_kind k (c ∷ cs)) * constraint_width
      → length s.free ≡ length (of_kind k cs) * constraint_width + constraint_width
  room_here k s e f =
      let one : length (of_kind k (c ∷ cs)) ≡ suc (length (of_kind k cs)) = ap length (of_this k e) in
      omega arith

  fits_put : (k : ℕ) (ss : List Segment) → Fits k ss (c ∷ cs) → Fits k (put k ss c) cs
  fits_put k [] f = tt
  fits_put k (s ∷ ss) f = go (eqb c.kind k) refl (fits_put (suc k) ss f.1)
    where
      go : (b : Bool) → eqb c.kind k ≡ b → Fits (suc k) (put (suc k) ss c) cs
          → Fits k (cond b (record { full = s.full ++ constraint_numbers c; free = drop constraint_width s.free } ∷ ss) (s ∷ put (suc k) ss c)) cs
      go true e rest =
          let is : c.kind ≡ k = eqb-true c.kind k e in
          (omega (arith, room_here k s e f.0, length-drop constraint_width s.free), fits_skip (suc k) ss (omega arith) f.1)
      go false e rest = (f.0 ∙ ap (λ (l : List Constraint). length l * constraint_width) (of_other k e), rest)

  places_put : (k base : ℕ) (ss : List Segment) (next : List ℕ) → k + length ss ≤ length next → Fits k ss (c ∷ cs)
      → Places k base ss next → Places k base (put k ss c) (bumped next c.kind)
  places_put k base [] next long f p = tt
  places_put k base (s ∷ ss) next long f p =
      go (eqb c.kind k) refl (places_put (suc k) (base + length s.full + length s.free) ss next (omega arith) f.1 p.1)
    where
      go : (b : Bool) → eqb c.kind k ≡ b
          → Places (suc k) (base + length s.full + length s.free) (put (suc k) ss c) (bumped next c.kind)
          → Places k base (cond b (record { full = s.full ++ constraint_numbers c; free = drop constraint_width s.free } ∷ ss) (s ∷ put (suc k) ss c)) (bumped next c.kind)
      go true e rest =
          let is : c.kind ≡ k = eqb-true c.kind k e in
          let now : get_or (bumped next c.kind) k 0 ≡ get_or next k 0 + 1 = rw is (get_or-set_same next k (get_or next k 0 + 1) 0 (omega arith)) in
          let more : length (s.full ++ constraint_numbers c) ≡ length s.full + constraint_width = length-append s.full (constraint_numbers c) in
          let same : base + length s.full + length s.free ≡ base + length (s.full ++ constraint_numbers c) + length (drop constraint_width s.free) =
          omega (arith, room_here k s e f.0, length-drop constraint_width s.free) in (
            omega (arith, p.0),
            subst (λ (b : ℕ). Places (suc k) b ss (bumped next c.kind)) same
                (places_skip (suc k) (base + length s.full + length s.free) ss next (omega arith) p.1),
          )
      go false e rest =
          (ap (λ (n : ℕ). n * constraint_width) (get_or-set_other next c.kind k (get_or next c.kind 0 + 1) 0 (λ q. eqb-false c.kind k e (sym q))) ∙ p.0, rest)

  done_put : (k : ℕ) (ss : List Segment) (rest : List ℕ) → done k (put k ss c) cs rest ≡ done k ss (c ∷ cs) rest
  done_put k [] rest = refl
  done_put k (s ∷ ss) rest = go (eqb c.kind k) refl (done_put (suc k) ss rest)
    where
      go : (b : Bool) → eqb c.kind k ≡ b → done (suc k) (put (suc k) ss c) cs rest ≡ done (suc k) ss (c ∷ cs) rest
          → done k (cond b (record { full = s.full ++ constraint_numbers c; free = drop constraint_width s.free } ∷ ss) (s ∷ put (suc k) ss c)) cs rest
          ≡ done k (s ∷ ss) (c ∷ cs) rest
      go true e ih =
          let is : c.kind ≡ k = eqb-true c.kind k e in
          append_assoc s.full (constraint_numbers c) (flat constraint_numbers (of_kind k cs) ++ done (suc k) ss cs rest)
          ∙ ap (λ (l : List ℕ). s.full ++ l)
          (sym (append_assoc (constraint_numbers c) (flat constraint_numbers (of_kind k cs)) (done (suc k) ss cs rest))
          ∙ rw (of_this k e, done_skip (suc k) ss rest (omega arith)))
      go false e ih = rw (of_other k e, ih)

  -- the store puts it there: into this segment
  store_here : (k : ℕ) (s : Segment) (p more next : List ℕ) → eqb c.kind k ≡ true → get_or next k 0 * constraint_width ≡ length p + length s.full
      → constraint_width ≤ length s.free
      → sets (p ++ (s.full ++ (s.free ++ more))) (get_or next c.kind 0 * constraint_width) (constraint_numbers c)
      ≡ p ++ ((s.full ++ constraint_numbers c) ++ (drop constraint_width s.free ++ more))
  store_here k s p more next e at room =
      let is : c.kind ≡ k = eqb-true c.kind k e in
      let place : get_or next c.kind 0 * constraint_width ≡ length (p ++ s.full) = rw is (at ∙ sym (length-append p s.full)) in
      let front : p ++ (s.full ++ (s.free ++ more)) ≡ (p ++ s.full) ++ (s.free ++ more) = sym (append_assoc p s.full (s.free ++ more)) in
      rw (place, front)
      (sets_in (p ++ s.full) s.free more (constraint_numbers c) room
      ∙ append_assoc p s.full (constraint_numbers c ++ (drop constraint_width s.free ++ more))
      ∙ ap (λ (l : List ℕ). p ++ l) (sym (append_assoc s.full (constraint_numbers c) (drop constraint_width s.free ++ more))))

  abbrev behind : List ℕ → Segment → List ℕ
  behind p s = p ++ (s.full ++ s.free)

  behind_all : (p : List ℕ) (s : Segment) (l : List ℕ) → p ++ (s.full ++ (s.free ++ l)) ≡ behind p s ++ l
  behind_all p s l = simp append_assoc

  behind_length : (p : List ℕ) (s : Segment) → length (behind p s) ≡ length p + length s.full + length s.free
  behind_length p s = omega (arith, length-append p (s.full ++ s.free), length-append s.full s.free)

  -- or into one behind it
  store_put : (k : ℕ) (ss : List Segment) (p rest next : List ℕ) → Places k (length p) ss next → Fits k ss (c ∷ cs)
      → k ≤ c.kind → c.kind < k + length ss
      → sets (p ++ joined ss rest) (get_or next c.kind 0 * constraint_width) (constraint_numbers c) ≡ p ++ joined (put k ss c) rest
  store_put k [] p rest next at f low high = absurd (omega arith)
  store_put k (s ∷ ss) p rest next at f low high =
      go (eqb c.kind k) refl
      (λ above. store_put (suc k) ss (behind p s) rest next (subst (λ (b : ℕ). Places (suc k) b ss next) (sym (behind_length p s)) at.1) f.1 above (omega arith))
    where
      go : (b : Bool) → eqb c.kind k ≡ b
          → (suc k ≤ c.kind → sets (behind p s ++ joined ss rest) (get_or next c.kind 0 * constraint_width) (constraint_numbers c) ≡ behind p s ++ joined (put (suc k) ss c) rest)
          → sets (p ++ (s.full ++ (s.free ++ joined ss rest))) (get_or next c.kind 0 * constraint_width) (constraint_numbers c)
          ≡ p ++ joined (cond b (record { full = s.full ++ constraint_numbers c; free = drop constraint_width s.free } ∷ ss) (s ∷ put (suc k) ss c)) rest
      go true e further = store_here k s p (joined ss rest) next e at.0 (omega (arith, room_here k s e f.0))
      go false e further =
          let above : suc k ≤ c.kind = omega (arith, eqb-false c.kind k e) in
          rw (behind_all p s (joined ss rest)) (further above) ∙ sym (behind_all p s (joined (put (suc k) ss c) rest))

put_length : (k : ℕ) (ss : List Segment) (c : Constraint) → length (put k ss c) ≡ length ss
put_length k [] c = refl
put_length k (s ∷ ss) c = go (eqb c.kind k) (put_length (suc k) ss c)
  where
    go : (b : Bool) → length (put (suc k) ss c) ≡ length ss
        → length (cond b (record { full = s.full ++ constraint_numbers c; free = drop constraint_width s.free } ∷ ss) (s ∷ put (suc k) ss c)) ≡ suc (length ss)
    go true e = refl
    go false e = ap suc e

-- ---- all of them

none_free : (l : List ℕ) → length l ≡ 0 → l ≡ []
none_free [] h = refl
none_free (x ∷ l) h = absurd (omega arith)

done_none : (k : ℕ) (ss : List Segment) (rest : List ℕ) → Fits k ss [] → joined ss rest ≡ done k ss [] rest
done_none k [] rest f = refl
done_none k (s ∷ ss) rest f = rw (none_free s.free (f.0 ∙ z), done_none (suc k) ss rest f.1)
  where
    z : 0 * constraint_width ≡ 0
    z = omega arith

-- every kind has a segment
abbrev Kinds : (kind : ℕ) → List Segment → List Constraint → Type 0
Kinds k ss cs = All (λ c. (k ≤ c.kind) × (c.kind < k + length ss)) cs

kinds_put : (k : ℕ) (ss : List Segment) (c : Constraint) (cs : List Constraint) → Kinds k ss cs → Kinds k (put k ss c) cs
kinds_put k ss c cs h = subst (λ (n : ℕ). All (λ x. (k ≤ x.kind) × (x.kind < k + n)) cs) (sym (put_length k ss c)) h

segments_done : (k : ℕ) (ss : List Segment) (cs : List Constraint) (next rest : List ℕ) → k + length ss ≤ length next
    → Kinds k ss cs → Fits k ss cs → Places k 0 ss next → writes next (joined ss rest) cs ≡ done k ss cs rest
segments_done k ss [] next rest long h f p = done_none k ss rest f
segments_done k ss (c ∷ cs) next rest long h f p =
    let long' : k + length (put k ss c) ≤ length (bumped next c.kind) =
    omega (arith, put_length k ss c, length-set next c.kind (get_or next c.kind 0 + 1)) in
    ap (λ (l : List ℕ). writes (bumped next c.kind) l cs) (store_put c cs k ss [] rest next p f h.0.0 h.0.1)
    ∙ segments_done k (put k ss c) cs (bumped next c.kind) rest long' (kinds_put k ss c cs h.1) (fits_put c cs k ss f) (places_put c cs k 0 ss next long f p)
    ∙ done_put c cs k ss rest

-- ---- from the whole table

abbrev cut : (sizes : List ℕ) → List ℕ → List Segment
cut [] t = []
cut (n ∷ ns) t = record { full = []; free = take (n * constraint_width) t } ∷ cut ns (drop (n * constraint_width) t)

abbrev left : (sizes : List ℕ) → List ℕ → List ℕ
left [] t = t
left (n ∷ ns) t = left ns (drop (n * constraint_width) t)

cut_joined : (ns t : List ℕ) → joined (cut ns t) (left ns t) ≡ t
cut_joined [] t = refl
cut_joined (n ∷ ns) t = rw (cut_joined ns (drop (n * constraint_width) t)) (take-append-drop (n * constraint_width) t)

abbrev sizes : (kind kinds : ℕ) → List Constraint → List ℕ
sizes k zero cs = []
sizes k (suc m) cs = length (of_kind k cs) ∷ sizes (suc k) m cs

cut_fits : (k m : ℕ) (cs : List Constraint) (t : List ℕ) → sum_of (λ n. n) (sizes k m cs) * constraint_width ≤ length t → Fits k (cut (sizes k m cs) t) cs
cut_fits k zero cs t h = tt
cut_fits k (suc m) cs t h = (
  length-take-le (length (of_kind k cs) * constraint_width) t (omega arith),
  cut_fits (suc k) m cs (drop (length (of_kind k cs) * constraint_width) t) (omega (arith, length-drop (length (of_kind k cs) * constraint_width) t)),
)

-- where each kind starts, by how many there are of those before it
abbrev Starts : (kind base : ℕ) → (sizes next : List ℕ) → Type 0
Starts k base [] next = Unit {0}
Starts k base (n ∷ ns) next = (get_or next k 0 ≡ base) × Starts (suc k) (base + n) ns next

cut_places : (k base : ℕ) (ns t next : List ℕ) → sum_of (λ n. n) ns * constraint_width ≤ length t
    → Starts k base ns next → Places k (base * constraint_width) (cut ns t) next
cut_places k base [] t next h s = tt
cut_places k base (n ∷ ns) t next h s =
    let size : length (take (n * constraint_width) t) ≡ n * constraint_width = length-take-le (n * constraint_width) t (omega arith) in
    let on : (base + n) * constraint_width ≡ base * constraint_width + 0 + length (take (n * constraint_width) t) = omega arith in (
      omega (arith, s.0),
      subst (λ (b : ℕ). Places (suc k) b (cut ns (drop (n * constraint_width) t)) next) on
          (cut_places (suc k) (base + n) ns (drop (n * constraint_width) t) next (omega (arith, length-drop (n * constraint_width) t)) s.1),
    )

cut_length : (ns t : List ℕ) → length (cut ns t) ≡ length ns
cut_length [] t = refl
cut_length (n ∷ ns) t = ap suc (cut_length ns (drop (n * constraint_width) t))

left-drop : (ns t : List ℕ) → left ns t ≡ drop (sum_of (λ n. n) ns * constraint_width) t
left-drop [] t = refl
left-drop (n ∷ ns) t =
    let all : n * constraint_width + sum_of (λ n. n) ns * constraint_width ≡ (n + sum_of (λ n. n) ns) * constraint_width = omega arith in
    left-drop ns (drop (n * constraint_width) t)
    ∙ drop-drop (sum_of (λ n. n) ns * constraint_width) (n * constraint_width) t ∙ ap (λ (k : ℕ). drop k t) all

-- ---- how many there are of each kind

pub counted : (next : List ℕ) (cs : List Constraint) (k : ℕ) → k < length next → get_or (nexts next cs) k 0 ≡ get_or next k 0 + length (of_kind k cs)
counted next [] k h = omega arith
counted next (c ∷ cs) k h =
    counted (bumped next c.kind) cs k (omega (arith, length-set next c.kind (get_or next c.kind 0 + 1))) ∙ go (eqb c.kind k) refl
  where
    go : (b : Bool) → eqb c.kind k ≡ b
        → get_or (bumped next c.kind) k 0 + length (of_kind k cs) ≡ get_or next k 0 + length (cond b (c ∷ of_kind k cs) (of_kind k cs))
    go true e =
        let is : c.kind ≡ k = eqb-true c.kind k e in
        let now : get_or (bumped next c.kind) k 0 ≡ get_or next k 0 + 1 = rw is (get_or-set_same next k (get_or next k 0 + 1) 0 h) in
        omega arith
    go false e =
        let now : get_or (bumped next c.kind) k 0 ≡ get_or next k 0 = get_or-set_other next c.kind k (get_or next c.kind 0 + 1) 0 (λ q. eqb-false c.kind k e (sym q)) in
        omega arith

-- they are numbered from 1, so the last is how many there are
abbrev kinds : ℕ
kinds = connection

-- a place for each kind by its number
abbrev pub none : List ℕ
none = replicate (suc kinds) 0

abbrev of_each : List Constraint → List ℕ
of_each = sizes headway kinds

-- the kinds together are all constraints
module _ (cs : List Constraint) (known : All OfKind cs) where
  ordered-size : length (ordered cs) ≡ sum_of (λ n. n) (of_each cs)
  unfolding ordered
  ordered-size =
      omega (
        arith,
        length-append (of_kind headway cs) (of_kind single_track cs ++ (of_kind dwell cs ++ (of_kind turnaround cs ++ of_kind connection cs))),
        length-append (of_kind single_track cs) (of_kind dwell cs ++ (of_kind turnaround cs ++ of_kind connection cs)),
        length-append (of_kind dwell cs) (of_kind turnaround cs ++ of_kind connection cs),
        length-append (of_kind turnaround cs) (of_kind connection cs),
      )

  pub all_counted : sum_of (λ n. n) (of_each cs) ≡ length cs
  all_counted = sym ordered-size ∙ ordered-length cs known

in_segments : (n : ℕ) (cs : List Constraint) → n ≡ kinds → All OfKind cs → All (λ c. (headway ≤ c.kind) × (c.kind < headway + n)) cs
in_segments n [] all h = tt
in_segments n (c ∷ cs) all h = ((h.0.from_first_kind, omega (arith, h.0.to_last_kind)), in_segments n cs all h.1)

-- ---- by kind and then by file

module _ (cs : List Constraint) (known : All OfKind cs) (t : List ℕ) (room : length cs * constraint_width ≤ length t) where
  abbrev counts : List ℕ
  counts = nexts none cs

  fits : sum_of (λ n. n) (of_each cs) * constraint_width ≤ length t
  fits = omega (arith, all_counted cs known)

  starts : Starts headway 0 (of_each cs) (starts_of counts)
  starts =
      let one = counted none cs headway (omega arith) in
      let two = counted none cs single_track (omega arith) in
      let three = counted none cs dwell (omega arith) in
      let four = counted none cs turnaround (omega arith) in
      (refl, (omega arith, (omega arith, (omega arith, (omega arith, tt)))))

  tables-written : done headway (cut (of_each cs) t) cs (left (of_each cs) t) ≡ over (flat constraint_numbers (ordered cs)) t
  unfolding over ordered
  tables-written =
      let size : length (flat constraint_numbers (ordered cs)) ≡ sum_of (λ n. n) (of_each cs) * constraint_width =
      flat-length constraint_numbers constraint_width constraint_long (ordered cs) ∙ ap (λ (n : ℕ). n * constraint_width) (ordered-size cs known) in
      rw (size, left-drop (of_each cs) t) (simp (flat_append, append_assoc))

  -- constraints: by kind and then by file; the room past the last keeps its contents
  pub by_kind : writes (starts_of counts) t cs ≡ over (flat constraint_numbers (ordered cs)) t
  by_kind =
      let all : length (cut (of_each cs) t) ≡ kinds = cut_length (of_each cs) t in
      ap (λ (l : List ℕ). writes (starts_of counts) l cs) (sym (cut_joined (of_each cs) t))
      ∙ segments_done headway (cut (of_each cs) t) cs (starts_of counts) (left (of_each cs) t) (omega arith)
      (in_segments (length (cut (of_each cs) t)) cs all known) (cut_fits headway kinds cs t fits) (cut_places headway 0 (of_each cs) t (starts_of counts) fits starts)
      ∙ tables-written
