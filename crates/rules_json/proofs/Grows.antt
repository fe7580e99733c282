-- A document only grows, so that what fits at the end has fitted all the time. Assumes nothing.
use Prim.Native.Nat.{ℕ, ◌≤◌}
use mathlib.Core.Path.{◌≡◌, refl, sym, ap, subst, ◌∙◌}
use mathlib.Core.List.{List, [], ◌∷◌, ◌++◌, append-nil, append_assoc}
use native.Mathlib.Omega.{arith}
use lib.Dec.{eqb}
use lib.ListN.{length, length-append}
use Rattle.rules.specs.Kinds.{subnets, subnet_id}
use Rattle.rules.specs.Constraints.{Document, with_subnet, with_constraint, with_id, with_track, no_entry}
use Rattle.rules.specs.declared.sizes.Constraint.{Constraint}
use Rattle.rules.proofs.Truth.{by_case, all_front}
use Rattle.rules_theorems.specs.Lists.{Pairs}
use Rattle.rules_json.specs.Value.{Member, number, type, track_list, Value, Fits}
use Rattle.rules_json.proofs.Same.{with_tracks, with_member, opening, closing, entry_with, after_members, after_record, after_records, after_lists}

-- ---- a list goes on

pub record Front {A : Type 0} (s t : List A) : Type 0 where
  pub rest : List A
  pub whole : t ≡ s ++ rest

front_refl : {A : Type 0} (s : List A) → Front s s
front_refl s = record { rest = []; whole = sym (append-nil s) }

front_one : {A : Type 0} (s : List A) (x : A) → Front s (s ++ x ∷ [])
front_one s x = record { rest = x ∷ []; whole = refl }

front_trans : {A : Type 0} {s t u : List A} → Front s t → Front t u → Front s u
front_trans {s = s} h k =
    record { rest = h.rest ++ k.rest; whole = k.whole ∙ ap (λ (l : List _). l ++ k.rest) h.whole ∙ append_assoc s h.rest k.rest }

pub front_length : {A : Type 0} {s t : List A} → Front s t → length s ≤ length t
front_length {s = s} h = omega (arith, ap length h.whole, length-append s h.rest)

pairs_front : {A : Type 0} (R : A → A → Type 0) (s t : List A) → Pairs R (s ++ t) → Pairs R s
pairs_front R [] t h = tt
pairs_front R (x ∷ s) t h = (all_front (R x) s t h.0, pairs_front R s t h.1)

front_pairs : {A : Type 0} (R : A → A → Type 0) {s t : List A} → Front s t → Pairs R t → Pairs R s
front_pairs R {s} h k = pairs_front R s h.rest (subst (Pairs R) h.whole k)

-- ---- a document goes on

pub record Grows (d e : Document) : Type 0 where
  pub constraints : Front d.constraints e.constraints
  pub tracks : Front d.tracks e.tracks
  pub opened : d.opened ≤ e.opened
  pub ids : Front d.ids e.ids

pub fits-before : (constraints tracks : ℕ) {d e : Document} → Grows d e → Fits constraints tracks e → Fits constraints tracks d
fits-before constraints tracks g h =
    let c = front_length g.constraints in
    let t = front_length g.tracks in
    record {
      few_constraints = omega arith;
      room_for_constraints = omega arith;
      few_subnets = omega arith;
      few_tracks = omega arith;
      room_for_tracks = omega arith;
      distinct_tracks = front_pairs (λ x y. x.id ≡ y.id → ⊥) g.tracks h.distinct_tracks;
      distinct_ids = front_pairs (λ x y. x ≡ y → ⊥) g.ids h.distinct_ids;
    }

grows_refl : (d : Document) → Grows d d
grows_refl d = record { constraints = front_refl d.constraints; tracks = front_refl d.tracks; opened = omega arith; ids = front_refl d.ids }

grows_trans : {d e f : Document} → Grows d e → Grows e f → Grows d f
grows_trans g h =
    record {
      constraints = front_trans g.constraints h.constraints;
      tracks = front_trans g.tracks h.tracks;
      opened = omega arith;
      ids = front_trans g.ids h.ids;
    }

-- ---- by each thing that is read

pub tracks_grow : (ids : List ℕ) (d : Document) → Grows d (with_tracks ids d)
tracks_grow [] d = grows_refl d
tracks_grow (id ∷ ids) d =
    grows_trans {e = with_track id d}
    (record { constraints = front_refl d.constraints; tracks = front_one d.tracks (record { id = id; subnet = _ }); opened = omega arith; ids = front_refl d.ids })
    (tracks_grow ids (with_track id d))

pub member_grows : (m : Member) (d : Document) → Grows d (with_member m d)
member_grows (number key n) d =
    by_case (Grows d) (eqb key subnet_id) (with_id n d) d
    (λ e. record { constraints = front_refl d.constraints; tracks = front_refl d.tracks; opened = omega arith; ids = front_one d.ids n })
    (λ e. grows_refl d)
member_grows (type t) d = grows_refl d
member_grows (track_list ids) d = tracks_grow ids d

pub opening_grows : (list : ℕ) (d : Document) → Grows d (opening list d)
opening_grows list d =
    by_case (Grows d) (eqb list subnets) (with_subnet d) d
    (λ e. record { constraints = front_refl d.constraints; tracks = front_refl d.tracks; opened = omega arith; ids = front_refl d.ids })
    (λ e. grows_refl d)

closing_grows : (list : ℕ) (c : Constraint) (d : Document) → Grows d (closing list c d)
closing_grows list c d =
    by_case (Grows d) (eqb list subnets) d (with_constraint c d)
    (λ e. grows_refl d)
    (λ e. record { constraints = front_one d.constraints c; tracks = front_refl d.tracks; opened = omega arith; ids = front_refl d.ids })

module _ (legs : List ℕ) where
  pub members_grow : (list : ℕ) (c : Constraint) (d : Document) (ms : List Member) → Grows d (after_members legs list c d ms)
  members_grow list c d [] = closing_grows list c d
  members_grow list c d (m ∷ ms) = grows_trans (member_grows m d) (members_grow list (entry_with legs m c) (with_member m d) ms)

  record_grows : (list : ℕ) (d : Document) (ms : List Member) → Grows d (after_record legs list d ms)
  record_grows list d ms = grows_trans (opening_grows list d) (members_grow list (no_entry list) (opening list d) ms)

  pub records_grow : (list : ℕ) (d : Document) (rs : List (List Member)) → Grows d (after_records legs list d rs)
  records_grow list d [] = grows_refl d
  records_grow list d (ms ∷ rest) = grows_trans (record_grows list d ms) (records_grow list (after_record legs list d ms) rest)

  pub lists_grow : (d : Document) (v : Value) → Grows d (after_lists legs d v)
  lists_grow d [] = grows_refl d
  lists_grow d (l ∷ ls) = grows_trans (records_grow l.list d l.records) (lists_grow (after_records legs l.list d l.records) ls)
