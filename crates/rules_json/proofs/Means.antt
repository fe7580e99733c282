-- What a value adds to a document, list by list and member by member, is the document that it means. Assumes nothing.
use Prim.Native.Nat.{ℕ, suc, ◌+◌, ◌-◌}
use mathlib.Core.Path.{◌≡◌, refl, sym, ap, subst, ◌∙◌}
use mathlib.Core.Bool.{Bool, true, false, cond}
use mathlib.Core.List.{List, [], ◌∷◌, ◌++◌, map, append-nil, append_assoc}
use native.Mathlib.Omega.{arith}
use native.Mathlib.Nat.{add-zero, zero-add, add_assoc}
use lib.Dec.{eqb}
use lib.Bits.{bit_or}
use lib.ListN.{length, length-append}
use borrow.Author.Tests.{eqb-true, eqb-false}
use Rattle.rules.specs.Lists.{flat}
use Rattle.rules.specs.Kinds.{subnets, subnet_id, first_leg, second_leg, max_connection, connection_type}
use Rattle.rules.specs.Constraints.{Document, document, empty, with_id, with_track, with_constraint, no_entry, keys_of, is_low, list_bit}
use Rattle.rules.specs.Verdict.{All}
use Rattle.rules.specs.declared.sizes.Constraint.{Constraint}
use Rattle.rules.specs.declared.sizes.Track.{Track}
use Rattle.rules.proofs.Lists.{flat_append}
use Rattle.rules_theorems.proofs.DocumentWords.{is_false}
use Rattle.rules_theorems.proofs.Keys.{has, id_of_subnet, tracks_of-subnet}
use Rattle.rules_json.specs.Value.{Member, number, type, track_list, key_of, Value, said, constraint_of, ids_of, tracks_of, tracks_from, constraints_in, subnets_in, document_of, six_lists, Among}
use Rattle.rules_json.proofs.Same.{with_tracks, with_member, opening, entry_with, after_members, after_record, after_records, after_lists, Allowed, OkMembers, OkLists}

-- ---- a document with more behind its tables

abbrev grown : Document → List Constraint → List Track → (opened : ℕ) → (ids : List ℕ) → Document
grown d cs ts n ids = document (d.constraints ++ cs) (d.tracks ++ ts) (d.opened + n) (d.ids ++ ids)

grown_none : (d : Document) → grown d [] [] 0 [] ≡ d
grown_none d = simp (append-nil, add-zero)

grown_twice : (d : Document) (cs cs' : List Constraint) (ts ts' : List Track) (n n' : ℕ) (ids ids' : List ℕ)
    → grown (grown d cs ts n ids) cs' ts' n' ids' ≡ grown d (cs ++ cs') (ts ++ ts') (n + n') (ids ++ ids')
grown_twice d cs cs' ts ts' n n' ids ids' = simp (append_assoc, add_assoc)

abbrev tracks_at : (place : ℕ) → List ℕ → List Track
tracks_at place ids = map (λ id. record { id = id; subnet = place }) ids

tracks-append : (place : ℕ) (s t : List ℕ) → tracks_at place (s ++ t) ≡ tracks_at place s ++ tracks_at place t
tracks-append place [] t = refl
tracks-append place (id ∷ s) t = ap (λ (l : List Track). record { id = id; subnet = place } ∷ l) (tracks-append place s t)

from_append : (place : ℕ) (rs more : List (List Member)) → tracks_from place (rs ++ more) ≡ tracks_from place rs ++ tracks_from (place + length rs) more
from_append place [] more = rw add-zero
from_append place (ms ∷ rs) more =
    let same : place + 1 + length rs ≡ place + suc (length rs) = omega arith in
    rw (from_append (place + 1) rs more, same)
    (sym (append_assoc (tracks_at place (flat tracks_of ms)) (tracks_from (place + 1) rs) (tracks_from (place + suc (length rs)) more)))

-- ---- the members of a subnet

tracks_add : (ids : List ℕ) (d : Document) → with_tracks ids d ≡ grown d [] (tracks_at (d.opened - 1) ids) 0 []
tracks_add [] d = sym (grown_none d)
tracks_add (id ∷ ids) d = tracks_add ids (with_track id d) ∙ simp (append-nil, add-zero, append_assoc)

member_adds : (m : Member) (d : Document) → with_member m d ≡ grown d [] (tracks_at (d.opened - 1) (tracks_of m)) 0 (ids_of m)
member_adds (number key n) d = go (eqb key subnet_id)
  where
    go : (b : Bool) → cond b (with_id n d) d ≡ grown d [] [] 0 (cond b (n ∷ []) [])
    go true = simp (append-nil, add-zero)
    go false = simp (append-nil, add-zero)
member_adds (type t) d = sym (grown_none d)
member_adds (track_list ids) d = tracks_add ids d

module _ (legs : List ℕ) where
  subnet_adds : (list : ℕ) → eqb list subnets ≡ true → (ms : List Member) (c : Constraint) (d : Document)
      → after_members legs list c d ms ≡ grown d [] (tracks_at (d.opened - 1) (flat tracks_of ms)) 0 (flat ids_of ms)
  subnet_adds list is [] c d = rw is (sym (grown_none d))
  subnet_adds list is (m ∷ ms) c d =
      let place : ℕ = d.opened - 1 in
      ap (λ (e : Document). after_members legs list (entry_with legs m c) e ms) (member_adds m d)
      ∙ subnet_adds list is ms (entry_with legs m c) (grown d [] (tracks_at place (tracks_of m)) 0 (ids_of m))
      ∙ simp (add-zero, append-nil, append_assoc, tracks-append)

  -- ---- the members of a constraint

  -- a constraint with what further members say
  abbrev filled : Constraint → List Member → Constraint
  filled c ms =
      record {
        kind = c.kind;
        first = said legs (λ key. eqb key first_leg) c.first ms;
        second = said legs (λ key. eqb key second_leg) c.second ms;
        low = said legs is_low c.low ms;
        high = said legs (λ key. eqb key max_connection) c.high ms;
        connection = said legs (λ key. eqb key connection_type) c.connection ms;
      }

  -- a key of a kind says nothing of subnets
  no_subnet_lem : (list seen : ℕ) → Among six_lists list → eqb list subnets ≡ false → (m : Member) → Allowed legs list seen m → (d : Document) → with_member m d ≡ d
  no_subnet_lem list seen known kind (number key n) allowed d =
      let other : eqb key subnet_id ≡ false =
      is_false (eqb key subnet_id) (λ e. eqb-false list subnets kind
      (id_of_subnet list known (subst (λ (k : ℕ). has (keys_of list) k ≡ true) (eqb-true key subnet_id e) allowed.carried))) in
      rw other
  no_subnet_lem list seen known kind (type t) allowed d = refl
  no_subnet_lem list seen known kind (track_list ids) allowed d = absurd (eqb-false list subnets kind (tracks_of-subnet list known allowed.carried))

  kind_adds : (list : ℕ) → Among six_lists list → eqb list subnets ≡ false → (ms : List Member) (seen : ℕ) → OkMembers legs list seen ms
      → (c : Constraint) (d : Document) → after_members legs list c d ms ≡ with_constraint (filled c ms) d
  kind_adds list known kind [] seen ok c d = rw kind
  kind_adds list known kind (m ∷ ms) seen ok c d =
      ap (λ (e : Document). after_members legs list (entry_with legs m c) e ms) (no_subnet_lem list seen known kind m ok.0 d)
      ∙ kind_adds list known kind ms (bit_or seen (key_of m)) ok.1 (entry_with legs m c) d

  -- ---- records

  subnet_record : (list : ℕ) → eqb list subnets ≡ true → (ms : List Member) (d : Document)
      → after_record legs list d ms ≡ grown d [] (tracks_at d.opened (flat tracks_of ms)) 1 (flat ids_of ms)
  subnet_record list is ms d =
      let back : d.opened + 1 - 1 ≡ d.opened = omega arith in
      subnet_adds list is ms (no_entry list) (opening list d) ∙ rw (is, back, add-zero)

  subnets_add : (list : ℕ) → eqb list subnets ≡ true → (rs : List (List Member)) (d : Document)
      → after_records legs list d rs ≡ grown d [] (tracks_from d.opened rs) (length rs) (flat (flat ids_of) rs)
  subnets_add list is [] d = sym (grown_none d)
  subnets_add list is (ms ∷ rs) d =
      let one : 1 + length rs ≡ suc (length rs) = omega arith in
      let first = grown d [] (tracks_at d.opened (flat tracks_of ms)) 1 (flat ids_of ms) in
      ap (λ (e : Document). after_records legs list e rs) (subnet_record list is ms d)
      ∙ subnets_add list is rs first
      ∙ grown_twice d [] [] (tracks_at d.opened (flat tracks_of ms)) (tracks_from (d.opened + 1) rs) 1 (length rs) (flat ids_of ms) (flat (flat ids_of) rs)
      ∙ rw one

  kinds_add : (list : ℕ) → Among six_lists list → eqb list subnets ≡ false → (rs : List (List Member)) → All (OkMembers legs list 0) rs → (d : Document)
      → after_records legs list d rs ≡ grown d (map (constraint_of legs list) rs) [] 0 []
  kinds_add list known kind [] ok d = sym (grown_none d)
  kinds_add list known kind (ms ∷ rs) ok d =
      let same : opening list d ≡ d = rw kind in
      ap (λ (e : Document). after_records legs list e rs)
      (ap (λ (e : Document). after_members legs list (no_entry list) e ms) same ∙ kind_adds list known kind ms 0 ok.0 (no_entry list) d)
      ∙ kinds_add list known kind rs ok.1 (with_constraint (constraint_of legs list ms) d)
      ∙ simp append_assoc

  -- ---- lists

  lists_add : (v : Value) (seen : ℕ) → OkLists legs seen v → (d : Document)
      → after_lists legs d v ≡ grown d (constraints_in legs v) (tracks_from d.opened (subnets_in v)) (length (subnets_in v)) (flat (flat ids_of) (subnets_in v))
  lists_add [] seen ok d = sym (grown_none d)
  lists_add (l ∷ ls) seen ok d = go (eqb l.list subnets) refl (λ e. lists_add ls (bit_or seen (list_bit l.list)) ok.1 e)
    where
      go : (b : Bool) → eqb l.list subnets ≡ b
          → ((e : Document) → after_lists legs e ls
          ≡ grown e (constraints_in legs ls) (tracks_from e.opened (subnets_in ls)) (length (subnets_in ls)) (flat (flat ids_of) (subnets_in ls)))
          → after_lists legs (after_records legs l.list d l.records) ls
          ≡ grown d (cond b [] (map (constraint_of legs l.list) l.records) ++ constraints_in legs ls)
          (tracks_from d.opened (cond b l.records [] ++ subnets_in ls)) (length (cond b l.records [] ++ subnets_in ls))
          (flat (flat ids_of) (cond b l.records [] ++ subnets_in ls))
      go true is rest =
          let now = grown d [] (tracks_from d.opened l.records) (length l.records) (flat (flat ids_of) l.records) in
          ap (λ (e : Document). after_lists legs e ls) (subnets_add l.list is l.records d)
          ∙ rest now
          ∙ grown_twice d [] (constraints_in legs ls) (tracks_from d.opened l.records) (tracks_from (d.opened + length l.records) (subnets_in ls))
          (length l.records) (length (subnets_in ls)) (flat (flat ids_of) l.records) (flat (flat ids_of) (subnets_in ls))
          ∙ simp (from_append, length-append, flat_append)
      go false kind rest =
          let now = grown d (map (constraint_of legs l.list) l.records) [] 0 [] in
          ap (λ (e : Document). after_lists legs e ls) (kinds_add l.list ok.0.in_lists kind l.records ok.0.records d)
          ∙ rest now
          ∙ grown_twice d (map (constraint_of legs l.list) l.records) (constraints_in legs ls) [] (tracks_from (d.opened + 0) (subnets_in ls))
          0 (length (subnets_in ls)) [] (flat (flat ids_of) (subnets_in ls))
          ∙ simp (add-zero, zero-add)

  pub document_means : (v : Value) → OkLists legs 0 v → after_lists legs empty v ≡ document_of legs v
  unfolding document_of
  document_means v ok = lists_add v 0 ok empty ∙ rw zero-add
