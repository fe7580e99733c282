-- A lawful value passes the tests of names and values one after the other, and a value that passes them is lawful. Assumes nothing.
use Prim.Native.Nat.{ℕ}
use mathlib.Core.Path.{◌≡◌, refl, sym, ap, ◌∙◌}
use mathlib.Core.Bool.{true, not, ◌||◌}
use mathlib.Core.List.{List, [], ◌∷◌, map}
use native.Mathlib.Omega.{arith}
use lib.Dec.{eqb}
use lib.Bits.{bit_and, bit_or, or_add_and}
use borrow.Author.Tests.{eqb-true}
use Rattle.rules.specs.Lists.{any, every}
use Rattle.rules.specs.Constraints.{keys_of, list_bit, all_lists}
use Rattle.rules.specs.Verdict.{All}
use Rattle.rules.proofs.Truth.{all_map}
use Rattle.rules_theorems.proofs.Keys.{has}
use Rattle.rules_theorems.proofs.DocumentWords.{passed, or_else}
use Rattle.rules_json.specs.Written.{all_keys}
use Rattle.rules_json.specs.Value.{Member, key_of, Listed, Value, six_lists, keys_in, Among, Once, in_range, LawfulRecord}
use Rattle.rules_json.proofs.Same.{OkMembers, OkLists}
use Rattle.rules_json.proofs.Sets.{among_all, tested-among, Within, Fresh, union, all_within, once_passes, passes_once}

-- ---- the table of the keys and the sets of keys, as computed

lists_known : All (Among six_lists) six_lists
lists_known = (refl, (refl, (refl, (refl, (refl, (refl, tt))))))

lists_within : All (λ n. Within (list_bit n) all_lists) six_lists
lists_within = (refl, (refl, (refl, (refl, (refl, (refl, tt))))))

-- the keys of a list are keys; its set has them, and no other
module _ (list : ℕ) (in_lists : Among six_lists list) where
  keys_in-known : All (Among all_keys) (keys_in list)
  keys_in-known = tested-among all_keys (keys_in list) (passed (λ l. every (λ key. any (eqb key) all_keys) (keys_in l)) six_lists list refl in_lists)

  in_table_carried : (key : ℕ) → Among (keys_in list) key → has (keys_of list) key ≡ true
  unfolding keys_of
  in_table_carried key there =
      passed (has (keys_of list)) (keys_in list) key (passed (λ l. every (has (keys_of l)) (keys_in l)) six_lists list refl in_lists) there

  carried_in_table : (key : ℕ) → Among all_keys key → has (keys_of list) key ≡ true → Among (keys_in list) key
  unfolding keys_of
  carried_in_table key known carried =
      let row = passed (λ l. every (λ k. not (has (keys_of l) k) || any (eqb k) (keys_in l)) all_keys) six_lists list refl in_lists in
      or_else (not (has (keys_of list) key)) _ (passed (λ k. not (has (keys_of list) k) || any (eqb k) (keys_in list)) all_keys key row known) (ap not carried)

  keys_full : union (λ key. key) 0 (keys_in list) ≡ keys_of list
  unfolding keys_of
  keys_full = eqb-true _ _ (passed (λ l. eqb (union (λ key. key) 0 (keys_in l)) (keys_of l)) six_lists list refl in_lists)

module _ (legs : List ℕ) where
  -- ---- a record

  module _ (list : ℕ) (in_lists : Among six_lists list) where
    members_pass : (ms : List Member) (seen : ℕ) → Fresh (λ key. key) seen (map key_of ms) → union (λ key. key) seen (map key_of ms) ≡ keys_of list
        → All (Among (keys_in list)) (map key_of ms) → All (λ m. in_range legs m ≡ true) ms → OkMembers legs list seen ms
    members_pass [] seen fresh full known values = full
    members_pass (m ∷ ms) seen fresh full known values = (
      record {
        in_keys = among_all (Among all_keys) (keys_in list) (keys_in-known list in_lists) (key_of m) known.0;
        carried = in_table_carried list in_lists (key_of m) known.0;
        fresh = fresh.0;
        value = values.0;
      },
      members_pass ms (bit_or seen (key_of m)) fresh.1 full known.1 values.1,
    )

    -- and back
    pub record Passed (seen : ℕ) (ms : List Member) : Type 0 where
      pub fresh : Fresh (λ key. key) seen (map key_of ms)
      pub full : union (λ key. key) seen (map key_of ms) ≡ keys_of list
      pub known : All (Among (keys_in list)) (map key_of ms)
      pub values : All (λ m. in_range legs m ≡ true) ms

    members_passed : (ms : List Member) (seen : ℕ) → OkMembers legs list seen ms → Passed seen ms
    members_passed [] seen ok = record { fresh = tt; full = ok; known = tt; values = tt }
    members_passed (m ∷ ms) seen ok =
        let rest = members_passed ms (bit_or seen (key_of m)) ok.1 in
        record {
          fresh = (ok.0.fresh, rest.fresh);
          full = rest.full;
          known = (carried_in_table list in_lists (key_of m) ok.0.in_keys ok.0.carried, rest.known);
          values = (ok.0.value, rest.values);
        }

    module _ (ms : List Member) where
      record_passes : LawfulRecord legs list ms → OkMembers legs list 0 ms
      record_passes lawful =
          let pass = once_passes all_keys (λ key. key) refl refl (keys_in list) (keys_in-known list in_lists) (map key_of ms) lawful.keys in
          members_pass ms 0 pass.0 (pass.1 ∙ keys_full list in_lists) lawful.keys.known lawful.values

      record_passed : OkMembers legs list 0 ms → LawfulRecord legs list ms
      record_passed ok =
          let passed = members_passed ms 0 ok in
          record {
            keys = passes_once all_keys (λ key. key) refl refl (keys_in list) (keys_in-known list in_lists) (map key_of ms)
                passed.known passed.fresh (passed.full ∙ sym (keys_full list in_lists));
            values = passed.values;
          }

  -- ---- a document

  abbrev LawfulList : Listed → Type 0
  LawfulList l = All (LawfulRecord legs l.list) l.records

  lists_pass : (v : Value) (seen : ℕ) → Fresh list_bit seen (map (λ l. l.list) v) → union list_bit seen (map (λ l. l.list) v) ≡ all_lists
      → All (Among six_lists) (map (λ l. l.list) v) → All LawfulList v → OkLists legs seen v
  lists_pass [] seen fresh full known records = ap (λ (s : ℕ). bit_and s all_lists) full
  lists_pass (l ∷ ls) seen fresh full known records = (
    record {
      in_lists = known.0;
      fresh = fresh.0;
      records = all_map (LawfulRecord legs l.list) (OkMembers legs l.list 0) (record_passes l.list known.0) l.records records.0;
    },
    lists_pass ls (bit_or seen (list_bit l.list)) fresh.1 full known.1 records.1,
  )

  pub record PassedLists (seen : ℕ) (v : Value) : Type 0 where
    pub fresh : Fresh list_bit seen (map (λ l. l.list) v)
    pub full : bit_and (union list_bit seen (map (λ l. l.list) v)) all_lists ≡ all_lists
    pub known : All (Among six_lists) (map (λ l. l.list) v)
    pub records : All LawfulList v

  lists_passed : (v : Value) (seen : ℕ) → OkLists legs seen v → PassedLists seen v
  lists_passed [] seen ok = record { fresh = tt; full = ok; known = tt; records = tt }
  lists_passed (l ∷ ls) seen ok =
      let rest = lists_passed ls (bit_or seen (list_bit l.list)) ok.1 in
      record {
        fresh = (ok.0.fresh, rest.fresh);
        full = rest.full;
        known = (ok.0.in_lists, rest.known);
        records = (
          all_map (OkMembers legs l.list 0) (LawfulRecord legs l.list) (record_passed l.list ok.0.in_lists) l.records ok.0.records,
          rest.records,
        );
      }

  pub value_passes : (v : Value) → Once six_lists (map (λ l. l.list) v) → All LawfulList v → OkLists legs 0 v
  value_passes v lists records =
      let pass = once_passes six_lists list_bit refl refl six_lists lists_known (map (λ l. l.list) v) lists in
      lists_pass v 0 pass.0 pass.1 lists.known records

  pub record Lists (v : Value) : Type 0 where
    pub lists : Once six_lists (map (λ l. l.list) v)
    pub records : All LawfulList v

  pub value_passed : (v : Value) → OkLists legs 0 v → Lists v
  value_passed v ok =
      let passed = lists_passed v 0 ok in
      let all : ℕ = union list_bit 0 (map (λ l. l.list) v) in
      let within : Within all all_lists =
      all_within six_lists list_bit refl refl (map (λ l. l.list) v) 0 all_lists refl
      (all_map (Among six_lists) (λ n. Within (list_bit n) all_lists) (among_all (λ n. Within (list_bit n) all_lists) six_lists lists_within)
      (map (λ l. l.list) v) passed.known) in
      let both = or_add_and all all_lists in
      let same : all ≡ all_lists = omega (arith, passed.full) in
      record {
        lists = passes_once six_lists list_bit refl refl six_lists lists_known (map (λ l. l.list) v) passed.known passed.fresh same;
        records = passed.records;
      }
