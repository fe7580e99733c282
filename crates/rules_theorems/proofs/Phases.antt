-- The invariant of the run: what holds in each phase of the record that is being read. Assumes nothing.
use Prim.Native.Nat.{ℕ, ◌+◌, ◌≤◌, ◌<◌}
use mathlib.Core.Path.{◌≡◌, refl, sym, ap, subst, ◌∙◌}
use mathlib.Core.Bool.{Bool, true, false, not, cond, ◌&&◌}
use mathlib.Core.List.{List, [], ◌∷◌, ◌++◌}
use native.Mathlib.Omega.{arith}
use lib.Dec.{eqb}
use lib.Bits.{bit_and, bit_or}
use lib.ListN.{length, length-append}
use Rattle.rules.specs.Limits.{most_constraints}
use Rattle.rules.specs.Kinds.{subnets, subnet_id}
use Rattle.rules.specs.Constraints.{Document, with_id, entered, keys_of}
use Rattle.rules.specs.declared.sizes.Constraint.{Constraint}
use Rattle.rules.specs.declared.tokens.Phase.{Phase}
use Rattle.rules.specs.declared.tokens.Phase.TheVariants.{Document as Text, FirstName, Name, NameColon, ListOpen, AfterList, FirstRecord, Record, AfterRecord, FirstKey, NextKey, KeyColon, Value, AfterValue, FirstTrack, NextTrack, AfterTrack, Done}
use Rattle.rules.specs.declared.tokens.State.{State}
use Rattle.rules_theorems.specs.LawfulDocument.{LawfulTables}
use Rattle.rules_theorems.proofs.Keys.{among, lists, keys, has, has_other, has_now, apart, id_of_subnet}
use Rattle.rules_theorems.proofs.Entries.{nothing-fits, Entry, Fits, enter}

-- a subnet is open that has no id yet
abbrev pub pending : (list given : ℕ) → ℕ
pending list given = cond (eqb list subnets && not (has given subnet_id)) 1 0

-- outside of all lists
abbrev pub Outside : Document → Type 0
Outside d = length d.ids ≡ d.opened

pub record InList (list : ℕ) (d : Document) : Type 0 where
  pub in_lists : among lists list ≡ true
  pub ids : Outside d

module _ (legs : List ℕ) (constraints : ℕ) where
  -- in a record whose given keys have their values; its place in the tables was looked for when it was opened
  pub record InRecord (list given : ℕ) (c : Constraint) (d : Document) : Type 0 where
    pub in_lists : among lists list ≡ true
    pub entry : Entry legs list given c
    pub in_limit : eqb list subnets ≡ false → length d.constraints < most_constraints
    pub in_room : eqb list subnets ≡ false → length d.constraints < constraints
    pub open_subnet : list ≡ subnets → 1 ≤ d.opened
    pub ids : length d.ids + pending list given ≡ d.opened

  -- at a key that has no value yet
  pub record AtValue (list key seen : ℕ) (c : Constraint) (d : Document) : Type 0 where
    pub given : ℕ
    pub before : InRecord list given c d
    pub seen_now : seen ≡ bit_or given key
    pub fresh : bit_and given key ≡ 0
    pub in_keys : among keys key ≡ true
    pub carried : has (keys_of list) key ≡ true

  pub record InTracks (list given : ℕ) (c : Constraint) (d : Document) : Type 0 where
    pub inside : InRecord list given c d
    pub of_subnet : list ≡ subnets

  -- by phase: outside of the lists, in a list, in a record, at a key without its value, in a list of tracks
  abbrev pub Holds : Phase → State → Document → Type 0
  Holds Text st d = Outside d
  Holds FirstName st d = Outside d
  Holds Name st d = Outside d
  Holds NameColon st d = InList st.list d
  Holds ListOpen st d = InList st.list d
  Holds AfterList st d = Outside d
  Holds FirstRecord st d = InList st.list d
  Holds Record st d = InList st.list d
  Holds AfterRecord st d = InList st.list d
  Holds FirstKey st d = InRecord st.list st.keys st.entry d
  Holds NextKey st d = InRecord st.list st.keys st.entry d
  Holds KeyColon st d = AtValue st.list st.key st.keys st.entry d
  Holds Value st d = AtValue st.list st.key st.keys st.entry d
  Holds AfterValue st d = InRecord st.list st.keys st.entry d
  Holds FirstTrack st d = InTracks st.list st.keys st.entry d
  Holds NextTrack st d = InTracks st.list st.keys st.entry d
  Holds AfterTrack st d = InTracks st.list st.keys st.entry d
  Holds Done st d = Outside d

  -- THE INVARIANT
  pub record Keeps (tracks : ℕ) (st : State) (d : Document) : Type 0 where
    pub tables : LawfulTables legs constraints tracks d
    pub holds : Holds st.phase st d

  -- ---- a key has its value

  module _ (list key seen : ℕ) (c : Constraint) (d : Document) (at : AtValue list key seen c d) where
    -- the entry has it
    entry_given : (n : ℕ) → Fits legs key n → Entry legs list seen (entered key n c)
    entry_given n fits =
        subst (λ (s : ℕ). Entry legs list s (entered key n c)) (sym at.seen_now)
        (enter legs list at.given key n c at.before.in_lists at.in_keys at.carried fits at.before.entry)

    -- any key but a subnet's id: the tables stay as they are
    pub value_given : (n : ℕ) → eqb key subnet_id ≡ false → Fits legs key n → InRecord list seen (entered key n c) d
    value_given n other fits =
        let as_before : has seen subnet_id ≡ has at.given subnet_id =
        ap (λ (s : ℕ). has s subnet_id) at.seen_now ∙ has_other at.given key subnet_id (apart subnet_id refl key at.in_keys other) in
        record {
          in_lists = at.before.in_lists;
          entry = entry_given n fits;
          in_limit = at.before.in_limit;
          in_room = at.before.in_room;
          open_subnet = at.before.open_subnet;
          ids = ap (λ (b : Bool). length d.ids + cond (eqb list subnets && not b) 1 0) as_before ∙ at.before.ids;
        }

  -- a subnet's id
  pub id_given : (list seen id : ℕ) (c : Constraint) (d : Document) → AtValue list subnet_id seen c d → InRecord list seen c (with_id id d)
  id_given list seen id c d at =
      let is : list ≡ subnets = id_of_subnet list at.before.in_lists at.carried in
      let before : pending list at.given ≡ 1 = rw (is, at.fresh) in
      let now : pending list seen ≡ 0 = rw (is, at.seen_now, has_now at.given subnet_id at.fresh) in
      let more : length (d.ids ++ id ∷ []) ≡ length d.ids + 1 = length-append d.ids (id ∷ []) in
      record {
        in_lists = at.before.in_lists;
        entry = entry_given list subnet_id seen c d at 0 (nothing-fits legs subnet_id refl refl refl);
        in_limit = at.before.in_limit;
        in_room = at.before.in_room;
        open_subnet = at.before.open_subnet;
        ids = omega (arith, at.before.ids);
      }
