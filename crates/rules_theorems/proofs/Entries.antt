-- The record that is being read: what its entry holds by the keys that were given. Assumes nothing.
use Prim.Native.Nat.{ℕ, ◌≤◌, ◌<◌}
use mathlib.Core.Path.{◌≡◌, refl, sym, ap, subst, ◌∙◌}
use mathlib.Core.Bool.{Bool, true, false, ◌&&◌, ◌||◌, true≢false}
use mathlib.Core.List.{List}
use mathlib.Core.Logic.{◌⊎◌, inl, inr}
use native.Mathlib.Omega.{arith}
use lib.Dec.{eqb, leb}
use lib.Bits.{bit_and, bit_or}
use lib.ListN.{length}
use borrow.Author.Tests.{eqb-true, leb-true}
use Rattle.rules.specs.Limits.{most_seconds}
use Rattle.rules.specs.Lists.{every}
use Rattle.std.specs.Prelude.{is_some, unwrap_or}
use Rattle.rules.specs.Kinds.{headway, single_track, connection, subnets, first_leg, second_leg, max_connection, connection_type, by_arrival, by_departure, no_type}
use Rattle.rules.specs.Constraints.{keys_of, is_low, entered, no_entry, row_of_leg}
use Rattle.rules.specs.declared.sizes.Constraint.{Constraint}
use Rattle.rules_theorems.specs.LawfulDocument.{LawfulConstraint}
use Rattle.rules.proofs.Truth.{by_case}
use Rattle.rules_theorems.proofs.DocumentWords.{passed, and_first, and_second, or_else, or_left, place_within}
use Rattle.rules_theorems.proofs.Keys.{among, lists, keys, types, has, has_other, apart, most_of_connection, type_of_connection, first_of_kinds, second_of_kinds, connection_has_type, single_has_no_low}

-- a connection type
abbrev pub IsType : ℕ → Type 0
IsType n = (n ≡ by_arrival) ⊎ (n ≡ by_departure)

module _ (legs : List ℕ) where
  -- given: the keys whose values were read
  pub record Entry (list given : ℕ) (c : Constraint) : Type 0 where
    pub kind : c.kind ≡ list
    pub first_row_lem : has given first_leg ≡ true → c.first < length legs
    pub second_row_lem : has given second_leg ≡ true → c.second < length legs
    pub low_in_range : c.low ≤ most_seconds
    pub high_in_range : c.high ≤ most_seconds
    pub no_low : list ≡ single_track → c.low ≡ 0
    pub no_high : (list ≡ connection → ⊥) → c.high ≡ 0
    pub a_type : has given connection_type ≡ true → IsType c.connection
    pub no_type_lem : (list ≡ connection → ⊥) → c.connection ≡ no_type

  -- a number that a key may have
  pub record Fits (key n : ℕ) : Type 0 where
    pub first_row_lem : eqb key first_leg ≡ true → n < length legs
    pub second_row_lem : eqb key second_leg ≡ true → n < length legs
    pub low_in_range : is_low key ≡ true → n ≤ most_seconds
    pub high_in_range : eqb key max_connection ≡ true → n ≤ most_seconds
    pub a_type : eqb key connection_type ≡ true → IsType n

  -- ---- numbers that fit

  -- a leg that is there has a row
  pub row_within : (id : ℕ) → is_some (row_of_leg legs id) ≡ true → unwrap_or (row_of_leg legs id) 0 < length legs
  row_within id there = omega (arith, place_within (λ leg. eqb leg id) legs 0 there)

  -- a type
  pub type_fits : (n : ℕ) → among types n ≡ true → Fits connection_type n
  type_fits n known =
      record {
        first_row_lem = λ h. absurd (true≢false (sym h));
        second_row_lem = λ h. absurd (true≢false (sym h));
        low_in_range = λ h. absurd (true≢false (sym h));
        high_in_range = λ h. absurd (true≢false (sym h));
        a_type = λ h. go (eqb n by_arrival) refl known;
      }
    where
      go : (b : Bool) → eqb n by_arrival ≡ b → b || (eqb n by_departure || false) ≡ true → IsType n
      go true e h = inl (eqb-true n by_arrival e)
      go false e h = inr (eqb-true n by_departure (or_left _ h))

  -- a key that has no place in the entry
  pub nothing-fits : (key : ℕ) → eqb key first_leg ≡ false → eqb key second_leg ≡ false → eqb key connection_type ≡ false → Fits key 0
  nothing-fits key no_first no_second no_type_lem =
      record {
        first_row_lem = λ h. absurd (true≢false (sym h ∙ no_first));
        second_row_lem = λ h. absurd (true≢false (sym h ∙ no_second));
        low_in_range = λ h. omega arith;
        high_in_range = λ h. omega arith;
        a_type = λ h. absurd (true≢false (sym h ∙ no_type_lem));
      }

  -- ---- the entry of a record

  -- a record starts with no key
  pub entry_starts : (list : ℕ) → Entry list 0 (no_entry list)
  entry_starts list =
      record {
        kind = refl;
        first_row_lem = λ h. absurd (true≢false (sym h));
        second_row_lem = λ h. absurd (true≢false (sym h));
        low_in_range = omega arith;
        high_in_range = omega arith;
        no_low = λ h. refl;
        no_high = λ h. refl;
        a_type = λ h. absurd (true≢false (sym h));
        no_type_lem = λ h. refl;
      }

  -- one more key, with a number that fits it
  module _ (list given key n : ℕ) (c : Constraint)
      (in_lists : among lists list ≡ true) (in_keys : among keys key ≡ true) (carries : has (keys_of list) key ≡ true) where
    -- another key was given before, if it is given now
    before : (other : ℕ) → every (λ k. eqb k other || eqb (bit_and k other) 0) keys ≡ true
        → eqb key other ≡ false → has (bit_or given key) other ≡ true → has given other ≡ true
    before other table differ h = sym (has_other given key other (apart other table key in_keys differ)) ∙ h

    carries_as : (k : ℕ) → eqb key k ≡ true → has (keys_of list) k ≡ true
    carries_as k e = subst (λ (x : ℕ). has (keys_of list) x ≡ true) (eqb-true key k e) carries

    pub enter : Fits key n → Entry list given c → Entry list (bit_or given key) (entered key n c)
    enter fits entry =
        record {
          kind = entry.kind;
          first_row_lem = λ h. by_case (λ v. v < length legs) (eqb key first_leg) n c.first fits.first_row_lem (λ e. entry.first_row_lem (before first_leg refl e h));
          second_row_lem = λ h. by_case (λ v. v < length legs) (eqb key second_leg) n c.second fits.second_row_lem (λ e. entry.second_row_lem (before second_leg refl e h));
          low_in_range = by_case (λ v. v ≤ most_seconds) (is_low key) n c.low fits.low_in_range (λ e. entry.low_in_range);
          high_in_range = by_case (λ v. v ≤ most_seconds) (eqb key max_connection) n c.high fits.high_in_range (λ e. entry.high_in_range);
          no_low = λ h. by_case (λ v. v ≡ 0) (is_low key) n c.low
              (λ e. absurd (single_has_no_low key in_keys (subst (λ (l : ℕ). has (keys_of l) key ≡ true) h carries) e)) (λ e. entry.no_low h);
          no_high = λ h. by_case (λ v. v ≡ 0) (eqb key max_connection) n c.high
              (λ e. absurd (h (most_of_connection list in_lists (carries_as max_connection e)))) (λ e. entry.no_high h);
          a_type = λ h. by_case IsType (eqb key connection_type) n c.connection fits.a_type (λ e. entry.a_type (before connection_type refl e h));
          no_type_lem = λ h. by_case (λ v. v ≡ no_type) (eqb key connection_type) n c.connection
              (λ e. absurd (h (type_of_connection list in_lists (carries_as connection_type e)))) (λ e. entry.no_type_lem h);
        }

  -- a record with all the keys of its kind is a lawful constraint
  pub entry_lawful : (list given : ℕ) (c : Constraint) → among lists list ≡ true → eqb list subnets ≡ false → given ≡ keys_of list
      → Entry list given c → LawfulConstraint legs c
  entry_lawful list given c in_lists kind all entry =
      let range = passed (λ l. leb headway l && (eqb l subnets || leb l connection)) lists list refl in_lists in
      let low : headway ≤ list = leb-true headway list (and_first (leb headway list) _ range) in
      let high : list ≤ connection = leb-true list connection (or_else (eqb list subnets) _ (and_second (leb headway list) _ range) kind) in
      let same = entry.kind in
      record {
        from_first_kind = omega arith;
        to_last_kind = omega arith;
        first_is_row = entry.first_row_lem (ap (λ (s : ℕ). has s first_leg) all ∙ first_of_kinds list in_lists kind);
        second_is_row = entry.second_row_lem (ap (λ (s : ℕ). has s second_leg) all ∙ second_of_kinds list in_lists kind);
        low_in_range = entry.low_in_range;
        high_in_range = entry.high_in_range;
        no_low = λ h. entry.no_low (sym same ∙ h);
        no_high = λ h. entry.no_high (λ e. h (same ∙ e));
        a_type = λ h. entry.a_type (ap (λ (s : ℕ). has s connection_type) (all ∙ ap keys_of (sym same ∙ h)) ∙ connection_has_type);
        no_type_lem = λ h. entry.no_type_lem (λ e. h (same ∙ e));
      }
