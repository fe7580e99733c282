-- The tables of a document stay lawful when one record more is added. Assumes nothing.
use Prim.Native.Nat.{ℕ, ◌+◌, ◌-◌, ◌≤◌, ◌<◌}
use mathlib.Core.Path.{◌≡◌, sym}
use mathlib.Core.Bool.{false}
use mathlib.Core.List.{List, [], ◌∷◌, ◌++◌}
use native.Mathlib.Omega.{arith}
use lib.Dec.{eqb}
use lib.ListN.{length, length-append}
use borrow.Author.Tests.{eqb-false}
use Rattle.rules.specs.Limits.{most_id, most_constraints, most_tracks}
use Rattle.rules.specs.Lists.{any}
use Rattle.rules.specs.declared.sizes.Constraint.{Constraint}
use Rattle.rules.specs.declared.sizes.Track.{Track}
use Rattle.rules_theorems.specs.LawfulDocument.{LawfulConstraint, LawfulTrack, LawfulConstraints, LawfulTracks, LawfulIds}
use Rattle.rules.proofs.Truth.{all_map}
use Rattle.rules_theorems.proofs.All.{all_more, none_passes, pairs_more}

pub constraint_added : (legs : List ℕ) (room : ℕ) (cs : List Constraint) (c : Constraint) → LawfulConstraint legs c
    → length cs < most_constraints → length cs < room → LawfulConstraints legs room cs → LawfulConstraints legs room (cs ++ c ∷ [])
constraint_added legs room cs c lawful low fits h =
    let more : length (cs ++ c ∷ []) ≡ length cs + 1 = length-append cs (c ∷ []) in
    record { each = all_more (LawfulConstraint legs) cs c h.each lawful; in_limit = omega arith; in_room = omega arith }

pub subnet_added : (opened room : ℕ) (ts : List Track) → LawfulTracks opened room ts → LawfulTracks (opened + 1) room ts
subnet_added opened room ts h =
    record {
      each = all_map (LawfulTrack opened) (LawfulTrack (opened + 1)) (λ t k. record { id_in_range = k.id_in_range; subnet_is_there = omega arith }) ts h.each;
      distinct = h.distinct;
      in_limit = h.in_limit;
      in_room = h.in_room;
    }

pub track_added : (opened room id : ℕ) (ts : List Track) → id ≤ most_id → 1 ≤ opened → any (λ k. eqb k.id id) ts ≡ false
    → length ts < most_tracks → length ts < room → LawfulTracks opened room ts
    → LawfulTracks opened room (ts ++ record { id = id; subnet = opened - 1 } ∷ [])
track_added opened room id ts low some-open new limit fits h =
    let track : Track = record { id = id; subnet = opened - 1 } in
    let more : length (ts ++ track ∷ []) ≡ length ts + 1 = length-append ts (track ∷ []) in
    record {
      each = all_more (LawfulTrack opened) ts track h.each (record { id_in_range = low; subnet_is_there = omega arith });
      distinct = pairs_more (λ x y. x.id ≡ y.id → ⊥) ts track h.distinct
          (all_map (λ x. eqb x.id id ≡ false) (λ x. x.id ≡ id → ⊥) (λ x differ. eqb-false x.id id differ) ts (none_passes (λ k. eqb k.id id) ts new));
      in_limit = omega arith;
      in_room = omega arith;
    }

pub id_added : (id : ℕ) (ids : List ℕ) → id ≤ most_id → any (eqb id) ids ≡ false → LawfulIds ids → LawfulIds (ids ++ id ∷ [])
id_added id ids low new h =
    record {
      each = all_more (λ k. k ≤ most_id) ids id h.each low;
      distinct = pairs_more (λ x y. x ≡ y → ⊥) ids id h.distinct
          (all_map (λ x. eqb id x ≡ false) (λ x. x ≡ id → ⊥) (λ x differ same. eqb-false id x differ (sym same)) ids (none_passes (eqb id) ids new));
    }
