-- A balance is changed where its node has the name: the loop, and each number after it. Assumes nothing.
use Prim.Native.Nat.{ℕ, zero, suc, ◌+◌, ◌-◌, ◌≤◌, ◌<◌, ◌^◌}
use native.Mathlib.Omega.{arith}
use mathlib.Core.Path.{◌≡◌, refl, sym, ap, ap₂, ◌∙◌}
use mathlib.Core.Bool.{Bool, true, false, cond}
use mathlib.Core.List.{List, [], ◌∷◌, ◌++◌}
use lib.ListN.{length, get_or, set, drop, replicate, length-set, length-replicate}
use lib.Seq.{get_or-set_same, get_or-set_other}
use lib.IntN.{ℤ, pos, nat_abs, ◌+ℤ◌, +ℤ_idr}
use mir.Syntax.{w32}
use mir.Val.{SFits, to_z, of_z}
use mir.Facts.{to_z-of_z}
use Rattle.rules.specs.Lists.{same_list, over}
use Rattle.rules.proofs.Truth.{by_case}
use Rattle.rules_theorems.specs.Laying.{add_at}
use Rattle.rules_theorems.proofs.Parts.{size-part}
use Rattle.rules_theorems.proofs.Sizes.{fits-small}
use Rattle.duties_nodes.specs.Nodes.{name_at, names_from, view}
use Rattle.duties_nodes.specs.Balances.{bumped_one, bumped_at, OneRoom, BumpRoom}
use Rattle.duties_nodes.proofs.Walking.{one_off}

-- ---- `clear`

pub cleared : (t u : List ℤ) (n : ℕ) → u ≡ replicate n (pos 0) → u ++ drop n t ≡ over (replicate n (pos 0)) t
unfolding over
cleared t u n e = ap (λ (x : List ℤ). x ++ drop n t) e ∙ ap (λ (k : ℕ). replicate n (pos 0) ++ drop k t) (sym (length-replicate n (pos 0)))

-- ---- `bump_one`

module _ (table : List ℕ) (i : ℕ) (t : List ℤ) (by : ℤ) (room : OneRoom table i t by) where
  abbrev here : ℤ
  here = get_or t i (pos 0)

  sum_fits : SFits w32 (here +ℤ by)
  sum_fits = fits-small (omega (arith, size-part.add here by, room.low, room.one))

  held : to_z w32 (of_z w32 here) +ℤ to_z w32 (of_z w32 by) ≡ here +ℤ by
  held =
      let hf : nat_abs here < 2 ^ 31 = omega (arith, room.low) in
      let bf : nat_abs by < 2 ^ 31 = omega (arith, room.one) in
      ap₂ ◌+ℤ◌ (to_z-of_z (fits-small {z = here} hf)) (to_z-of_z (fits-small {z = by} bf))

  pub sum-held : SFits w32 (to_z w32 (of_z w32 here) +ℤ to_z w32 (of_z w32 by))
  sum-held = rw held sum_fits

  module _ (name node : List ℕ) (b : Bool) (e : b ≡ same_list name node) where
    pub bump_hit : b ≡ true → set t i (to_z w32 (of_z w32 (to_z w32 (of_z w32 here) +ℤ to_z w32 (of_z w32 by)))) ≡ bumped_one name by i node t
    bump_hit y = rw (held, to_z-of_z sum_fits) (sym (rw (sym e ∙ y)))

    pub bump_miss : b ≡ false → t ≡ bumped_one name by i node t
    bump_miss n = sym (rw (sym e ∙ n))

-- ---- `bump`

one_long : (name : List ℕ) (by : ℤ) (i : ℕ) (n : List ℕ) (t : List ℤ) → length (bumped_one name by i n t) ≡ length t
one_long name by i n t = by_case (λ (u : List ℤ). length u ≡ length t) (same_list name n) (add_at t i by) t (λ e. length-set t i _) (λ e. refl)

one_other : (name : List ℕ) (by : ℤ) (i : ℕ) (n : List ℕ) (t : List ℤ) (k : ℕ) → (k ≡ i → ⊥) → get_or (bumped_one name by i n t) k (pos 0) ≡ get_or t k (pos 0)
one_other name by i n t k h =
    by_case (λ (u : List ℤ). get_or u k (pos 0) ≡ get_or t k (pos 0)) (same_list name n) (add_at t i by) t (λ e. get_or-set_other t i k _ (pos 0) h) (λ e. refl)

one_here : (name : List ℕ) (by : ℤ) (i : ℕ) (n : List ℕ) (t : List ℤ) → i < length t → get_or (bumped_one name by i n t) i (pos 0) ≡ get_or t i (pos 0) +ℤ cond (same_list name n) by (pos 0)
one_here name by i n t h = go (same_list name n)
  where
    go : (b : Bool) → get_or (cond b (add_at t i by) t) i (pos 0) ≡ get_or t i (pos 0) +ℤ cond b by (pos 0)
    go true = get_or-set_same t i _ (pos 0) h
    go false = sym (+ℤ_idr (get_or t i (pos 0)))

-- i of the nodes are looked at
pub record Bumping (text table : List ℕ) (n : ℕ) (name : List ℕ) (by : ℤ) (t₀ t : List ℤ) (i : ℕ) : Type 0 where
  pub within : i ≤ n
  pub long : length t ≡ length t₀
  pub rest : bumped_at name by i (names_from text table i (n - i)) t ≡ bumped_at name by 0 (view text table n) t₀
  pub ahead : (k : ℕ) → i ≤ k → get_or t k (pos 0) ≡ get_or t₀ k (pos 0)

module _ (text table : List ℕ) (n : ℕ) (name : List ℕ) (by : ℤ) (t₀ : List ℤ) where
  pub none-bumped : Bumping text table n name by t₀ t₀ 0
  none-bumped =
      let z : n - 0 ≡ n = omega arith in
      record { within = omega arith; long = refl; rest = ap (λ (m : ℕ). bumped_at name by 0 (names_from text table 0 m) t₀) z; ahead = λ k h. refl }

  module _ (t : List ℤ) (i : ℕ) (h : Bumping text table n name by t₀ t i) where
    pub all_bumped : n ≤ i → t ≡ bumped_at name by 0 (view text table n) t₀
    all_bumped l =
        let z : n - i ≡ 0 = omega arith in
        sym (ap (λ (m : ℕ). bumped_at name by i (names_from text table i m) t) z) ∙ h.rest

    pub one_room : BumpRoom table n t₀ by → i < n → OneRoom table i t by
    one_room room l = record { node = omega (arith, room.nodes); place = omega (arith, room.places, h.long); low = rw (h.ahead i (omega arith)) (room.low i l); one = room.one }

    pub one_bumped : i < n → (u : List ℤ) → u ≡ bumped_one name by i (name_at text table i) t → Bumping text table n name by t₀ u (i + 1)
    one_bumped l u e =
        record {
          within = omega arith;
          long = ap length e ∙ one_long name by i (name_at text table i) t ∙ h.long;
          rest =
              ap (bumped_at name by (i + 1) (names_from text table (i + 1) (n - (i + 1)))) e
              ∙ ap (λ (ns : List (List ℕ)). bumped_at name by i ns t) (sym (one_off text table n i l))
              ∙ h.rest;
          ahead = λ k m. ap (λ (x : List ℤ). get_or x k (pos 0)) e ∙ one_other name by i (name_at text table i) t k (off k m) ∙ h.ahead k (omega arith);
        }
      where
        off : (k : ℕ) → i + 1 ≤ k → k ≡ i → ⊥
        off k m = omega arith

-- ---- each number after it

module _ (name : List ℕ) (by : ℤ) where
  pub bumped_long : (i : ℕ) (ns : List (List ℕ)) (t : List ℤ) → length (bumped_at name by i ns t) ≡ length t
  bumped_long i [] t = refl
  bumped_long i (n ∷ ns) t = bumped_long (i + 1) ns (bumped_one name by i n t) ∙ one_long name by i n t

  -- before the nodes that are looked at
  bumped-before : (i : ℕ) (ns : List (List ℕ)) (t : List ℤ) (k : ℕ) → k < i → get_or (bumped_at name by i ns t) k (pos 0) ≡ get_or t k (pos 0)
  bumped-before i [] t k h = refl
  bumped-before i (n ∷ ns) t k h = bumped-before (i + 1) ns (bumped_one name by i n t) k (omega arith) ∙ one_other name by i n t k (λ e. absurd (omega arith))

  pub bumped-past : (i : ℕ) (ns : List (List ℕ)) (t : List ℤ) (k : ℕ) → i + length ns ≤ k → get_or (bumped_at name by i ns t) k (pos 0) ≡ get_or t k (pos 0)
  bumped-past i [] t k h = refl
  bumped-past i (n ∷ ns) t k h = bumped-past (i + 1) ns (bumped_one name by i n t) k (omega arith) ∙ one_other name by i n t k (λ e. absurd (omega arith))

  pub bumped_in : (i : ℕ) (ns : List (List ℕ)) (t : List ℤ) (k : ℕ) → k < length ns → i + length ns ≤ length t
      → get_or (bumped_at name by i ns t) (i + k) (pos 0) ≡ get_or t (i + k) (pos 0) +ℤ cond (same_list name (get_or ns k [])) by (pos 0)
  bumped_in i [] t k h l = absurd (omega arith)
  bumped_in i (n ∷ ns) t zero h l =
      let z : i + 0 ≡ i = omega arith in
      ap (λ (x : ℕ). get_or (bumped_at name by (i + 1) ns (bumped_one name by i n t)) x (pos 0)) z
      ∙ bumped-before (i + 1) ns (bumped_one name by i n t) i (omega arith)
      ∙ one_here name by i n t (omega arith)
      ∙ ap (λ (x : ℕ). get_or t x (pos 0) +ℤ cond (same_list name n) by (pos 0)) (sym z)
  bumped_in i (n ∷ ns) t (suc k) h l =
      let z : i + suc k ≡ i + 1 + k = omega arith in
      ap (λ (x : ℕ). get_or (bumped_at name by (i + 1) ns (bumped_one name by i n t)) x (pos 0)) z
      ∙ bumped_in (i + 1) ns (bumped_one name by i n t) k (omega arith) (omega (arith, one_long name by i n t))
      ∙ ap (λ (x : ℤ). x +ℤ cond (same_list name (get_or ns k [])) by (pos 0)) (one_other name by i n t (i + 1 + k) (λ e. absurd (omega arith)) ∙ ap (λ (x : ℕ). get_or t x (pos 0)) (sym z))
