-- Adding a run's quarters to the sums, one quarter after the other: those before its first and past its last it does not touch. Assumes nothing.
use Prim.Native.Nat.{ℕ, zero, suc, ◌+◌, ◌*◌, ◌-◌, ◌/◌, ◌≤◌, ◌<◌, ◌^◌}
use native.Mathlib.Omega.{arith}
use native.Mathlib.Nat.{le_trans, mul-le-mul_right, add-zero}
use mathlib.Core.Path.{◌≡◌, refl, sym, ap, ap₂, ◌∙◌, subst}
use mathlib.Core.Bool.{Bool, true, false, cond}
use mathlib.Core.List.{List}
use lib.Dec.{leb, ltb, eqb}
use lib.ListN.{length, get_or, set, length-set, get_or-eq_default}
use lib.Seq.{ext_get_or, get_or-set_same, get_or-set_other}
use lib.IntN.{ℤ, pos, nat_abs, ◌+ℤ◌, +ℤ_idr}
use mir.Syntax.{w64}
use mir.Val.{SFits, to_z, of_z}
use mir.Facts.{to_z-of_z, to_z_pos}
use borrow.Author.Tests.{lt-ltb, le-ltb, le-leb, lt-leb, eqb-true, eqb-false, ltb-true, ltb-false}
use Rattle.rules.specs.Limits.{quarter_seconds, most_quarters}
use Rattle.rules.specs.Energy.{sum_to, above, tabulate, seconds_of, quarter}
use Rattle.rules_theorems.specs.Sized.{most_power}
use Rattle.rules_theorems.specs.Laying.{Within}
use Rattle.rules_theorems.proofs.Sums.{sum_zero, sum_split}
use Rattle.rules_theorems.proofs.Parts.{above-part, size-part}
use Rattle.rules_theorems.proofs.Tabulate.{tabulate-length, tabulate-at}
use Rattle.energy_parts.specs.Quarters.{quarters_before, drawn_by, quarter_taken, with_run, RunRoom}
use Rattle.rules_theorems.proofs.Sizes.{fits_long}

-- ---- sums with numbers added, up to entry k

abbrev entry : (sums : List ℤ) → (q : ℕ → ℕ) → (k j : ℕ) → ℤ
entry sums q k j = get_or sums j (pos 0) +ℤ pos (cond (ltb j k) (q j) 0)

pub record Counting (sums : List ℤ) (q : ℕ → ℕ) (out : List ℤ) (k : ℕ) : Type 0 where
  pub long : length out ≡ most_quarters
  pub each : (j : ℕ) → get_or out j (pos 0) ≡ entry sums q k j

module _ (sums : List ℤ) (q : ℕ → ℕ) where
  -- entries that get nothing
  pub counting_begins : (k : ℕ) → length sums ≡ most_quarters → ((j : ℕ) → j < k → q j ≡ 0) → Counting sums q sums k
  counting_begins k long z =
      record { long = long; each = λ j. sym (ap (λ n. get_or sums j (pos 0) +ℤ pos n) (nothing j (ltb j k) refl) ∙ +ℤ_idr (get_or sums j (pos 0))) }
    where
      nothing : (j : ℕ) (b : Bool) → ltb j k ≡ b → cond b (q j) 0 ≡ 0
      nothing j true e = z j (ltb-true j k e)
      nothing j false e = refl

  module _ (out : List ℤ) (k : ℕ) (c : Counting sums q out k) where
    pub entry_untouched : get_or out k (pos 0) ≡ get_or sums k (pos 0)
    entry_untouched =
        c.each k ∙ ap (λ b. get_or sums k (pos 0) +ℤ pos (cond b (q k) 0)) (le-ltb k k (omega arith)) ∙ +ℤ_idr (get_or sums k (pos 0))

    pub entry_counted : k < most_quarters → (v : ℤ) → v ≡ get_or out k (pos 0) +ℤ pos (q k) → Counting sums q (set out k v) (k + 1)
    entry_counted h v e = record { long = length-set out k v ∙ c.long; each = λ j. go j (eqb j k) refl }
      where
        go : (j : ℕ) (b : Bool) → eqb j k ≡ b → get_or (set out k v) j (pos 0) ≡ entry sums q (k + 1) j
        go j true t =
            rw (eqb-true j k t)
            (get_or-set_same out k v (pos 0) (subst (λ n. k < n) (sym c.long) h)
            ∙ e
            ∙ ap (λ x. x +ℤ pos (q k)) entry_untouched
            ∙ sym (ap (λ b. get_or sums k (pos 0) +ℤ pos (cond b (q k) 0)) (lt-ltb k (k + 1) (omega arith))))
        go j false t =
            get_or-set_other out k j v (pos 0) (eqb-false j k t)
            ∙ c.each j
            ∙ ap (λ b. get_or sums j (pos 0) +ℤ pos (cond b (q j) 0)) (same (ltb j k) refl)
          where
            later : k ≤ j → (j ≡ k → ⊥) → k + 1 ≤ j
            later l n = omega arith

            same : (b : Bool) → ltb j k ≡ b → ltb j k ≡ ltb j (k + 1)
            same true l = l ∙ sym (lt-ltb j (k + 1) (omega (arith, ltb-true j k l)))
            same false l = l ∙ sym (le-ltb j (k + 1) (later (ltb-false j k l) (eqb-false j k t)))

    pub counting_ends : ((j : ℕ) → k ≤ j → q j ≡ 0) → out ≡ tabulate most_quarters (λ j. get_or sums j (pos 0) +ℤ pos (q j))
    counting_ends z =
        ext_get_or (pos 0) out (tabulate most_quarters total) (c.long ∙ sym (tabulate-length most_quarters total))
        (λ j h. c.each j ∙ ap (λ n. get_or sums j (pos 0) +ℤ pos n) (all j (ltb j k) refl) ∙ sym (tabulate-at most_quarters total (pos 0) j (subst (λ n. j < n) c.long h)))
      where
        total : ℕ → ℤ
        total j = get_or sums j (pos 0) +ℤ pos (q j)

        all : (j : ℕ) (b : Bool) → ltb j k ≡ b → cond b (q j) 0 ≡ q j
        all j true e = refl
        all j false e = sym (z j (ltb-false j k e))

-- ---- the quarters of a run

pub sum_most : (f : ℕ → ℕ) (b n : ℕ) → ((i : ℕ) → i < n → f i ≤ b) → sum_to f n ≤ n * b
sum_most f b zero h = omega arith
sum_most f b (suc n) h = omega (arith, sum_most f b n (λ i l. h i (omega arith)), h n (omega arith))

-- what is 0 from m on adds nothing
sum_cut : (f : ℕ → ℕ) (m n : ℕ) → m ≤ n → ((i : ℕ) → m ≤ i → i < n → f i ≡ 0) → sum_to f n ≡ sum_to f m
sum_cut f m n le z =
    let e : n ≡ m + (n - m) = omega arith in
    let rest : sum_to (λ i. f (m + i)) (n - m) ≡ 0 = sum_zero (λ i. f (m + i)) (n - m) (λ i l. z (m + i) (omega arith) (omega arith)) in
    ap (sum_to f) e ∙ sum_split f m (n - m) ∙ ap (λ r. sum_to f m + r) rest ∙ add-zero (sum_to f m)

-- no quarter has more than its seconds
pub quarter_most : (f : ℕ → ℕ) (b : ℕ) → ((t : ℕ) → f t ≤ b) → (H k : ℕ) → quarter f H k ≤ quarter_seconds * b
quarter_most f b h H k =
    le_trans (sum_most (λ j. f (quarter_seconds * k + j)) b (seconds_of H k) (λ j l. h (quarter_seconds * k + j))) (mul-le-mul_right b (omega arith))

module _ (start : ℕ) (run : List ℤ) where
  drawn-before : (t : ℕ) → t < start → drawn_by start run t ≡ 0
  drawn-before t h = ap (λ b. above (cond b (get_or run (t - start) (pos 0)) (pos 0))) (lt-leb start t h)

  drawn-after : (t : ℕ) → start + length run ≤ t → drawn_by start run t ≡ 0
  drawn-after t h =
      ap (λ b. above (cond b (get_or run (t - start) (pos 0)) (pos 0))) (le-leb start t (omega arith))
      ∙ ap above (get_or-eq_default run (pos 0) (omega arith))

  drawn-small : Within most_power run → (t : ℕ) → drawn_by start run t ≤ most_power
  drawn-small w t = go (leb start t)
    where
      go : (b : Bool) → above (cond b (get_or run (t - start) (pos 0)) (pos 0)) ≤ most_power
      go true = le_trans (above-part.small (get_or run (t - start) (pos 0))) (w (t - start))
      go false = omega arith

  -- before its first quarter
  pub quarters_ahead : (j : ℕ) → j < start / quarter_seconds → quarter_taken start run j ≡ 0
  unfolding quarter_taken
  quarters_ahead j h =
      sum_zero (λ i. drawn_by start run (quarter_seconds * j + i)) quarter_seconds (λ i l. drawn-before (quarter_seconds * j + i) (early j i h l))
    where
      early : (j i : ℕ) → j < start / quarter_seconds → i < quarter_seconds → quarter_seconds * j + i < start
      early j i h l = omega arith

  -- past its last
  pub quarters_past : (j : ℕ) → quarters_before (start + length run) ≤ j → quarter_taken start run j ≡ 0
  unfolding quarter_taken
  quarters_past j h =
      sum_zero (λ i. drawn_by start run (quarter_seconds * j + i)) quarter_seconds (λ i l. drawn-after (quarter_seconds * j + i) (late (start + length run) j i h))
    where
      late : (e j i : ℕ) → (e + (quarter_seconds - 1)) / quarter_seconds ≤ j → e ≤ quarter_seconds * j + i
      late e j i h = omega arith

  -- a run within the horizon: the seconds that the horizon cuts off have nothing of it
  pub taken_within : (H k : ℕ) → start + length run ≤ H → quarter_taken start run k ≡ quarter (drawn_by start run) H k
  unfolding quarter_taken
  taken_within H k h =
      sum_cut (λ i. drawn_by start run (quarter_seconds * k + i)) (seconds_of H k) quarter_seconds (omega arith)
      (λ i past l. drawn-after (quarter_seconds * k + i) (omega arith))

  pub run-quarter-small : Within most_power run → (k : ℕ) → quarter_taken start run k ≤ quarter_seconds * most_power
  unfolding quarter_taken
  run-quarter-small w k = sum_most (λ j. drawn_by start run (quarter_seconds * k + j)) most_power quarter_seconds (λ j l. drawn-small w (quarter_seconds * k + j))

-- ---- as the machine adds them

module _ (start : ℕ) (run sums : List ℤ) (room : RunRoom start run sums) where
  pub run-begins : length sums ≡ most_quarters → Counting sums (quarter_taken start run) sums (start / quarter_seconds)
  run-begins long = counting_begins sums (quarter_taken start run) (start / quarter_seconds) long (quarters_ahead start run)

  module _ (last : ℕ) (el : last ≡ quarters_before (start + length run))
      (out : List ℤ) (k : ℕ) (c : Counting sums (quarter_taken start run) out k) where
    pub run_ends : last ≤ k → out ≡ with_run start run sums
    unfolding with_run
    run_ends h = counting_ends sums (quarter_taken start run) out k c (λ j l. quarters_past start run j (subst (λ m. m ≤ j) el (le_trans h l)))

    module _ (h : k < last) (more : ℕ) (em : more ≡ quarter_taken start run k) where
      more-small : more ≤ quarter_seconds * most_power
      more-small = subst (λ n. n ≤ quarter_seconds * most_power) (sym em) (run-quarter-small start run room.powers k)

      pub more-fits : SFits w64 (pos more)
      more-fits = record { sfits = under more-small }
        where
          under : {n : ℕ} → n ≤ quarter_seconds * most_power → n < 2 ^ 63
          under l = omega arith

      entry_small : nat_abs (get_or out k (pos 0)) ≤ 2 ^ 62
      entry_small =
          subst (λ z. nat_abs z ≤ 2 ^ 62) (sym (entry_untouched sums (quarter_taken start run) out k c)) (room.sums_small k)

      sum_fits : SFits w64 (get_or out k (pos 0) +ℤ pos more)
      sum_fits = fits_long (under (size-part.add (get_or out k (pos 0)) (pos more)) entry_small more-small)
        where
          under : {s x n : ℕ} → s ≤ x + n → x ≤ 2 ^ 62 → n ≤ quarter_seconds * most_power → s < 2 ^ 63
          under a b c = omega arith

      held : to_z w64 (of_z w64 (get_or out k (pos 0))) +ℤ to_z w64 more ≡ get_or out k (pos 0) +ℤ pos more
      held = ap₂ ◌+ℤ◌ (to_z-of_z (fits_long {z = get_or out k (pos 0)} (under entry_small))) (to_z_pos w64 more-fits.sfits)
        where
          under : {x : ℕ} → x ≤ 2 ^ 62 → x < 2 ^ 63
          under b = omega arith

      pub sum-held : SFits w64 (to_z w64 (of_z w64 (get_or out k (pos 0))) +ℤ to_z w64 more)
      sum-held = rw held sum_fits

      pub quarter_added : k < most_quarters
          → Counting sums (quarter_taken start run) (set out k (to_z w64 (of_z w64 (to_z w64 (of_z w64 (get_or out k (pos 0))) +ℤ to_z w64 more)))) (k + 1)
      quarter_added l =
          entry_counted sums (quarter_taken start run) out k c l _ (ap (λ z. to_z w64 (of_z w64 z)) held ∙ to_z-of_z sum_fits ∙ ap (λ n. get_or out k (pos 0) +ℤ pos n) em)
