-- An id among those before it, looked for row by row. Assumes nothing.
use Prim.Native.Nat.{ℕ, suc, ◌+◌, ◌*◌, ◌-◌, ◌/◌, ◌≤◌, ◌<◌}
use mathlib.Core.Path.{◌≡◌, ap, sym, ◌∙◌}
use mathlib.Core.Bool.{Bool, true, false, not, ◌||◌}
use mathlib.Core.List.{List}
use native.Mathlib.Omega.{arith}
use native.Mathlib.Nat.{sub-zero}
use lib.Dec.{eqb}
use lib.ListN.{length, get_or, drop}
use lib.Seq.{get_or-drop, drop-drop}
use borrow.Author.Tests.{lt-leb, le-ltb, eq-eqb, ne_eqb}
use Rattle.rules.specs.Limits.{leg_width}
use Rattle.rules.specs.Lists.{any}
use Rattle.timetable_row.specs.RowOver.{ids_in, is_new}

module _ (rows above id : ℕ) (legs : List ℕ) where
  abbrev pub Seen : ℕ → Bool
  Seen i = any (λ x. eqb x id) (ids_in (rows - i) (drop (i * leg_width) legs))

  whole : Seen 0 ≡ any (λ x. eqb x id) (ids_in rows legs)
  whole = rw (sub-zero rows)

  seen_first : (i : ℕ) → i < rows → Seen i ≡ (eqb (get_or legs (i * leg_width + 0) 0) id || Seen (i + 1))
  seen_first i h =
      let n : rows - i ≡ suc (rows - (i + 1)) = omega arith in
      let next : i * leg_width + leg_width ≡ (i + 1) * leg_width = omega arith in
      rw (n, get_or-drop (i * leg_width) legs 0 0, drop-drop leg_width (i * leg_width) legs, next)

  pub seen_here : (i : ℕ) → id < above → rows ≤ length legs / leg_width → i < rows → Seen i ≡ Seen 0 → get_or legs (i * leg_width + 0) 0 ≡ id → false ≡ is_new rows above id legs
  seen_here i h l k e q =
      let here : true ≡ Seen i = sym (seen_first i k ∙ rw (eq-eqb (get_or legs (i * leg_width + 0) 0) id q)) in
      rw (lt-leb above id h, le-ltb (length legs / leg_width) rows l) (ap not (here ∙ e ∙ whole))

  pub seen_on : (i : ℕ) → i < rows → Seen i ≡ Seen 0 → (get_or legs (i * leg_width + 0) 0 ≡ id → ⊥) → Seen (i + 1) ≡ Seen 0
  seen_on i k e q = sym (seen_first i k ∙ rw (ne_eqb (get_or legs (i * leg_width + 0) 0) id q)) ∙ e
